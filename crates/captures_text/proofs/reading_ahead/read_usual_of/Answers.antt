-- Each usual record keeps what the reading so far has.
use Rattle.std.proofs.Common.{ℕ, List, Ok, ap, arith, subst}
use Rattle.std.proofs.lemmas.List.{length-drop, take_rest}
use Rattle.captures.specs.Reading.{TakesFrame}
use Rattle.captures_text.specs.declared.captured_cell.CapturedCell.{CapturedCell}
use Rattle.captures_text.proofs.ReadingLemmas.{reads_no_usual, reads_usual}
use Rattle.captures_text.proofs.reading_ahead.read_usual_of.Goals as goal

pub loop-cells-init : goal.loop-cells-init
loop-cells-init c = (omega arith, reads_no_usual c.args.link_clock c.args.reader c.args.octets.now c.args.cells.now.items)

pub loop-cells-smaller : goal.loop-cells-smaller
loop-cells-smaller c =
    let takes = c.in-Taken.ensures in
    omega (arith, takes.some, takes.within, length-drop c.loop-cells.place c.args.octets.now)

pub loop-cells-preserved : goal.loop-cells-preserved
loop-cells-preserved c =
    let record_read = c.in-Taken.record_read in
    let place = c.loop-cells.place in
    let takes = subst
    (λ (octets : List ℕ). TakesFrame c.loop-cells.reader octets (Ok record_read) c.in-Taken.own c.next.new.self)
    (take_rest c.args.octets.now place) c.in-Taken.ensures in
    let captured : CapturedCell = record { number = record_read.number; moment = c.in-Some.moment; cell = c.cell.result } in (
      omega (arith, c.loop-cells.invariant.0, takes.within, length-drop place c.args.octets.now),
      reads_usual c.args.link_clock c.args.reader c.next.new.self c.args.octets.now c.args.cells.now.items c.loop-cells.cells.items c.push_reserved.new.self.items
          (record { reader = c.loop-cells.reader; clock = c.loop-cells.clock; place = place })
          record_read c.in-Some.moment c.in-Ok.cell c.in-Taken.own c.moment_of.new.clock captured
          c.loop-cells.invariant.1 takes
          (λ filter follows. c.in-Some.ensures filter c.in-Ok.cell follows c.in-Ok.is)
          (ap (λ (octets : List ℕ). record captured { cell = octets }) c.cell.ensures)
          c.push_reserved.ensures.items,
    )

pub returns-in_default : goal.returns-in_default
returns-in_default c = record { within = c.loop-cells.invariant.0; reads = c.loop-cells.invariant.1 }
