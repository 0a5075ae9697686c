-- Each frame keeps what the reading so far has, and each exit is the end of what was read.
use Rattle.std.proofs.Common.{ℕ, List, ap, subst, refl}
use Rattle.captures.specs.Reading.{ComesNext}
use Rattle.captures.specs.declared.reader.Next.TheVariants.{Broken, Skipped, Taken}
use Rattle.captures_text.specs.declared.captured_cell.CapturedCell.{CapturedCell}
use Rattle.captures_text.specs.declared.reading_ahead.ReadingAhead.{ReadingAhead}
use Rattle.captures_text.proofs.ReadingLemmas.{reads_broken, reads_captured, reads_enough, reads_moved, reads_skipped, reads_several, reads_uncounted}
use Rattle.captures_text.proofs.reading_ahead.ReadingAhead.step.Goals as goal

pub returns-in-Broken-clause-reads : goal.returns-in-Broken-clause-reads
returns-in-Broken-clause-reads c = λ first old so_far.
    let between = c.args.self.now in
    let after : ReadingAhead = record { window = between.window; reader = c.next.new.self; filter = between.filter } in
    reads_broken first between after c.in-Broken.fault old c.args.cells.now.items
    so_far
    (subst (λ (octets : List ℕ). ComesNext between.reader octets (Broken c.in-Broken.fault) c.next.new.self) c.octets.ensures c.in-Broken.ensures) refl

pub returns-in-Skipped-clause-reads : goal.returns-in-Skipped-clause-reads
returns-in-Skipped-clause-reads c = λ first old so_far.
    let between = c.args.self.now in
    let after : ReadingAhead = record { window = c.skip.new.self; reader = c.next.new.self; filter = c.skip_block.new.self } in
    reads_skipped first between after c.in-Skipped.block c.in-Skipped.own old c.args.cells.now.items
    so_far
    (subst (λ (octets : List ℕ). ComesNext between.reader octets (Skipped c.in-Skipped.block c.in-Skipped.own) c.next.new.self) c.octets.ensures c.in-Skipped.ensures)
    c.skip_block.ensures
    (ap (λ (window : List ℕ). record after { window = window }) c.skip.ensures.octets)

pub returns-in-SecondLink-clause-reads : goal.returns-in-SecondLink-clause-reads
returns-in-SecondLink-clause-reads c = λ first old so_far.
    let between = c.args.self.now in
    let after : ReadingAhead = record { window = between.window; reader = c.next.new.self; filter = c.read.new.self } in
    reads_several first between after c.in-Taken.record_read c.in-SecondLink.one c.in-SecondLink.other c.in-Taken.own
    old c.args.cells.now.items so_far
    (subst (λ (octets : List ℕ). ComesNext between.reader octets (Taken c.in-Taken.record_read c.in-Taken.own) c.next.new.self) c.octets.ensures c.in-Taken.ensures)
    c.in-SecondLink.ensures

pub returns-in-Skipped-read-clause-reads : goal.returns-in-Skipped-read-clause-reads
returns-in-Skipped-read-clause-reads c = λ first old so_far.
    let between = c.args.self.now in
    let after : ReadingAhead = record { window = c.skip-in-Skipped-read.new.self; reader = c.next.new.self; filter = c.read.new.self } in
    let takes = subst (λ (octets : List ℕ). ComesNext between.reader octets (Taken c.in-Taken.record_read c.in-Taken.own) c.next.new.self) c.octets.ensures c.in-Taken.ensures in
    reads_uncounted first between after c.in-Taken.record_read c.in-Taken.own
    old c.args.cells.now.items so_far takes c.in-Skipped-read.ensures
    (ap (λ (window : List ℕ). record after { window = window }) c.skip-in-Skipped-read.ensures.octets)

pub returns-else-most-len-clause-reads : goal.returns-else-most-len-clause-reads
returns-else-most-len-clause-reads c = λ first old so_far.
    let between = c.args.self.now in
    let after : ReadingAhead = record { window = c.skip-in-Counts.new.self; reader = c.next.new.self; filter = c.read.new.self } in
    let record_read = c.in-Taken.record_read in
    let captured : CapturedCell = record { number = record_read.number; moment = c.in-Counts.moment; cell = c.cell.result } in
    let takes = subst (λ (octets : List ℕ). ComesNext between.reader octets (Taken record_read c.in-Taken.own) c.next.new.self) c.octets.ensures c.in-Taken.ensures in
    reads_captured first between after record_read c.in-Counts.moment c.in-Counts.cell c.in-Taken.own
    old c.args.cells.now.items c.push.new.self.items captured so_far takes c.in-Counts.ensures
    (ap (λ (octets : List ℕ). record captured { cell = octets }) c.cell.ensures) c.in_ok-push-in-Counts.ensures.items
    (ap (λ (window : List ℕ). record after { window = window }) c.skip-in-Counts.ensures.octets)

pub returns-then-most-len-clause-reads : goal.returns-then-most-len-clause-reads
returns-then-most-len-clause-reads c = λ first old so_far.
    let between = c.args.self.now in
    let after : ReadingAhead = record { window = c.skip-in-Counts.new.self; reader = c.next.new.self; filter = c.read.new.self } in
    let record_read = c.in-Taken.record_read in
    let captured : CapturedCell = record { number = record_read.number; moment = c.in-Counts.moment; cell = c.cell.result } in
    let takes = subst (λ (octets : List ℕ). ComesNext between.reader octets (Taken record_read c.in-Taken.own) c.next.new.self) c.octets.ensures c.in-Taken.ensures in
    reads_enough first after old c.push.new.self.items
    (reads_captured first between after record_read c.in-Counts.moment c.in-Counts.cell c.in-Taken.own
    old c.args.cells.now.items c.push.new.self.items captured so_far takes c.in-Counts.ensures
    (ap (λ (octets : List ℕ). record captured { cell = octets }) c.cell.ensures) c.in_ok-push-in-Counts.ensures.items
    (ap (λ (window : List ℕ). record after { window = window }) c.skip-in-Counts.ensures.octets))
    (reads_moved first between c.next.new.self record_read c.in-Taken.own old c.args.cells.now.items so_far takes)
