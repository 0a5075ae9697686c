use Rattle.std.proofs.Common.{Option, None, length, refl, sym, ap, subst, ◌∙◌}
use Rattle.std.proofs.lemmas.List.{length-replicate}
use Rattle.upc_cell.specs.declared.vc.Vc.{Vc}
use Rattle.line_record.specs.declared.directory.Seating.{Seating}
use Rattle.line_record.specs.inner.Seats.{seated, KeepsSeats}
use Rattle.line_record.proofs.SeatLemmas.{KeepsSeats-new, seated-none}
use Rattle.line_record.proofs.seats.Seats.new.Goals as goal

pub invariant_of-result : goal.invariant_of-result
invariant_of-result c =
    subst (KeepsSeats c.in_ok-table.table) (sym c.in_ok-seats.ensures)
    (KeepsSeats-new c.in_ok-table.table c.args.lines c.in_ok-table.ensures)

pub returns : goal.returns
returns c =
    let seats = c.in_ok-seats.ensures in
    let none = ap seated seats ∙ seated-none c.args.lines in
    let count = ap length seats ∙ length-replicate {A = Option (Vc × Seating)} c.args.lines None in
    rw (none, count) refl
