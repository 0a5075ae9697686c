use Rattle.std.proofs.Common.{◌≡◌, ◌≢◌, ◌<◌, ℕ, Some, None, length, slice_set, sym, ap, subst, ◌∙◌, arith}
use Rattle.std.proofs.lemmas.Grind.{common_steps}
use Rattle.upc_cell.specs.declared.vc.Vc.{Vc}
use Rattle.line_record.specs.declared.directory.Seating.{Seating}
use Rattle.line_record.specs.Seatings.{seating_in}
use Rattle.line_record.specs.inner.SeatingChanges.{ChangesAt}
use Rattle.line_record.specs.inner.Seats.{seated, KeepsSeats}
use Rattle.line_record.specs.inner.SeatsView.{SeatsView}
use Rattle.line_record.proofs.SeatLemmas.{KeepsSeats-put, ChangesAt-put}
use Rattle.line_record.proofs.seats.Seats.insert.Goals as goal

pub invariant_of-self : goal.invariant_of-self
invariant_of-self c =
    let s = c.self.inside in
    let vc = c.args.vc in
    let seating = c.args.seating in
    let absent : seating_in (seated s.seats.items) vc ≡ None =
    ap (λ (view : SeatsView). seating_in view.seatings vc) c.self.view_is ∙ c.requires.absent in
    let within : seating.line < length s.seats.items =
    subst (λ (view : SeatsView). seating.line < view.lines) (sym c.self.view_is) c.requires.within in
    let free : (other : Vc) (another : Seating) → seating_in (seated s.seats.items) other ≡ Some another
    → another.line ≢ seating.line =
    subst (λ (view : SeatsView). (other : Vc) (another : Seating) → seating_in view.seatings other ≡ Some another
    → another.line ≢ seating.line) (sym c.self.view_is) c.requires.free in
    let at : seating.line ≡ c.from.result = grind (arith, common_steps) in
    subst (λ (n : ℕ). KeepsSeats c.put.new.self (slice_set s.seats.items n (Some (vc, seating)))) at
    (KeepsSeats-put s.table c.put.new.self s.seats.items c.self.invariant vc seating absent within free c.in-Ok.ensures.moved)

pub returns-in-Ok-clause-changes : goal.returns-in-Ok-clause-changes
returns-in-Ok-clause-changes c =
    let s = c.self.inside in
    let vc = c.args.vc in
    let seating = c.args.seating in
    let absent : seating_in (seated s.seats.items) vc ≡ None =
    ap (λ (view : SeatsView). seating_in view.seatings vc) c.self.view_is ∙ c.requires.absent in
    let within : seating.line < length s.seats.items =
    subst (λ (view : SeatsView). seating.line < view.lines) (sym c.self.view_is) c.requires.within in
    let free : (other : Vc) (another : Seating) → seating_in (seated s.seats.items) other ≡ Some another
    → another.line ≢ seating.line =
    subst (λ (view : SeatsView). (other : Vc) (another : Seating) → seating_in view.seatings other ≡ Some another
    → another.line ≢ seating.line) (sym c.self.view_is) c.requires.free in
    let at : seating.line ≡ c.from.result = grind (arith, common_steps) in
    subst (λ (view : SeatsView). ChangesAt view.seatings (seated (slice_set s.seats.items c.from.result (Some (vc, seating)))) vc
    (Some seating)) c.self.view_is
    (subst (λ (n : ℕ). ChangesAt (seated s.seats.items) (seated (slice_set s.seats.items n (Some (vc, seating)))) vc
    (Some seating)) at
    (ChangesAt-put s.table c.put.new.self s.seats.items c.self.invariant vc seating absent within free c.in-Ok.ensures.moved))
