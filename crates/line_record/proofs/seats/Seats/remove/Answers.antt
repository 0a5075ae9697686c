use Rattle.std.proofs.Common.{◌≡◌, ℕ, Some, None, slice_set, sym, ap, subst, ◌∙◌, arith}
use Rattle.std.proofs.lemmas.Grind.{common_steps}
use Rattle.line_record.specs.Seatings.{seating_in}
use Rattle.line_record.specs.inner.SeatingChanges.{ChangesAt}
use Rattle.line_record.specs.inner.Seats.{seated, KeepsSeats}
use Rattle.line_record.specs.inner.SeatsView.{SeatsView}
use Rattle.line_record.proofs.SeatLemmas.{KeepsSeats-replaced, ChangesAt-replaced, seat_within}
use Rattle.line_record.proofs.seats.Seats.remove.Goals as goal

pub index_mut-requires : goal.index_mut-requires
index_mut-requires c =
    let s = c.self.inside in
    let vc = c.args.vc in
    let seating = c.in_ok-seating.seating in
    let present : seating_in (seated s.seats.items) vc ≡ Some seating =
    ap (λ (view : SeatsView). seating_in view.seatings vc) c.self.view_is ∙ sym c.in_ok-seating.ensures in
    let within = seat_within s.table c.remove.new.self s.seats.items c.self.invariant vc seating present c.remove.ensures.gone.others None
    c.remove.ensures.gone.here (λ given e. absurd (let no : None ≡ Some given = e in cc)) in
    omega (arith, within)

pub invariant_of-self : goal.invariant_of-self
invariant_of-self c =
    let s = c.self.inside in
    let vc = c.args.vc in
    let seating = c.in_ok-seating.seating in
    let present : seating_in (seated s.seats.items) vc ≡ Some seating =
    ap (λ (view : SeatsView). seating_in view.seatings vc) c.self.view_is ∙ sym c.in_ok-seating.ensures in
    let at : seating.line ≡ c.from.result = grind (arith, common_steps) in
    subst (λ (n : ℕ). KeepsSeats c.remove.new.self (slice_set s.seats.items n None)) at
    (KeepsSeats-replaced s.table c.remove.new.self s.seats.items c.self.invariant vc seating present c.remove.ensures.gone.others None
    c.remove.ensures.gone.here (λ given e. absurd (let no : None ≡ Some given = e in cc)))

pub returns-clause-changes : goal.returns-clause-changes
returns-clause-changes c =
    let s = c.self.inside in
    let vc = c.args.vc in
    let seating = c.in_ok-seating.seating in
    let present : seating_in (seated s.seats.items) vc ≡ Some seating =
    ap (λ (view : SeatsView). seating_in view.seatings vc) c.self.view_is ∙ sym c.in_ok-seating.ensures in
    let at : seating.line ≡ c.from.result = grind (arith, common_steps) in
    subst (λ (view : SeatsView). ChangesAt view.seatings (seated (slice_set s.seats.items c.from.result None)) vc None)
    c.self.view_is
    (subst (λ (n : ℕ). ChangesAt (seated s.seats.items) (seated (slice_set s.seats.items n None)) vc None) at
    (ChangesAt-replaced s.table c.remove.new.self s.seats.items c.self.invariant vc seating present c.remove.ensures.gone.others None
    c.remove.ensures.gone.here (λ given e. absurd (let no : None ≡ Some given = e in cc))))
