use Rattle.std.proofs.Common.{◌≡◌, ℕ, Some, slice_set, refl, sym, ap, subst, ◌∙◌, arith}
use Rattle.std.proofs.lemmas.Grind.{common_steps}
use Rattle.std.proofs.lemmas.Option.{same_Some}
use Rattle.line_record.specs.declared.directory.Seating.{Seating}
use Rattle.line_record.specs.Seatings.{seating_in}
use Rattle.line_record.specs.inner.SeatingChanges.{ChangesAt}
use Rattle.line_record.specs.inner.Seats.{seated, KeepsSeats}
use Rattle.line_record.specs.inner.SeatsView.{SeatsView}
use Rattle.line_record.proofs.SeatLemmas.{KeepsSeats-replaced, ChangesAt-replaced, seat_within, line-seated}
use Rattle.line_record.proofs.seats.Seats.reprogram.Goals as goal

pub index_mut-requires : goal.index_mut-requires
index_mut-requires c =
    let s = c.self.inside in
    let vc = c.args.vc in
    let seating = c.in_ok-seating.seating in
    let present : seating_in (seated s.seats.items) vc ≡ Some seating =
    ap (λ (view : SeatsView). seating_in view.seatings vc) c.self.view_is ∙ sym c.in_ok-seating.ensures in
    let after : Seating = record seating { program = c.args.program } in
    let within = seat_within s.table s.table s.seats.items c.self.invariant vc seating present (λ other away. refl) (Some after)
    (line-seated s.table s.seats.items c.self.invariant vc seating present).0
    (λ given e. ap (λ (it : Seating). it.line) (sym (same_Some after given e))) in
    omega (arith, within)

pub invariant_of-self : goal.invariant_of-self
invariant_of-self c =
    let s = c.self.inside in
    let vc = c.args.vc in
    let seating = c.in_ok-seating.seating in
    let present : seating_in (seated s.seats.items) vc ≡ Some seating =
    ap (λ (view : SeatsView). seating_in view.seatings vc) c.self.view_is ∙ sym c.in_ok-seating.ensures in
    let after : Seating = record seating { program = c.args.program } in
    let at : seating.line ≡ c.from.result = grind (arith, common_steps) in
    subst (λ (n : ℕ). KeepsSeats s.table (slice_set s.seats.items n (Some (vc, after)))) at
    (KeepsSeats-replaced s.table s.table s.seats.items c.self.invariant vc seating present (λ other away. refl) (Some after)
    (line-seated s.table s.seats.items c.self.invariant vc seating present).0
    (λ given e. ap (λ (it : Seating). it.line) (sym (same_Some after given e))))

pub returns-clause-moved : goal.returns-clause-moved
returns-clause-moved c =
    let s = c.self.inside in
    let vc = c.args.vc in
    let seating = c.in_ok-seating.seating in
    let present : seating_in (seated s.seats.items) vc ≡ Some seating =
    ap (λ (view : SeatsView). seating_in view.seatings vc) c.self.view_is ∙ sym c.in_ok-seating.ensures in
    let after : Seating = record seating { program = c.args.program } in
    let at : seating.line ≡ c.from.result = grind (arith, common_steps) in
    let changes : ChangesAt c.args.self.now.seatings (seated (slice_set s.seats.items c.from.result (Some (vc, after)))) vc (Some after) =
    subst (λ (view : SeatsView). ChangesAt view.seatings (seated (slice_set s.seats.items c.from.result (Some (vc, after)))) vc
    (Some after)) c.self.view_is
    (subst (λ (n : ℕ). ChangesAt (seated s.seats.items) (seated (slice_set s.seats.items n (Some (vc, after)))) vc (Some after)) at
    (ChangesAt-replaced s.table s.table s.seats.items c.self.invariant vc seating present (λ other away. refl) (Some after)
    (line-seated s.table s.seats.items c.self.invariant vc seating present).0
    (λ given e. ap (λ (it : Seating). it.line) (sym (same_Some after given e))))) in
    rw (sym c.in_ok-seating.ensures) changes
