use Rattle.std.proofs.Common.{Some, slice_get, sym, ap, ◌∙◌, arith}
use Rattle.std.proofs.lemmas.Option.{slice_get_within}
use Rattle.line_record.specs.Seatings.{seating_in}
use Rattle.line_record.specs.inner.Seats.{LineSeats}
use Rattle.line_record.specs.inner.SeatsView.{SeatsView}
use Rattle.line_record.proofs.SeatLemmas.{seating-none, seating-some}
use Rattle.line_record.proofs.seats.Seats.find.Goals as goal

pub returns-in_err-line : goal.returns-in_err-line
returns-in_err-line c =
    let s = c.self.inside in
    c.from_residual.ensures
    ∙ sym (seating-none s.table s.seats.items c.self.invariant c.args.vc (sym c.in_err-line.ensures))
    ∙ ap (λ (view : SeatsView). seating_in view.seatings c.args.vc) c.self.view_is

pub seating_at-requires : goal.seating_at-requires
seating_at-requires c =
    let seat = c.self.invariant.found c.args.vc c.in_ok-line.line (sym c.in_ok-line.ensures) in
    let within = slice_get_within c.self.inside.seats.items c.in_ok-line.line (Some (c.args.vc, seat.seating)) seat.there in
    omega (arith, within)

pub returns : goal.returns
returns c =
    let s = c.self.inside in
    let seat = c.self.invariant.found c.args.vc c.in_ok-line.line (sym c.in_ok-line.ensures) in
    let there = ap (λ (seats : LineSeats). slice_get seats c.in_ok-line.line) c.deref.ensures.value ∙ seat.there in
    c.seating_at.ensures c.args.vc seat.seating there
    ∙ sym (seating-some s.table s.seats.items c.self.invariant c.in_ok-line.line c.args.vc seat.seating seat.there)
    ∙ ap (λ (view : SeatsView). seating_in view.seatings c.args.vc) c.self.view_is
