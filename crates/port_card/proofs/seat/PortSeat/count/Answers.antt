use Rattle.std.proofs.Common.{◌≡◌, ◌<◌, length, Some, refl, sym, ap, subst, ◌∙◌}
use Rattle.std.specs.Prelude.{slice_get, slice_set}
use Rattle.std.proofs.lemmas.List.{length-set}
use Rattle.std.proofs.lemmas.Option.{slice_get_read}
use Rattle.line_record.specs.declared.tally.Tally.{Tally}
use Rattle.line_record.specs.Tally.{counted, total, IsPartTally}
use Rattle.line_record.proofs.Public.{totals_count}
use Rattle.port_card.specs.Seats.{SeatView, counted_on, tally_of_seat}
use Rattle.port_card.specs.inner.Shares.{SharesView}
use Rattle.port_card.proofs.Counting.{room_on-line, counted-seat}
use Rattle.port_card.proofs.seat.PortSeat.count.Goals as goal

pub count-requires : goal.count-requires
count-requires g c =
    let items = c.self.inside.tallies.items in
    let here = c.index_mut.result.now in
    let there : c.args.line < length items =
    subst (λ (s : SeatView). c.args.line < length s.tallies) (sym c.self.view_is) c.requires.there in
    let within : c.from.result < length items = rw c.from.ensures there in
    let at : slice_get items c.from.result ≡ Some here =
    slice_get_read items (length items) c.from.result here refl within c.index_mut.ensures.value in
    let part : IsPartTally (total items) c.args.books.now =
    subst (λ (t : Tally). IsPartTally t c.args.books.now) c.self.invariant.1 c.bound.ensures.part in
    room_on-line items c.from.result here c.args.books.now c.args.verdict at part c.requires.room

pub invariant_of-self : goal.invariant_of-self
invariant_of-self g c =
    let items = c.self.inside.tallies.items in
    let here = c.index_mut.result.now in
    let verdict = c.args.verdict in
    let there : c.args.line < length items =
    subst (λ (s : SeatView). c.args.line < length s.tallies) (sym c.self.view_is) c.requires.there in
    let within : c.from.result < length items = rw c.from.ensures there in
    let at : slice_get items c.from.result ≡ Some here =
    slice_get_read items (length items) c.from.result here refl within c.index_mut.ensures.value in
    let shares = c.count-2.ensures.seat in
    let before = c.bound.ensures.seat in (
      ap (λ (m : SharesView). m.parts) shares ∙ ap (λ (m : SharesView). m.parts) before ∙ c.self.invariant.0,
      ap (λ (m : SharesView). m.tally) shares
          ∙ ap (λ (m : SharesView). counted m.tally verdict) before
          ∙ ap (λ (t : Tally). counted t verdict) c.self.invariant.1
          ∙ sym (totals_count items c.from.result here verdict at)
          ∙ ap (λ (t : Tally). total (slice_set items c.from.result t)) (sym c.count.ensures),
      length-set items c.from.result c.count.new.self ∙ c.self.invariant.2,
    )

pub returns-clause-seat : goal.returns-clause-seat
returns-clause-seat g c =
    let items = c.self.inside.tallies.items in
    let here = c.index_mut.result.now in
    let there : c.args.line < length items =
    subst (λ (s : SeatView). c.args.line < length s.tallies) (sym c.self.view_is) c.requires.there in
    let within : c.from.result < length items = rw c.from.ensures there in
    let at : slice_get items c.from.result ≡ Some here =
    slice_get_read items (length items) c.from.result here refl within c.index_mut.ensures.value in
    let seat = counted-seat c.self.inside.port c.from.result c.args.line items here c.count.new.self c.args.verdict
    c.from.ensures at c.count.ensures in
    seat ∙ ap (λ (s : SeatView). counted_on s c.args.line c.args.verdict) c.self.view_is

pub returns-clause-total : goal.returns-clause-total
returns-clause-total g c =
    let items = c.self.inside.tallies.items in
    let here = c.index_mut.result.now in
    let verdict = c.args.verdict in
    let there : c.args.line < length items =
    subst (λ (s : SeatView). c.args.line < length s.tallies) (sym c.self.view_is) c.requires.there in
    let within : c.from.result < length items = rw c.from.ensures there in
    let at : slice_get items c.from.result ≡ Some here =
    slice_get_read items (length items) c.from.result here refl within c.index_mut.ensures.value in
    ap (λ (t : Tally). total (slice_set items c.from.result t)) c.count.ensures
    ∙ totals_count items c.from.result here verdict at
    ∙ ap (λ (s : SeatView). counted (tally_of_seat s) verdict) c.self.view_is
