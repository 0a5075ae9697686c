use Rattle.std.proofs.Common.{◌≡◌, List, sym, ap, subst, ◌∙◌}
use Rattle.std.proofs.Math.Seq.{map-set_same}
use Rattle.line_record.specs.declared.tally.Tally.{Tally}
use Rattle.line_record.specs.Line.{LineView}
use Rattle.port_card.specs.Seats.{SeatView}
use Rattle.port_card.specs.Closing.{seats_on, IsFirstUneven}
use Rattle.port_card.specs.inner.Columns.{columns_on, columns_total}
use Rattle.port_card.proofs.Columns.{columns_of, columns_total-of, columns_on-of, first_uneven-along}
use Rattle.port_card.proofs.card.Card.close.Goals as goal

pub returns-clause-sums : goal.returns-clause-sums
returns-clause-sums g c =
    let seats : List SeatView = c.args.seats.items in
    let first = c.no_shares-no_seats.new.self in
    let tallies : SeatView → List Tally = λ seat. seat.tallies in
    let same : tallies first ≡ _ = ap tallies (c.no_shares-no_seats.ensures.same ∙ c.index_mut.ensures.value) in
    let columns : c.gathered_columns-columns.result.0.items ≡ columns_of seats =
    c.gathered_columns-columns.ensures.columns ∙ map-set_same tallies seats 0 first c.index_mut.result.now same in
    sym c.gathered_lines-lines.ensures.tally ∙ c.audit.ensures.equal ∙ c.gathered_columns-columns.ensures.tally
    ∙ ap (λ (cs : List (List Tally)). columns_total cs) columns ∙ columns_total-of seats

pub returns-clause-uneven : goal.returns-clause-uneven
returns-clause-uneven g c =
    let seats : List SeatView = c.args.seats.items in
    let lines : List LineView = c.gathered_lines-lines.result.0.items in
    let first = c.no_shares-no_seats.new.self in
    let tallies : SeatView → List Tally = λ seat. seat.tallies in
    let same : tallies first ≡ _ = ap tallies (c.no_shares-no_seats.ensures.same ∙ c.index_mut.ensures.value) in
    let columns : c.deref-2.result.now ≡ columns_of seats =
    c.deref-2.ensures.value ∙ c.gathered_columns-columns.ensures.columns ∙ map-set_same tallies seats 0 first c.index_mut.result.now same in
    let result = c.first_uneven-uneven.result in
    let uneven = subst (λ (ls : List LineView). IsFirstUneven ls (columns_on c.deref-2.result.now) result) c.deref.ensures.value c.first_uneven-uneven.ensures in
    first_uneven-along lines (columns_on c.deref-2.result.now) (seats_on seats)
    (λ line. ap (λ (cs : List (List Tally)). columns_on cs line) columns ∙ columns_on-of seats line) result uneven
