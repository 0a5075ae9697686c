use Rattle.std.proofs.Common.{◌+◌, List, ◌∷◌, ◌++◌, [], length, map, sym, ap, ◌∙◌, arith, length-append}
use Rattle.std.proofs.lemmas.List.{map-append}
use Rattle.line_record.specs.declared.tally.Tally.{Tally}
use Rattle.line_record.specs.Tally.{plus, total}
use Rattle.port_card.specs.Seats.{SeatView}
use Rattle.port_card.specs.inner.Columns.{columns_total}
use Rattle.port_card.specs.inner.Shares.{SharesView}
use Rattle.port_card.proofs.Gathering.{total-push}
use Rattle.port_card.proofs.closing.gathered_columns.Goals as goal

pub loop-seat-preserved : goal.loop-seat-preserved
loop-seat-preserved g c =
    let columns = c.loop-seat.columns.items in
    let yielded = c.loop-seat.yielded in
    let column = c.into_column-column.result.0 in
    let own = c.into_column-column.result.1 in
    let is = c.into_column-column.ensures in
    let items = c.push_reserved.ensures.items in
    let more = length-append yielded (c.in-Some.seat ∷ []) in
    let both = c.merge.ensures.both in
    let tallies : SeatView → List Tally = λ seat. seat.tallies in
    record {
      can = tt;
      ends = tt;
      room = omega (arith, c.loop-seat.invariant.room, c.push_reserved.ensures.capacity);
      columns = items ∙ ap (λ (cs : List (List Tally)). cs ++ column ∷ []) c.loop-seat.invariant.columns
          ∙ ap (λ (t : List Tally). map tallies yielded ++ t ∷ []) is.column ∙ sym (map-append tallies yielded (c.in-Some.seat ∷ []));
      parts = ap (λ (m : SharesView). m.parts) both ∙ ap (λ n. n + own.parts) c.loop-seat.invariant.parts
          ∙ ap (λ n. length yielded + n) is.parts ∙ sym more;
      most = c.merge.ensures.all;
      tally = ap (λ (m : SharesView). m.tally) both ∙ ap (λ (t : Tally). plus t own.tally) c.loop-seat.invariant.tally
          ∙ ap (plus (columns_total columns)) (is.tally ∙ ap total (sym is.column)) ∙ sym (total-push total columns column)
          ∙ sym (ap (λ (cs : List (List Tally)). columns_total cs) items);
    }
