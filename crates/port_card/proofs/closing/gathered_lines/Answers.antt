use Rattle.std.proofs.Common.{◌+◌, List, ◌∷◌, [], length, sym, ap, ◌∙◌, arith, length-append}
use Rattle.line_record.specs.declared.tally.Tally.{Tally}
use Rattle.line_record.specs.Line.{LineView}
use Rattle.line_record.specs.Tally.{plus}
use Rattle.port_card.specs.Closing.{line_counts, lines_total}
use Rattle.port_card.specs.inner.Shares.{SharesView}
use Rattle.port_card.proofs.Gathering.{total-push}
use Rattle.port_card.proofs.closing.gathered_lines.Goals as goal

pub loop-counted_line-preserved : goal.loop-counted_line-preserved
loop-counted_line-preserved g c =
    let lines = c.loop-counted_line.lines.items in
    let yielded = c.loop-counted_line.yielded in
    let counted_line = c.into_inner-line.result in
    let items = c.push_reserved.ensures.items in
    let more = length-append yielded (c.in-Some.counted_line ∷ []) in
    let both = c.merge.ensures.both in
    record {
      can = tt;
      ends = tt;
      room = omega (arith, c.loop-counted_line.invariant.room, c.push_reserved.ensures.capacity);
      one_each = ap length items ∙ length-append lines (counted_line.line ∷ []) ∙ ap (λ n. n + 1) c.loop-counted_line.invariant.one_each ∙ sym more;
      parts = ap (λ (m : SharesView). m.parts) both ∙ ap (λ n. n + counted_line.shares.parts) c.loop-counted_line.invariant.parts
          ∙ ap (λ n. length yielded + n) counted_line.one ∙ sym more;
      tally = ap (λ (m : SharesView). m.tally) both ∙ ap (λ (t : Tally). plus t counted_line.shares.tally) c.loop-counted_line.invariant.tally
          ∙ ap (plus (lines_total lines)) counted_line.same ∙ sym (total-push line_counts lines counted_line.line)
          ∙ sym (ap (λ (ls : List LineView). lines_total ls) items);
    }
