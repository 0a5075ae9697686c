-- No count at the piece's end is below that at its start, and the difference is the count of its entries.
use Rattle.std.proofs.Common.{ap, arith}
use Rattle.line_record.specs.declared.tally.Tally.{Tally}
use Rattle.text_script.proofs.PieceLemmas.{counts-between, counts-go_on, tally_in}
use Rattle.text_script.proofs.answer_lines.tally_within.Goals as goal

pub overflow_sub-result : goal.overflow_sub-result
overflow_sub-result c =
    let whole = counts-go_on c.args.piece.now c.start.result.now c.end.result.now c.entries-run.ensures.run c.start.ensures c.end.ensures in
    omega (arith, ap (λ (t : Tally). t.passed) whole)

pub overflow_sub-result-2 : goal.overflow_sub-result-2
overflow_sub-result-2 c =
    let whole = counts-go_on c.args.piece.now c.start.result.now c.end.result.now c.entries-run.ensures.run c.start.ensures c.end.ensures in
    omega (arith, ap (λ (t : Tally). t.tagged) whole)

pub overflow_sub-result-3 : goal.overflow_sub-result-3
overflow_sub-result-3 c =
    let whole = counts-go_on c.args.piece.now c.start.result.now c.end.result.now c.entries-run.ensures.run c.start.ensures c.end.ensures in
    omega (arith, ap (λ (t : Tally). t.discarded) whole)

pub overflow_sub-result-4 : goal.overflow_sub-result-4
overflow_sub-result-4 c =
    let whole = counts-go_on c.args.piece.now c.start.result.now c.end.result.now c.entries-run.ensures.run c.start.ensures c.end.ensures in
    omega (arith, ap (λ (t : Tally). t.refused) whole)

pub returns : goal.returns
returns c =
    let whole = counts-go_on c.args.piece.now c.start.result.now c.end.result.now c.entries-run.ensures.run c.start.ensures c.end.ensures in
    counts-between c.start.result.now.counts c.end.result.now.counts (tally_in c.args.piece.now) whole
