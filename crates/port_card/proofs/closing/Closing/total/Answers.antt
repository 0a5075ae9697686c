use Rattle.std.proofs.Common.{◌≡◌, ◌+◌, ◌<◌, List, length, take, get_or, sym, ap, subst, ◌∙◌}
use Rattle.line_record.specs.declared.tally.Tally.{Tally}
use Rattle.line_record.specs.Line.{LineView}
use Rattle.line_record.specs.Tally.{plus, IsPartTally}
use Rattle.port_card.specs.Closing.{line_counts, lines_total}
use Rattle.port_card.proofs.Gathering.{total-more, IsPart-take, FitsWords-part}
use Rattle.port_card.proofs.closing.Closing.total.Goals as goal

pub plus-sum-requires : goal.plus-sum-requires
plus-sum-requires c =
    let lines : List LineView = c.args.self.now.lines.items in
    let place = c.loop-line.line-index in
    let here = c.line-item.result in
    let sum = plus c.loop-line.sum c.counts.result in
    let whole = c.deref-line-items.ensures.value in
    let at : here ≡ get_or lines place here = c.line-item.is ∙ ap (λ (ls : List LineView). get_or ls place here) whole in
    let within : place < length lines = subst (λ (ls : List LineView). place < length ls) whole c.loop-line-test.true in
    let is : sum ≡ lines_total (take (place + 1) lines) =
    ap (plus c.loop-line.sum) (c.counts.ensures.counts ∙ ap line_counts at)
    ∙ ap (λ (t : Tally). plus t (line_counts (get_or lines place here))) c.loop-line.invariant
    ∙ sym (total-more line_counts lines place here within) in
    let front : IsPartTally sum (lines_total lines) =
    subst (λ (t : Tally). IsPartTally t (lines_total lines)) (sym is) (IsPart-take line_counts lines (place + 1)) in
    FitsWords-part sum (lines_total lines) front c.args.self.now.fit

pub loop-line-preserved : goal.loop-line-preserved
loop-line-preserved c =
    let lines : List LineView = c.args.self.now.lines.items in
    let place = c.loop-line.line-index in
    let here = c.line-item.result in
    let whole = c.deref-line-items.ensures.value in
    let at : here ≡ get_or lines place here = c.line-item.is ∙ ap (λ (ls : List LineView). get_or ls place here) whole in
    let within : place < length lines = subst (λ (ls : List LineView). place < length ls) whole c.loop-line-test.true in
    c.plus-sum.ensures
    ∙ ap (plus c.loop-line.sum) (c.counts.ensures.counts ∙ ap line_counts at)
    ∙ ap (λ (t : Tally). plus t (line_counts (get_or lines place here))) c.loop-line.invariant
    ∙ sym (total-more line_counts lines place here within)
