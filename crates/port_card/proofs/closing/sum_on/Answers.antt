use Rattle.std.proofs.Common.{◌≡◌, ◌+◌, take, get_or, sym, ap, subst, ◌∙◌}
use Rattle.line_record.specs.declared.tally.Tally.{Tally}
use Rattle.line_record.specs.Tally.{plus, IsPartTally}
use Rattle.port_card.specs.inner.Columns.{column_on, columns_on, columns_total}
use Rattle.port_card.proofs.Gathering.{total-more, IsPart-take, IsPart-columns_on, IsPart-trans, FitsWords-part}
use Rattle.port_card.proofs.closing.sum_on.Goals as goal

pub plus-sum-requires : goal.plus-sum-requires
plus-sum-requires c =
    let columns = c.args.columns.now in
    let line = c.args.line in
    let place = c.loop-column.column-index in
    let here = c.column-item.result in
    let sum = plus c.loop-column.sum c.on.result in
    let is : sum ≡ columns_on (take (place + 1) columns) line =
    ap (plus c.loop-column.sum) (c.on.ensures ∙ ap (column_on line) c.column-item.is)
    ∙ ap (λ (t : Tally). plus t (column_on line (get_or columns place here))) c.loop-column.invariant
    ∙ sym (total-more (column_on line) columns place here c.loop-column-test.true) in
    let front : IsPartTally sum (columns_on columns line) =
    subst (λ (t : Tally). IsPartTally t (columns_on columns line)) (sym is) (IsPart-take (column_on line) columns (place + 1)) in
    FitsWords-part sum (columns_total columns)
    (IsPart-trans sum (columns_on columns line) (columns_total columns) front (IsPart-columns_on columns line)) c.requires

pub loop-column-preserved : goal.loop-column-preserved
loop-column-preserved c =
    let columns = c.args.columns.now in
    let line = c.args.line in
    let place = c.loop-column.column-index in
    let here = c.column-item.result in
    c.plus-sum.ensures
    ∙ ap (plus c.loop-column.sum) (c.on.ensures ∙ ap (column_on line) c.column-item.is)
    ∙ ap (λ (t : Tally). plus t (column_on line (get_or columns place here))) c.loop-column.invariant
    ∙ sym (total-more (column_on line) columns place here c.loop-column-test.true)
