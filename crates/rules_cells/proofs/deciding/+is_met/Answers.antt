use Rattle.std.proofs.Common.{List, ◌∙◌, sym, ap}
use Rattle.rules_cells.specs.Tests.{is_met}
use Rattle.rules_cells.specs.inner.MetTests.{each_is_met, some_is_met}
use Rattle.rules_cells.specs.declared.test.Test.{Test}
use Rattle.rules_cells.proofs.MetTests.{met_all, met_any}
use Rattle.rules_cells.proofs.deciding.+is_met.Goals as goal

pub is_met-returns-in-AllOf : goal.is_met-returns-in-AllOf
is_met-returns-in-AllOf t c =
    c.all_are_met.ensures ∙ (ap (λ (ts : List Test). each_is_met c.args.side ts c.args.cell.now) c.deref-in-AllOf.ensures.value
    ∙ (sym (met_all c.args.side c.args.cell.now c.in-AllOf.tests) ∙ sym (ap (λ (test : Test). is_met c.args.side test c.args.cell.now) c.in-AllOf.is)))

pub is_met-returns-in-AnyOf : goal.is_met-returns-in-AnyOf
is_met-returns-in-AnyOf t c =
    c.one_is_met.ensures ∙ (ap (λ (ts : List Test). some_is_met c.args.side ts c.args.cell.now) c.deref-in-AnyOf.ensures.value
    ∙ (sym (met_any c.args.side c.args.cell.now c.in-AnyOf.tests) ∙ sym (ap (λ (test : Test). is_met c.args.side test c.args.cell.now) c.in-AnyOf.is)))
