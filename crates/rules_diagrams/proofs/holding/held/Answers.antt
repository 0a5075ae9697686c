use Rattle.std.proofs.Common.{ℕ, ◌&&◌, Bool, List}
use Rattle.rules_cells.specs.Tests.{is_met}
use Rattle.rules_diagrams.specs.inner.Holding.{first_inside}
use Rattle.rules_diagrams.specs.inner.Tells.{Tells}
use Rattle.rules_diagrams.proofs.Results.{if_ok}
use Rattle.rules_diagrams.proofs.InsideSteps.{told_within}
use Rattle.rules_diagrams.proofs.holding.held.Goals as goal

pub returns-clause-tells : goal.returns-clause-tells
returns-clause-tells c =
    if_ok c.both.result
    (λ made. (met also : List ℕ → Bool) → Tells c.met.new.diagrams met c.in_ok-one.one → Tells c.met.new.diagrams also c.first_of.result → Tells c.both.new.diagrams (λ cell. also cell && met cell) made)
    (λ made. (within : List ℕ → Bool) → Tells c.args.diagrams.now within (first_inside c.args.inside.now.items) → Tells c.both.new.diagrams (λ cell. within cell && is_met c.args.side c.args.test.now cell) made)
    (λ made by within there. by (is_met c.args.side c.args.test.now) within c.in_ok-one.ensures.tells
    (told_within c.args.diagrams.now c.met.new.diagrams within c.first_of.result (first_inside c.args.inside.now.items) c.first_of.ensures c.met.ensures.keeps there)) c.both.ensures.tells
