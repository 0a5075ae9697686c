use Rattle.std.proofs.Common.{◌∷◌, sym, subst}
use Rattle.rules_cells.specs.declared.rules.RuleLine.{RuleLine}
use Rattle.rules_diagrams.specs.inner.Lined.{AreLined}
use Rattle.rules_cells.specs.declared.rules.RuleLine.TheVariants.{Rule, Block}
use Rattle.rules_diagrams.proofs.LineSteps.{rule_lined, block_lined, end_lined, lined_as, taken_within}
use Rattle.rules_diagrams.proofs.lines.with_line.Goals as goal

pub choose-requires-clause-other : goal.choose-requires-clause-other
choose-requires-clause-other c = (c.met.ensures.keeps.same c.args.so_far (c.requires.within 0)).within

pub choose-requires-in-Block-clause-one : goal.choose-requires-in-Block-clause-one
choose-requires-in-Block-clause-one c = (c.met-in-Block.ensures.keeps.same c.args.so_far (c.requires.within 0)).within

pub choose-requires-in-Block-clause-other : goal.choose-requires-in-Block-clause-other
choose-requires-in-Block-clause-other c =
    taken_within c.args.diagrams.now c.met-in-Block.new.diagrams c.args.so_far c.take_first-after.result c.args.outer.now.items c.met-in-Block.ensures.keeps c.requires.within c.take_first-after.ensures.first

pub returns-in_ok-test-in-Rule-clause-lined : goal.returns-in_ok-test-in-Rule-clause-lined
returns-in_ok-test-in-Rule-clause-lined c =
    lined_as c.choose.result c.args.side c.args.place c.args.diagrams.now c.choose.new.self c.args.so_far c.args.outer.now.items c.args.outer.now.items c.args.line.now (Rule c.in-Rule.test c.in-Rule.value) c.in-Rule.is
    (rule_lined c.args.side c.args.place c.args.diagrams.now c.met.new.diagrams c.choose.new.self c.args.so_far c.args.outer.now.items c.in-Rule.test c.in-Rule.value c.in_ok-test-in-Rule.test c.choose.result
    c.met.ensures.keeps c.choose.ensures.keeps c.in_ok-test-in-Rule.ensures.tells c.choose.ensures.chosen)

pub returns-in_ok-test-in-Block-clause-lined : goal.returns-in_ok-test-in-Block-clause-lined
returns-in_ok-test-in-Block-clause-lined c =
    lined_as c.choose-in-Block.result c.args.side c.args.place c.args.diagrams.now c.choose-in-Block.new.self c.args.so_far c.args.outer.now.items c.take_first-after.new.outer.items c.args.line.now (Block c.in-Block.test) c.in-Block.is
    (block_lined c.args.side c.args.place c.args.diagrams.now c.met-in-Block.new.diagrams c.choose-in-Block.new.self c.args.so_far c.args.outer.now.items c.in-Block.test c.in_ok-test-in-Block.test c.take_first-after.result c.take_first-after.new.outer.items c.choose-in-Block.result
    c.met-in-Block.ensures.keeps c.choose-in-Block.ensures.keeps c.in_ok-test-in-Block.ensures.tells c.take_first-after.ensures.first c.take_first-after.ensures.left c.choose-in-Block.ensures.chosen)

pub returns-in_ok-push_front-in-End-clause-lined : goal.returns-in_ok-push_front-in-End-clause-lined
returns-in_ok-push_front-in-End-clause-lined c = λ rest otherwise lined.
    subst (λ (line : RuleLine). AreLined c.args.diagrams.now c.args.side (line ∷ rest) c.args.place otherwise c.args.so_far c.push_front.new.self.items) (sym c.in-End.is)
    (end_lined c.args.side c.args.place c.args.diagrams.now c.args.so_far c.args.outer.now.items c.push_front.new.self.items c.in_ok-push_front-in-End.ensures.items rest otherwise lined)
