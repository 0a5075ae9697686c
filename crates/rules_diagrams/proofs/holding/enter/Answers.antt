use Rattle.std.proofs.Common.{nat_le}
use Rattle.rules_cells.specs.declared.rules.RuleLine.TheVariants.{Rule, Block, End}
use Rattle.rules_diagrams.specs.inner.Holding.{passed_before}
use Rattle.rules_diagrams.proofs.InsideSteps.{block_inside, end_inside, first_told, first_within, line_at, rule_inside}
use Rattle.rules_diagrams.proofs.holding.enter.Goals as goal

pub held-requires : goal.held-requires
held-requires c = first_within c.args.diagrams.now (passed_before c.args.rules.now c.args.place) c.args.inside.now.items c.requires.inside

pub returns-in-Rule-clause-inside : goal.returns-in-Rule-clause-inside
returns-in-Rule-clause-inside c =
    rule_inside c.args.rules.now c.args.place c.args.diagrams.now c.args.diagrams.now c.args.inside.now.items c.requires.inside c.in-Rule.test c.in-Rule.value
    (line_at c.args.rules.now.lines.items c.args.place (Rule c.in-Rule.test c.in-Rule.value) c.index.result.now c.requires.place c.index.ensures c.in-Rule.is)

pub returns-in_ok-push_front-in-Block-clause-inside : goal.returns-in_ok-push_front-in-Block-clause-inside
returns-in_ok-push_front-in-Block-clause-inside c =
    block_inside c.args.rules.now c.args.place c.args.diagrams.now c.held.new.diagrams c.args.inside.now.items c.requires.inside c.in-Block.test c.in_ok-within-in-Block.within c.push_front.new.self.items
    c.held.ensures.keeps (line_at c.args.rules.now.lines.items c.args.place (Block c.in-Block.test) c.index.result.now c.requires.place c.index.ensures c.in-Block.is)
    (c.in_ok-within-in-Block.ensures.tells (λ cell. nat_le (passed_before c.args.rules.now c.args.place cell) 0)
    (first_told c.args.diagrams.now (passed_before c.args.rules.now c.args.place) c.args.inside.now.items c.requires.inside)) c.in_ok-push_front-in-Block.ensures.items

pub returns-in-End-clause-inside : goal.returns-in-End-clause-inside
returns-in-End-clause-inside c =
    end_inside c.args.rules.now c.args.place c.args.diagrams.now c.args.diagrams.now c.args.inside.now.items c.requires.inside c.leave.new.inside.items
    (line_at c.args.rules.now.lines.items c.args.place End c.index.result.now c.requires.place c.index.ensures c.in-End.is) c.leave.ensures
