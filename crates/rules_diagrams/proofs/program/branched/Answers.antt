use Rattle.rules_diagrams.specs.inner.Choices.{IsChoice}
use Rattle.rules_diagrams.specs.inner.Programs.{IsBranch}
use Rattle.rules_diagrams.proofs.Results.{if_ok}
use Rattle.rules_diagrams.proofs.ProgramSteps.{branch_chosen}
use Rattle.rules_diagrams.proofs.program.branched.Goals as goal

pub choose-requires-clause-one : goal.choose-requires-clause-one
choose-requires-clause-one c = (c.in_ok-met.ensures.keeps.same c.args.one c.requires.one).within

pub choose-requires-clause-other : goal.choose-requires-clause-other
choose-requires-clause-other c = (c.in_ok-met.ensures.keeps.same c.args.other c.requires.other).within

pub returns-clause-branch : goal.returns-clause-branch
returns-clause-branch c =
    if_ok c.choose.result (IsChoice c.choose.new.self c.in_ok-met.met c.args.one c.args.other) (IsBranch c.args.diagrams.now c.choose.new.self c.args.test c.args.bits.now c.args.k c.args.one c.args.other)
    (λ made choice. branch_chosen c.args.diagrams.now c.test_shown.new.diagrams c.choose.new.self c.args.test c.args.bits.now c.args.k c.in_ok-met.met c.args.one c.args.other made
    c.in_ok-met.ensures.keeps c.choose.ensures.keeps c.requires.one c.requires.other c.in_ok-met.ensures.shows choice) c.choose.ensures.chosen
