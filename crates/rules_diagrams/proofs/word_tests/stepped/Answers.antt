use Rattle.rules_diagrams.specs.inner.WordTests.{IsStepped}
use Rattle.rules_diagrams.specs.inner.Choices.{IsChoice}
use Rattle.rules_diagrams.proofs.Results.{if_ok}
use Rattle.rules_diagrams.proofs.WordDiagrams.{stepped_shows}
use Rattle.rules_diagrams.proofs.word_tests.stepped.Goals as goal

pub choose-requires-clause-one : goal.choose-requires-clause-one
choose-requires-clause-one c = c.if_set.ensures.within c.set.new.diagrams (c.in_ok-first.ensures.keeps.same c.args.lower c.requires).within

pub choose-requires-clause-other : goal.choose-requires-clause-other
choose-requires-clause-other c = c.if_clear.ensures.within c.set.new.diagrams (c.in_ok-first.ensures.keeps.same c.args.lower c.requires).within

pub returns-clause-stepped : goal.returns-clause-stepped
returns-clause-stepped c =
    if_ok c.choose.result (IsChoice c.choose.new.self c.in_ok-first.first c.if_set.result c.if_clear.result)
    (IsStepped c.args.diagrams.now c.choose.new.self c.args.test c.args.bit c.args.other c.args.lower)
    (λ made choice. stepped_shows c.args.diagrams.now c.set.new.diagrams c.choose.new.self c.args.test c.args.bit c.args.other c.args.lower c.in_ok-first.first c.if_set.result c.if_clear.result made
    c.in_ok-first.ensures.keeps c.choose.ensures.keeps c.in_ok-first.ensures.shows c.if_set.ensures.value c.if_clear.ensures.value choice) c.choose.ensures.chosen
