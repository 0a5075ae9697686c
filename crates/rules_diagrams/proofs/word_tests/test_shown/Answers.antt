use Rattle.bpf_interp.specs.Tests.{test_of}
use Rattle.rules_diagrams.specs.inner.Words.{word_number}
use Rattle.rules_diagrams.specs.inner.WordTests.{IsTestedAfter, GivesTruth}
use Rattle.rules_diagrams.proofs.Results.{if_ok}
use Rattle.rules_diagrams.proofs.WordDiagrams.{tested_whole}
use Rattle.rules_diagrams.proofs.word_tests.test_shown.Goals as goal

pub tested-requires : goal.tested-requires
tested-requires c = (c.of_none.ensures c.args.diagrams.now).within

pub returns-clause-shows : goal.returns-clause-shows
returns-clause-shows c =
    if_ok c.tested.result (IsTestedAfter c.args.diagrams.now c.tested.new.diagrams c.args.test c.args.bits.now c.args.k c.of_none.result)
    (GivesTruth c.tested.new.diagrams (λ cell. test_of c.args.test (word_number c.args.bits.now cell) c.args.k))
    (λ made after. tested_whole c.args.diagrams.now c.tested.new.diagrams c.args.test c.args.bits.now c.args.k c.of_none.result made (c.of_none.ensures c.args.diagrams.now) after) c.tested.ensures.tested
