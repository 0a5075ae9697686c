use Rattle.std.proofs.Common.{◌/◌, ◌-◌, take, drop, length}
use Rattle.rules_diagrams.specs.inner.WordTests.{IsTestedAfter}
use Rattle.rules_diagrams.proofs.Results.{if_ok}
use Rattle.rules_diagrams.proofs.WordDiagrams.{tested_more, tested_none, tested_slice}
use Rattle.rules_diagrams.proofs.word_tests.+tested.Goals as goal

pub returns-in-empty-clause-tested : goal.returns-in-empty-clause-tested
returns-in-empty-clause-tested t c =
    tested_none c.args.diagrams.now c.args.diagrams.now c.args.test c.args.bits.now c.args.k c.args.lower c.ended.result c.in-empty.len_below (c.ended.ensures.ended c.args.diagrams.now)

pub returns-in_ok-one-in-len1-up-clause-tested : goal.returns-in_ok-one-in-len1-up-clause-tested
returns-in_ok-one-in-len1-up-clause-tested t c =
    if_ok c.tested.result (IsTestedAfter c.stepped.new.diagrams c.tested.new.diagrams c.args.test (take (length c.args.bits.now - 1) (drop 1 c.args.bits.now)) (c.args.k / 2) c.in_ok-one-in-len1-up.one)
    (IsTestedAfter c.args.diagrams.now c.tested.new.diagrams c.args.test c.args.bits.now c.args.k c.args.lower)
    (λ made after. tested_slice c.args.diagrams.now c.tested.new.diagrams c.args.test c.args.bits.now _ c.args.k c.args.lower made c.in-len1-up.len_at_least
    (tested_more c.args.diagrams.now c.stepped.new.diagrams c.tested.new.diagrams c.args.test _ (take (length c.args.bits.now - 1) (drop 1 c.args.bits.now)) c.args.k c.args.lower c.in_ok-one-in-len1-up.one made
    c.in_ok-one-in-len1-up.ensures.stepped after)) c.tested.ensures.tested
