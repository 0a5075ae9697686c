use Rattle.std.proofs.Common.{◌≡◌, take}
use Rattle.rules_code.specs.inner.Chains.{known_after_more_tests}
use Rattle.rules_code.proofs.tests_code.+known_after.Given as goal

abbrev pub invariant-known_after_tests-loop-test : goal.invariant-known_after_tests-loop-test
invariant-known_after_tests-loop-test l = l.known ≡ known_after_more_tests l.on (take l.test-index l.others) l.initial.known
