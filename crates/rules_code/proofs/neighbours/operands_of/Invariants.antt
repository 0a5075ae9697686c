use Rattle.rules_code.proofs.AllOf.{Completes}
use Rattle.rules_code.proofs.neighbours.operands_of.Given as goal

abbrev pub invariant-loop-test : goal.invariant-loop-test
invariant-loop-test l = Completes l.fn.first l.fn.others.items l.operands.items l.last l.test-iterator.rest.items
