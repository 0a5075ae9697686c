use Rattle.std.proofs.Common.{◌≤◌, length, drop}
use Rattle.rules_code.specs.inner.Chains.{chain_code, held_before}
use Rattle.rules_code.specs.inner.Making.{IsMade}
use Rattle.rules_code.proofs.tests_code.+put_test.Given as goal

abbrev pub invariant-put_chain-loop-left : goal.invariant-put_chain-loop-left
invariant-put_chain-loop-left l = (l.left ≤ length l.tests) × IsMade (chain_code l.on (drop l.left l.tests) (held_before l.on l.tests l.fn.held l.left) l.initial.draft l.next l.end) l.draft l.ways

abbrev pub decreases-put_chain-loop-left : goal.decreases-put_chain-loop-left
decreases-put_chain-loop-left l = l.left
