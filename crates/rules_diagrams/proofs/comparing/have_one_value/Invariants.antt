use Rattle.std.proofs.Common.{◌≡◌, drop}
use Rattle.rules_diagrams.specs.inner.CaseLists.{have_one_value}
use Rattle.rules_diagrams.proofs.comparing.have_one_value.Given as goal

abbrev pub invariant-loop-case : goal.invariant-loop-case
invariant-loop-case l = have_one_value (drop l.case-index l.cases) ≡ have_one_value l.cases
