use Rattle.std.proofs.Common.{◌≡◌, map, take}
use Rattle.rules_diagrams.specs.inner.CaseLists.{case_of}
use Rattle.rules_diagrams.proofs.comparing.cases_of.Given as goal

abbrev pub invariant-loop-meeting : goal.invariant-loop-meeting
invariant-loop-meeting l = l.cases.items ≡ map (case_of l.old l.new) (take l.meeting-index l.meetings)
