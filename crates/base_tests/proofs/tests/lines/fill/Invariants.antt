use Rattle.line_record.specs.Line.{IsHeld}
use Rattle.base_tests.proofs.tests.lines.fill.Given as goal

abbrev pub invariant-loop-moment : goal.invariant-loop-moment
invariant-loop-moment l = IsHeld l.line
