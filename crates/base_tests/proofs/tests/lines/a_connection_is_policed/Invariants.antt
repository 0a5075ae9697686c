use Rattle.line_record.specs.Line.{IsHeld}
use Rattle.base_tests.proofs.tests.lines.a_connection_is_policed.Given as goal

abbrev pub invariant-loop-moment : goal.invariant-loop-moment
invariant-loop-moment g l = IsHeld l.line
