use Rattle.std.proofs.Common.{◌≡◌, ◌++◌, ◌-◌, length}
use Rattle.cmd_rules.specs.inner.RulesTaken.{IsUpTo}
use Rattle.cmd_rules.proofs.before_cells.read_rules_before.Given as goal

abbrev pub invariant-loop-input : goal.invariant-loop-input
invariant-loop-input g l = record {
  up_to : IsUpTo l.text.items l.start;
  came : g.I.Input.is_known → g.I.Input.rest l.fn.input ≡ l.text.items ++ g.I.Input.rest l.input;
  reading : g.I.Input.failures l.input ≡ g.I.Input.failures l.fn.input;
}

abbrev pub decreases-loop-input : goal.decreases-loop-input
decreases-loop-input g l = 1118577 - length l.text.items
