-- Loop invariant: the octets so far and what is left are all.
use Rattle.std.proofs.Common.{◌≡◌, ◌-◌, ◌++◌, length}
use Rattle.cmd_explain.proofs.first_line.look.Given as goal

abbrev pub invariant-loop-room : goal.invariant-loop-room
invariant-loop-room g l = record {
  same : g.I.Input.is_known → l.octets.items ++ g.I.Input.rest l.input ≡ l.fn.octets.items ++ g.I.Input.rest l.fn.input;
  reading : g.I.Input.failures l.input ≡ g.I.Input.failures l.fn.input;
}

abbrev pub decreases-loop-room : goal.decreases-loop-room
decreases-loop-room g l = 70001 - length l.octets.items
