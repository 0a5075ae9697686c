use Rattle.std.proofs.Common.{◌≡◌, ◌++◌, ◌-◌, ◌≤◌, take, length}
use Rattle.text_io.proofs.delivery.give_all.Given as goal

abbrev pub invariant-loop-given : goal.invariant-loop-given
invariant-loop-given g l =
    record {
      within : l.given ≤ length l.octets;
      held : g.O.Output.is_known → g.O.Output.held l.output ≡ g.O.Output.held l.fn.output ++ take l.given l.octets;
      calm : g.O.Output.failures l.output ≡ g.O.Output.failures l.fn.output;
    }

abbrev pub decreases-loop-given : goal.decreases-loop-given
decreases-loop-given g l = length l.octets - l.given
