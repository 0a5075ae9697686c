-- Loop invariant: the connections with smaller numbers have their lines.
use Rattle.std.proofs.Common.{◌≡◌, ◌-◌, ◌≤◌, ◌^◌, ◌++◌}
use Rattle.card_core.specs.Agreement.{CoreAgrees}
use Rattle.card_core.specs.World.{World}
use Rattle.cmd_setups.specs.ConnectionCounts.{counts_below}
use Rattle.cmd_setups.specs.CountsAtSetup.{AreCountsAtSetup}
use Rattle.cmd_setups.proofs.CountsLemmas.{IsSmall, number_after}
use Rattle.cmd_setups.proofs.connection_counts.add_all_counts.Given as goal

abbrev pub invariant-loop-vc : goal.invariant-loop-vc
invariant-loop-vc l =
    record {
      number : l.least ≡ number_after l.earlier;
      small : IsSmall l.earlier;
      bounded : l.least ≤ 2 ^ 28;
      lines : (world : World) → CoreAgrees l.core world → AreCountsAtSetup l.at_setup.counts.items world → l.answers.items ≡ l.fn.answers.items ++ counts_below world l.least;
    }

abbrev pub decreases-loop-vc : goal.decreases-loop-vc
decreases-loop-vc l = 2 ^ 28 - l.least
