-- The counts of a connection, from those of its line now and at the setup.
use Rattle.std.specs.Prelude.{◌≡◌, ◌-◌, List, Option, option_map}
use Rattle.card_core.specs.Agreement.{CoreAgrees, CoreView}
use Rattle.card_core.specs.World.{World, connection_in}
use Rattle.line_record.specs.declared.tally.Tally.{Tally}
use Rattle.upc_cell.specs.declared.vc.Vc.{Vc}
use Rattle.cmd_setups.specs.ConnectionCounts.{own_counts}
use Rattle.cmd_setups.specs.CountsAtSetup.{AreCountsAtSetup}

-- The counts without those at the setup.
abbrev pub counts_since : Tally → Tally → Tally
counts_since counts at_setup = record {
  passed = counts.passed - at_setup.passed;
  tagged = counts.tagged - at_setup.tagged;
  discarded = counts.discarded - at_setup.discarded;
  refused = counts.refused - at_setup.refused;
}

-- The counts of a connection in each such world that the core agrees with, or none if it has no such connection.
abbrev pub AreOwnCounts : CoreView → List Tally → Vc → Option Tally → Type 0
AreOwnCounts core at_setup vc counts = (world : World) → CoreAgrees core world → AreCountsAtSetup at_setup world
    → option_map own_counts (connection_in world.connections vc) ≡ counts
