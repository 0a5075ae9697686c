-- The counts that lines had when their connections were set up. The card counts all cells of a line, also those of
-- connections that were released, and the table those of the present connection.
use Rattle.std.specs.Prelude.{◌≡◌, ℕ, ◌+◌, List, Option, Some, None, slice_get}
use Rattle.card_core.specs.World.{Connection, World, connection_in}
use Rattle.leaky.specs.declared.verdict.Verdict.{Verdict}
use Rattle.line_record.specs.Tally.{count_of, nothing, tally_of}
use Rattle.line_record.specs.declared.tally.Tally.{Tally}
use Rattle.upc_cell.specs.declared.vc.Vc.{Vc}
use Rattle.cmd_setups.specs.ConnectionCounts.{own_counts}

-- The counts in a list at this place, or those of no cell beyond its end.
abbrev pub counts_or_nothing : Option Tally → Tally
counts_or_nothing None = nothing
counts_or_nothing (Some counts) = counts

-- The counts of the line with this number at the setup of its connection.
abbrev pub counts_of_line : List Tally → ℕ → Tally
counts_of_line at_setup line = counts_or_nothing (slice_get at_setup line)

-- For each connection, its line has counted what it had counted at the setup, and the connection's own cells.
abbrev pub AreCountsAtSetup : List Tally → World → Type 0
AreCountsAtSetup at_setup world = (vc : Vc) (connection : Connection) → connection_in world.connections vc ≡ Some connection
    → (verdict : Verdict) → count_of (tally_of (world.verdicts connection.line)) verdict
    ≡ count_of (counts_of_line at_setup connection.line) verdict + count_of (own_counts connection) verdict
