-- The table of the counts of each connection, in order of path and channel.
use Rattle.std.specs.Prelude.{ℕ, zero, suc, ◌/◌, ◌%◌, ◌^◌, List, [], ◌++◌, codes, decimal, map, Option, Some, None}
use Rattle.std.proofs.Math.Nat.{mod-lt, zero-lt-suc, le_of_suc-le-suc}
use Rattle.card_core.specs.World.{Connection, World, connection_in}
use Rattle.leaky.specs.declared.verdict.Verdict.{Verdict}
use Rattle.line_record.specs.History.{empty_buckets, judged}
use Rattle.line_record.specs.Tally.{tally_of}
use Rattle.line_record.specs.declared.tally.Tally.{Tally}
use Rattle.upc_cell.specs.declared.side.Side.{Side}
use Rattle.upc_cell.specs.declared.vc.Vc.{Vc}
use Rattle.text_script.specs.ReplyTexts.{channel_name}
use Rattle.cmd_setups.specs.Columns.{in_column}

-- The connection with this number, below 2^28, in the order of path and channel.
abbrev pub vc_numbered : ℕ → Vc
vc_numbered number = record {
  vpi = number / 65536 % 4096;
  vci = number % 65536;
  of_an_interface = le_of_suc-le-suc (mod-lt (number / 65536) (zero-lt-suc 4095));
}

-- The verdicts on the cells of a connection since it was set up.
abbrev pub own_verdicts : Connection → List Verdict
own_verdicts connection = map (λ entry. entry.verdict) (judged connection.contracts empty_buckets [] connection.history)

-- Their counts. Those of its line also have the cells of earlier connections on it.
abbrev pub own_counts : Connection → Tally
own_counts connection = tally_of (own_verdicts connection)

-- The line of a connection of a card of this side: its path, its channel, and these counts.
abbrev pub counts_line : Side → Vc → Tally → List ℕ
counts_line side vc tally =
    in_column (decimal vc.vpi) ++ (in_column (channel_name side vc.vci) ++ (in_column (decimal tally.passed) ++ (in_column (decimal tally.tagged)
    ++ (in_column (decimal tally.discarded) ++ (decimal tally.refused ++ codes "\n")))))

-- The line of a connection of this world, or nothing if it isn't set up.
abbrev pub counts_if_any : World → Vc → Option Connection → List ℕ
counts_if_any world vc None = []
counts_if_any world vc (Some connection) = counts_line world.shape.side vc (own_counts connection)

-- The line of this connection, if it is set up.
abbrev pub connection_counts : World → Vc → List ℕ
connection_counts world vc = counts_if_any world vc (connection_in world.connections vc)

-- The lines of the connections with smaller numbers, in order.
unfoldable pub counts_below : World → ℕ → List ℕ
counts_below world zero = []
counts_below world (suc number) = counts_below world number ++ connection_counts world (vc_numbered number)

-- The lines of all connections.
abbrev pub counts_lines : World → List ℕ
counts_lines world = counts_below world (2 ^ 28)

-- The heading of the table.
abbrev pub counts_heading : List ℕ
counts_heading = codes "vpi\tvci\tpassed\ttagged\tdiscarded\trefused\n"
