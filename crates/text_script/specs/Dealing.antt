-- The port or the desk that answers each line of a script, from its first cell line on.
use Rattle.std.specs.Prelude.{◌≡◌, ◌≢◌, ◌⊎◌, ℕ, ◌+◌, ◌*◌, ◌%◌, ◌<◌, Bool, false, List, [], ◌∷◌, ◌++◌, All, None, Some, MatchBool, codes, length, map, replicate, slice_get, slice_index, slice_set}
use Rattle.std.specs.Str.{bytes_eq}
use Rattle.upc_cell.specs.Connection.{vc_of}
use Rattle.upc_cell.specs.declared.side.Side.{Side}
use Rattle.upc_cell.specs.declared.vc.Vc.{Vc}
use Rattle.text_io.specs.Words.{words_of}
use Rattle.text_script.specs.ScriptCommands.{command_of}
use Rattle.text_script.specs.declared.cell_line.CellLine.{CellLine}
use Rattle.text_script.specs.declared.cell_line.CellLine.TheVariants.{Comes, IsFaulty}
use Rattle.text_script.specs.declared.dealing.Answerer.{Answerer}
use Rattle.text_script.specs.declared.cell_line.CellLineFault.{CellLineFault}
use Rattle.text_script.specs.declared.cell_line.CellLineFault.TheVariants.{BadLine, BadHex, WrongLength}
use Rattle.text_script.specs.declared.dealing.Answerer.TheVariants as answerers
use Rattle.text_script.specs.declared.dealing.Answerer.TheVariants.{Port, Desk}
use Rattle.text_script.specs.declared.dealing.Deal.{Deal}
use Rattle.text_script.specs.CellLine.{IsCellLine}

-- No octet of the line is a line feed.
abbrev pub IsOneLine : List ℕ → Type 0
IsOneLine line = (k : ℕ) → k < length line → slice_index line k ≢ 10

-- The text of these lines, each ended with a line feed.
abbrev pub text_of : List (List ℕ) → List ℕ
text_of [] = []
text_of (line ∷ lines) = line ++ 10 ∷ text_of lines

-- The octets are the text of these lines.
pub record AreLinesOf (octets : List ℕ) (lines : List (List ℕ)) : Type 0 where
  pub text : octets ≡ text_of lines
  pub each : All IsOneLine lines

-- Whether the first word is that of a cell line.
abbrev pub is_cell_line : List (List ℕ) → Bool
is_cell_line [] = false
is_cell_line (word ∷ words) = bytes_eq word (codes "cell")

-- The number of channels of a path.
abbrev pub channels : ℕ
channels = 65536

-- The port for the cells of this connection, of `ports` ports, from its path and its channel.
abbrev pub port_of : Vc → ℕ → ℕ
port_of vc ports = (vc.vpi * channels + vc.vci) % ports

-- The assignment of lines: the answerer of each line, in the script's order; the lines of the desk; the lines of each
-- port; and the lengths of cells that don't have 52 octets.
pub record Dealt : Type 0 where
  pub order : List Answerer
  pub desk : List (List ℕ)
  pub arrivals : List (List (List ℕ))
  pub lengths : List ℕ

-- No line is assigned, for this number of ports.
abbrev pub none_dealt : ℕ → Dealt
none_dealt ports = record { order = []; desk = []; arrivals = replicate ports []; lengths = [] }

-- The assignment in a deal.
abbrev pub dealt : Deal → Dealt
dealt deal = record {
  order = deal.order.items;
  desk = map (λ line. line.now) deal.desk.items;
  arrivals = map (λ own. map (λ line. line.now) own.items) deal.arrivals.items;
  lengths = deal.lengths.items;
}

-- The line of a cell is assigned to the port of the cell's connection, after the earlier lines of that port.
pub record DealsCell (side : Side) (cell line : List ℕ) (before after : Dealt) : Type 0 where
  pub own : List (List ℕ)
  pub there : slice_get before.arrivals (port_of (vc_of side cell) (length before.arrivals)) ≡ Some own
  pub dealt : after ≡ record before {
    order = before.order ++ Port (port_of (vc_of side cell) (length before.arrivals)) ∷ [];
    arrivals = slice_set before.arrivals (port_of (vc_of side cell) (length before.arrivals)) (own ++ line ∷ []);
  }

-- A line with this error is assigned to nobody.
abbrev pub fault_dealt : CellLineFault → Dealt → Dealt
fault_dealt BadLine before = record before { order = before.order ++ answerers.BadLine ∷ [] }
fault_dealt BadHex before = record before { order = before.order ++ answerers.BadHex ∷ [] }
fault_dealt (WrongLength count) before = record before {
  order = before.order ++ answerers.WrongLength ∷ [];
  lengths = before.lengths ++ count ∷ [];
}

-- A cell line with a cell is assigned to a port. A cell line with an error is assigned to nobody.
abbrev pub DealsFound : Side → List ℕ → CellLine → Dealt → Dealt → Type 0
DealsFound side line (Comes moment cell) before after = DealsCell side cell line before after
DealsFound side line (IsFaulty fault) before after = after ≡ fault_dealt fault before

-- A cell line is assigned by its content.
pub record DealsCellLine (side : Side) (line : List ℕ) (before after : Dealt) : Type 0 where
  pub found : CellLine
  pub brings : IsCellLine (command_of side (words_of line)) found
  pub dealt : DealsFound side line found before after

-- The next line of the desk.
abbrev pub DealsDeskLine : List ℕ → Dealt → Dealt → Type 0
DealsDeskLine line before after = after ≡ record before {
  order = before.order ++ Desk ∷ [];
  desk = before.desk ++ line ∷ [];
}

-- A line that is no command is assigned to nobody.
pub record DealsNoCommand (side : Side) (line : List ℕ) (before after : Dealt) : Type 0 where
  pub none : command_of side (words_of line) ≡ None
  pub dealt : after ≡ fault_dealt BadLine before

-- A line that is no cell line is one of the desk, or it is no command.
abbrev pub DealsOtherLine : Side → List ℕ → Dealt → Dealt → Type 0
DealsOtherLine side line before after = DealsDeskLine line before after ⊎ DealsNoCommand side line before after

-- One line is assigned.
abbrev pub DealsLine : Side → List ℕ → Dealt → Dealt → Type 0
DealsLine side line before after =
    MatchBool (is_cell_line (words_of line)) (DealsCellLine side line before after) (DealsOtherLine side line before after)

-- All lines are assigned, one by one.
abbrev pub DealsAll : Side → List (List ℕ) → Dealt → Dealt → Type 0
DealsAll side [] before after = after ≡ before
DealsAll side (line ∷ lines) before after = (next : Dealt) × DealsLine side line before next × DealsAll side lines next after
