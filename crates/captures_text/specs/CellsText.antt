-- The text of the cells of a capture: a line of a script for each cell of a capture, and comments about the records that were passed over.
use Rattle.std.specs.Prelude.{◌≡◌, ◌↔◌, ℕ, Bool, if◌then◌else◌, List, [], ◌++◌, codes, decimal, flat_map, Option, Some}
use Rattle.hex.specs.Hex.{encode_lower}
use Rattle.captures.specs.declared.fault.Fault.{Fault}
use Rattle.captures.specs.declared.link.Link.{Link}
use Rattle.captures.specs.declared.packet_time.TimeSource.{TimeSource}
use Rattle.captures_text.specs.CaptureText.{IsCaptureText, IsTextOfCells, end_done, text_at_end}
use Rattle.captures_text.specs.CellFilter.{CellsEnd, filter_start}
use Rattle.captures_text.specs.CellRules.{CellRules, fixed_rules}
use Rattle.captures_text.specs.RunLines.{closing_lines}
use Rattle.captures_text.specs.declared.captured_cell.CapturedCell.{CapturedCell}
use Rattle.captures_text.specs.declared.reading_summary.ReadingSummary.{ReadingSummary}
use Rattle.text_io.specs.declared.ending.Done.{Done}

-- The line of a cell, as scripts have it: its moment, and its 52 octets in hexadecimal digits.
abbrev pub cell_line : ℕ → List ℕ → List ℕ
cell_line moment cell = codes "cell " ++ decimal moment ++ codes " " ++ encode_lower cell ++ codes "\n"

-- The comment with the number of a record.
abbrev pub record_comment : ℕ → List ℕ
record_comment number = codes "# record " ++ decimal number ++ codes "\n"

-- The line of a cell that counts, after the comment with the number of its record if that is asked for.
abbrev pub captured_line : Bool → CapturedCell → List ℕ
captured_line numbered captured =
    (if numbered then record_comment captured.number else []) ++ cell_line captured.moment captured.cell

-- The state of a run, which stays: whether the numbers of records are asked for.
pub record CellsWorld : Type 0 where
  pub numbered : Bool

-- The answer to a cell.
abbrev pub cells_steps : CellsWorld → CapturedCell → List ℕ × Option CellsWorld
cells_steps world captured = (captured_line world.numbered captured, Some world)

-- The answer to the end: the comments, and the fault if there is one.
abbrev pub cells_closes : CellsWorld → ReadingSummary → Option Fault → List ℕ
cells_closes world summary ending = closing_lines summary ending

-- The rules of `cells`.
abbrev pub cells_rules : CellRules CellsWorld
cells_rules = fixed_rules cells_steps cells_closes

-- The state at first.
abbrev pub cells_start : Bool → CellsWorld
cells_start numbered = record { numbered = numbered }

-- The output for a whole file, and how the run ends, with a tick of this many nanoseconds, the link that was asked for
-- and the time of a record that counts. `numbered` says whether the numbers of records are asked for.
abbrev pub IsCellsText : ℕ → Option Link → TimeSource → Bool → List ℕ → List ℕ → Done → Type 0
IsCellsText tick link timing numbered = IsCaptureText cells_rules (filter_start tick link timing) (cells_start numbered)

-- The lines of these cells.
abbrev pub captured_lines : Bool → List CapturedCell → List ℕ
captured_lines numbered cells = flat_map (captured_line numbered) cells

-- The text has the lines of the cells that count, in order, and then the answer to their end, and there is no other text.
abbrev pub CellsAreWritten : Type 0
CellsAreWritten = (numbered : Bool) (cells : List CapturedCell) (end : CellsEnd) (text : List ℕ) (done : Done)
    → IsTextOfCells cells_rules (cells_start numbered) cells end text done
    ↔ ((text ≡ captured_lines numbered cells ++ text_at_end cells_rules (cells_start numbered) end) × (done ≡ end_done end))

-- A file has exactly one output.
abbrev pub CapturesHaveOneCellsText : Type 0
CapturesHaveOneCellsText = (tick : ℕ) (link : Option Link) (timing : TimeSource) (numbered : Bool) (octets : List ℕ)
    → ((text : List ℕ) × (done : Done) × IsCellsText tick link timing numbered octets text done)
    × ((one other : List ℕ) (ends other_ends : Done) → IsCellsText tick link timing numbered octets one ends
    → IsCellsText tick link timing numbered octets other other_ends → (one ≡ other) × (ends ≡ other_ends))
