-- The text that answers a capture: the answers to its cells that count, in order, and then to their end.
use Rattle.std.specs.Prelude.{◌≡◌, if◌then◌else◌, ℕ, List, [], ◌∷◌, ◌++◌, drop, Option, Some, None, MatchOption}
use Rattle.captures.specs.Frames.{format_start, format_timed}
use Rattle.captures.specs.Opening.{file_opening, is_text}
use Rattle.captures.specs.declared.fault.Fault.{Fault}
use Rattle.captures.specs.declared.fault.RecordFault.TheVariants.{CutOff, ShortText}
use Rattle.captures.specs.declared.format.Format.{Format}
use Rattle.captures.specs.declared.opening.Opening.{Opening}
use Rattle.captures.specs.declared.opening.Opening.TheVariants.{Opened, Undecided, Refused}
use Rattle.captures_text.specs.CaptureFaults.{file_fault_line}
use Rattle.captures_text.specs.CellFilter.{CellsEnd, Closes, Crosses, FilterState, HasCells}
use Rattle.captures_text.specs.CellRules.{CellRules}
use Rattle.captures_text.specs.RunLines.{several_line}
use Rattle.captures_text.specs.declared.captured_cell.CapturedCell.{CapturedCell}
use Rattle.text_io.specs.declared.ending.Done.{Done}
use Rattle.text_io.specs.declared.ending.Done.TheVariants.{Whole, Ended}

-- A run ends early at a fault.
abbrev pub done_at : Option Fault → Done
done_at None = Whole
done_at (Some fault) = Ended

-- The text that answers the end of the cells in this world.
abbrev pub text_at_end : {World : Type 0} → CellRules World → World → CellsEnd → List ℕ
text_at_end rules world (Closes summary ending) = rules.closes world summary ending
text_at_end rules world (Crosses one other) = several_line one other

-- How a run ends at that end: early at a fault or at a cell of a second link.
abbrev pub end_done : CellsEnd → Done
end_done (Closes summary ending) = done_at ending
end_done (Crosses one other) = Ended

-- From this world the text may answer these cells in order, and then their end, and the run then ends in this way.
abbrev pub IsTextOfCells : {World : Type 0} → CellRules World → World → List CapturedCell → CellsEnd → List ℕ → Done → Type 0
IsTextOfCells rules world [] end text done = (text ≡ text_at_end rules world end) × (done ≡ end_done end)
IsTextOfCells {World = World} rules world (captured ∷ cells) end text done =
    (here : List ℕ) × (more : List ℕ) × (next : Option World) × (text ≡ here ++ more) × rules.steps world captured here next
    × MatchOption next ((more ≡ []) × (done ≡ Ended)) (λ world'. IsTextOfCells rules world' cells end more done)

-- A run over these cells may go on after each, and then be in this world.
abbrev pub RunsThrough : {World : Type 0} → CellRules World → World → List CapturedCell → World → Type 0
RunsThrough rules world [] last = last ≡ world
RunsThrough {World = World} rules world (captured ∷ cells) last =
    (here : List ℕ) × (next : World) × rules.steps world captured here (Some next) × RunsThrough rules next cells last

-- From this state of the filter and this world, after this many records, at this place, the text may answer the octets,
-- and the run then ends in this way.
abbrev pub IsRecordsText : {World : Type 0} → CellRules World → FilterState → Format → ℕ → ℕ → World → List ℕ → List ℕ → Done → Type 0
IsRecordsText rules filter format count at world octets text done =
    (cells : List CapturedCell) × (end : CellsEnd) × HasCells filter format count at octets cells end × IsTextOfCells rules world cells end text done

-- The fault of a file that is too short for a capture: it is a text, or was cut off.
abbrev pub short_fault : List ℕ → Fault
short_fault octets = record { at = 0; reason = if is_text octets then ShortText else CutOff }

-- From this state of the filter and this world, the text may answer a file with these octets. The opening says what the file is.
abbrev pub IsOpenedText : {World : Type 0} → CellRules World → FilterState → World → List ℕ → Opening → List ℕ → Done → Type 0
IsOpenedText rules filter world octets (Opened format) text done =
    IsRecordsText rules filter (format_timed filter.timing format) 0 (format_start format) world (drop (format_start format) octets) text done
IsOpenedText rules filter world octets Undecided text done =
    (text ≡ rules.closes world filter.summary (Some (short_fault octets))) × (done ≡ Ended)
IsOpenedText rules filter world octets (Refused fault) text done = (text ≡ file_fault_line fault) × (done ≡ Ended)

-- From this state of the filter and this world, the text may answer a file with these octets, and the run then ends in this way.
abbrev pub IsCaptureText : {World : Type 0} → CellRules World → FilterState → World → List ℕ → List ℕ → Done → Type 0
IsCaptureText rules filter world octets text done = IsOpenedText rules filter world octets (file_opening octets) text done
