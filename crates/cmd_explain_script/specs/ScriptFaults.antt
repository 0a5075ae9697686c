-- The faults of a script, by the fault lines of `upc run`.
use Rattle.std.specs.Prelude.{ℕ, Bool, if◌then◌else◌, List, [], ◌∷◌, codes, length, take, Option, Some, None}
use Rattle.std.specs.Str.{bytes_eq}
use Rattle.cmd_explain_script.specs.declared.script_faults.ScriptFault.{ScriptFault}
use Rattle.cmd_explain_script.specs.declared.script_faults.ScriptFault.TheVariants as fault

-- Whether an answer is a fault line.
abbrev pub is_fault_line : List ℕ → Bool
is_fault_line answer = bytes_eq (take 6 answer) (codes "fault ")

-- The beginnings of fault lines about a line's words.
abbrev pub word_faults : List (List ℕ × ScriptFault)
word_faults =
    (codes "fault script 1 ", fault.BadLine) ∷ (codes "fault script 2 ", fault.NoCard) ∷ (codes "fault script 3 ", fault.BadHex)
    ∷ (codes "fault cell 1 ", fault.WrongLength) ∷ (codes "fault shape 1 ", fault.ManyPrograms) ∷ (codes "fault shape 2 ", fault.ManyLines)
    ∷ (codes "fault shape 3 ", fault.ManyPorts) ∷ (codes "fault shape 4 ", fault.LongJournal)
    ∷ (codes "fault gcra 1 ", fault.ZeroIncrement) ∷ (codes "fault gcra 2 ", fault.LargeRate) ∷ []

-- The beginnings of fault lines about a program's octets.
abbrev pub code_faults : List (List ℕ × ScriptFault)
code_faults =
    (codes "fault decode 1 ", fault.Ragged) ∷ (codes "fault decode 2 ", fault.UnknownCode) ∷ (codes "fault verify 1 ", fault.NoInstruction)
    ∷ (codes "fault verify 2 ", fault.LongCode) ∷ (codes "fault verify 3 ", fault.BadScratch) ∷ (codes "fault verify 4 ", fault.ZeroDivisor)
    ∷ (codes "fault verify 5 ", fault.BadShift) ∷ (codes "fault verify 6 ", fault.JumpOutside) ∷ (codes "fault verify 7 ", fault.NoReturn)
    ∷ (codes "fault verify 8 ", fault.Unwritten) ∷ []

-- The beginnings of the desk's fault lines.
abbrev pub desk_faults : List (List ℕ × ScriptFault)
desk_faults =
    (codes "fault desk 1 ", fault.NoProgram) ∷ (codes "fault desk 2 ", fault.NoConnection) ∷ (codes "fault desk 3 ", fault.Taken)
    ∷ (codes "fault desk 4 ", fault.NoLine) ∷ (codes "fault desk 5 ", fault.InUse) ∷ (codes "fault desk 6 ", fault.ProgramsFull)
    ∷ (codes "fault desk 7 ", fault.Exhausted) ∷ (codes "fault desk 8 ", fault.BadContracts) ∷ (codes "fault desk 9 ", fault.Busy)
    ∷ (codes "fault desk 11 ", fault.StaleLine) ∷ []

-- The beginnings of fault lines about cells that aren't judged.
abbrev pub cell_faults : List (List ℕ × ScriptFault)
cell_faults =
    (codes "fault arrive 1 ", fault.CellUnknown) ∷ (codes "fault arrive 2 ", fault.CellReleased) ∷ (codes "fault arrive 3 ", fault.CellStale)
    ∷ (codes "fault arrive 4 ", fault.MomentBack) ∷ (codes "fault arrive 5 ", fault.MomentTooLate)
    ∷ (codes "fault arrive 6 ", fault.JournalFull) ∷ []

-- The fault of the first of these rows that an answer begins with.
abbrev pub fault_among : List ℕ → List (List ℕ × ScriptFault) → Option ScriptFault
fault_among answer [] = None
fault_among answer (row ∷ rows) = if bytes_eq (take (length row.0) answer) row.0 then Some row.1 else fault_among answer rows

-- The first of two faults.
abbrev pub fault_or : Option ScriptFault → Option ScriptFault → Option ScriptFault
fault_or None other = other
fault_or (Some found) other = Some found

-- The fault of a fault line.
abbrev pub explained_fault : List ℕ → Option ScriptFault
explained_fault answer =
    fault_or (fault_among answer word_faults) (fault_or (fault_among answer code_faults)
    (fault_or (fault_among answer desk_faults) (fault_among answer cell_faults)))
