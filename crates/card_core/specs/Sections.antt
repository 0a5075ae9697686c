-- The effects of the locked sections on the parts that are passed to them.
use Rattle.std.specs.Prelude.{◌≡◌, ◌≢◌, ℕ, ◌+◌, ◌^◌, ◌<◌, ◌==◌, ◌&&◌, ◌⊎◌, Bool, true, false, if◌then◌else◌, List, [], ◌∷◌, ◌++◌, length, Option, Some, None, option_map, IsSome, Result, Ok, Err}
use Rattle.upc_cell.specs.declared.vc.Vc.{Vc}
use Rattle.upc_cell.specs.Connection.{is_same_vc}
use Rattle.bpf_code.specs.declared.instr.Instr.{Instr}
use Rattle.gen_arena.specs.declared.id.Id.{Id}
use Rattle.gen_arena.specs.Slot.{Slot}
use Rattle.gen_arena.specs.Live.{live_value, IsLive}
use Rattle.line_record.specs.declared.directory.Seating.{Seating}
use Rattle.line_record.specs.declared.entry.Entry.{Entry}
use Rattle.line_record.specs.declared.owner.Owner.{Owner}
use Rattle.line_record.specs.declared.fault.LineFault.{LineFault}
use Rattle.line_record.specs.declared.fault.LineFault.TheVariants.{TooLate, Back, Full, NoMemory as LineNoMemory}
use Rattle.line_record.specs.Directory.{DirectoryView, seating_at, IsOpenLine, IsTakenLine}
use Rattle.line_record.specs.History.{NamedCell, named_cell_of, empty_buckets, verdict_after}
use Rattle.line_record.specs.Line.{LineView, line_refusal, Gains}
use Rattle.line_record.specs.StateAfter.{IsStateAfter}
use Rattle.line_record.specs.Tally.{count_of}
use Rattle.card_core.specs.declared.answer.Answer.{Answer}
use Rattle.card_core.specs.declared.answer.Judgement.{Judgement}
use Rattle.card_core.specs.declared.answer.Unjudged.{Unjudged}
use Rattle.card_core.specs.declared.answer.Unjudged.TheVariants as unjudged
use Rattle.card_core.specs.declared.answer.Answer.TheVariants.{Judged, NoConnection, Released, Stale as StaleAnswer, MomentTooLate, MomentBack, JournalFull, NoMemory}
use Rattle.card_core.specs.declared.ask.Ask.{Ask}
use Rattle.card_core.specs.declared.fault.DeskFault.{DeskFault}
use Rattle.card_core.specs.declared.fault.DeskFault.TheVariants.{NoProgram, Taken, BadContracts, NoLine, Exhausted, Stale, NoMemory as DeskNoMemory}
use Rattle.card_core.specs.Steps.{Gives, cell_after, named_cell}
pub use Rattle.card_core.specs.Judged.{JudgedView, judged_in_answer}

-- The value that a program gave for a cell: the program, the cell and the value.
pub record NamedView : Type 0 where
  pub program : Id
  pub cell : List ℕ
  pub value : ℕ

-- The program of this id is live and gives this value for the cell.
pub record IsNaming (store : List (Slot (List Instr))) (id : Id) (cell : List ℕ) (named : NamedView) : Type 0 where
  pub program : named.program ≡ id
  pub same : named.cell ≡ cell
  pub code : List Instr
  pub live : live_value store id ≡ Some code
  pub gives : Gives code cell named.value

-- The owner of the line that the directory has for a connection.
abbrev pub holder : Vc → Seating → Owner
holder vc seating = record { vc = vc; incarnation = seating.incarnation }

-- Whether the line serves this owner.
abbrev pub is_owned_by : Option Owner → Owner → Bool
is_owned_by None owner = false
is_owned_by (Some other) owner = is_same_vc other.vc owner.vc && (other.incarnation == owner.incarnation)

-- The answer for an error of a line.
abbrev pub answer_for : LineFault → Answer
answer_for TooLate = MomentTooLate
answer_for (Back last) = MomentBack last
answer_for Full = JournalFull
answer_for LineNoMemory = NoMemory

-- The reason why a picked cell isn't judged on the line: the line doesn't serve the picked connection; or else it has
-- an error for a cell of this moment.
abbrev pub judging_refusal : LineView → Vc → Seating → ℕ → Option Answer
judging_refusal line vc seating moment =
    if is_owned_by line.owner (holder vc seating)
    then option_map answer_for (line_refusal line moment)
    else Some Released

-- The line judged the cell, and its journal has one more entry. For any history that the line's state agreed with, the
-- verdict is that of the history, and the new state agrees with the history and this cell.
pub record JudgesAt (old : LineView) (seating : Seating) (named : NamedView) (moment : ℕ) (answer : Answer) (new : LineView) : Type 0 where
  pub entry : Entry
  pub cell : named_cell_of entry ≡ named_cell named.cell moment named.program named.value
  pub gains : Gains old entry new
  pub verdict : (history : List NamedCell) → IsStateAfter old.contracts history old.state
      → entry.verdict ≡ verdict_after old.contracts empty_buckets history (named_cell_of entry)
  pub history : (history : List NamedCell) → IsStateAfter old.contracts history old.state
      → IsStateAfter new.contracts (history ++ named_cell_of entry ∷ []) new.state
  pub answered : answer ≡ Judged seating.line (count_of old.state.counts entry.verdict + 1)
      moment named.value named.program entry.verdict (cell_after entry.verdict named.cell)

-- The answer to a cell that isn't judged.
abbrev pub unjudged_answer : Unjudged → Answer
unjudged_answer unjudged.NoConnection = NoConnection
unjudged_answer unjudged.Released = Released
unjudged_answer unjudged.Stale = StaleAnswer
unjudged_answer (unjudged.LineFault fault) = answer_for fault

-- The answer to a cell with this result: either it was judged and leaves as its verdict requires, or it wasn't, for
-- this reason.
abbrev pub answer_to : List ℕ → Result Judgement Unjudged → Answer
answer_to cell (Ok judgement) =
    Judged judgement.line judgement.number judgement.moment judgement.value judgement.program judgement.verdict
    (cell_after judgement.verdict cell)
answer_to cell (Err reason) = unjudged_answer reason

-- The requested connection can be set up on this line.
pub record Admits (store : List (Slot (List Instr))) (directory : DirectoryView) (ask : Ask) (line : ℕ) : Type 0 where
  pub live : IsLive store ask.program
  pub new : seating_at directory ask.vc ≡ None
  pub some : 0 < length ask.contracts.items
  pub within : line < directory.lines
  pub free : IsOpenLine directory line
  pub unworn : directory.used < 2 ^ 62

-- The conditions of a setup, in the order in which they are tried. Each of these definitions includes those before it.

-- The program is live.
abbrev pub HasProgram : List (Slot (List Instr)) → Ask → Type 0
HasProgram store ask = IsLive store ask.program

-- The virtual connection isn't set up.
abbrev pub IsNew : List (Slot (List Instr)) → DirectoryView → Ask → Type 0
IsNew store directory ask = HasProgram store ask × (seating_at directory ask.vc ≡ None)

-- There is a contract.
abbrev pub HasContracts : List (Slot (List Instr)) → DirectoryView → Ask → Type 0
HasContracts store directory ask = IsNew store directory ask × (0 < length ask.contracts.items)

-- Some line has no connection.
abbrev pub HasLine : List (Slot (List Instr)) → DirectoryView → Ask → Type 0
HasLine store directory ask =
    HasContracts store directory ask × ((line : ℕ) × (line < directory.lines) × IsOpenLine directory line)

-- The reason why the requested connection can't be set up on any line: the first condition that fails. The last one is
-- that an incarnation is left.
abbrev pub IsUnfit : List (Slot (List Instr)) → DirectoryView → Ask → DeskFault → Type 0
IsUnfit store directory ask NoProgram = live_value store ask.program ≡ None
IsUnfit store directory ask Taken = HasProgram store ask × IsSome (seating_at directory ask.vc)
IsUnfit store directory ask BadContracts = IsNew store directory ask × (length ask.contracts.items ≡ 0)
IsUnfit store directory ask NoLine =
    HasContracts store directory ask × ((line : ℕ) → line < directory.lines → IsTakenLine directory line)
IsUnfit store directory ask Exhausted = HasLine store directory ask × (directory.used ≡ 2 ^ 62)
IsUnfit store directory ask _ = ⊥

-- The reason why a setup on this line is refused: the line isn't free; or it is free, and an allocation failed.
abbrev pub IsUnready : LineView → DeskFault → Type 0
IsUnready line Stale = IsSome line.owner
IsUnready line DeskNoMemory = line.owner ≡ None
IsUnready line _ = ⊥

-- The line is unchanged; or it was free, and the only change is that it is ready now.
abbrev pub MayBecomeReady : LineView → LineView → Type 0
MayBecomeReady old new = (new ≡ old) ⊎ ((old.owner ≡ None) × (new ≡ record old { ready = true }))

-- The reason why a cut of this line is refused: the line doesn't serve this owner; or it does, and an allocation
-- failed.
abbrev pub IsUncut : LineView → Owner → DeskFault → Type 0
IsUncut line owner Stale = line.owner ≢ Some owner
IsUncut line owner DeskNoMemory = line.owner ≡ Some owner
IsUncut line owner _ = ⊥
