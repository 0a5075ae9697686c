-- The effects of the core's private functions on its parts.
use Rattle.std.specs.Prelude.{◌≡◌, ◌≢◌, ◌<◌, ◌⊎◌, ℕ, ◌+◌, length, true, false, List, [], Some, None, Result, MatchOption, MatchResult, slice_get, slice_set}
use Rattle.upc_cell.specs.declared.vc.Vc.{Vc}
use Rattle.upc_cell.specs.declared.side.Side.{Side}
use Rattle.upc_cell.specs.Connection.{vc_of}
use Rattle.card_core.specs.declared.port.Came.{Came}
use Rattle.card_core.specs.declared.port.Found.{Found}
use Rattle.bpf_code.specs.declared.instr.Instr.{Instr}
use Rattle.gen_arena.specs.Slot.{Slot}
use Rattle.gen_arena.specs.Live.{live_value}
use Rattle.line_record.specs.declared.directory.Seating.{Seating}
use Rattle.line_record.specs.declared.owner.Owner.{Owner}
use Rattle.line_record.specs.Directory.{DirectoryView, seating_at, Sits}
use Rattle.line_record.specs.Line.{LineView, OpensLine, free_line, is_long}
use Rattle.line_record.specs.Piece.{PieceView, IsJournalOf}
use Rattle.line_record.specs.StateAfter.{IsStateAfter}
use Rattle.card_core.specs.declared.answer.Answer.{Answer}
use Rattle.card_core.specs.declared.answer.Answer.TheVariants.{NoConnection, Stale}
use Rattle.card_core.specs.declared.ask.Ask.{Ask}
use Rattle.card_core.specs.declared.fault.DeskFault.{DeskFault}
use Rattle.card_core.specs.declared.fault.DeskFault.TheVariants.{Stale as DeskStale}
use Rattle.card_core.specs.Sections.{IsNaming, judging_refusal, JudgesAt, holder, IsUnready, MayBecomeReady, IsUncut}

-- The directory has a seating for the cell's connection, and that connection's program gave this value for the cell.
pub record IsFound (store : List (Slot (List Instr))) (directory : DirectoryView) (side : Side) (came : Came) (found : Found) : Type 0 where
  pub moment : found.moment ≡ came.moment
  pub own : found.vc ≡ vc_of side came.cell
  pub sits : seating_at directory found.vc ≡ Some found.seating
  pub naming : IsNaming store found.seating.program came.cell found.named

-- The directory has no such connection, or the connection's program isn't live.
abbrev pub IsMissed : List (Slot (List Instr)) → DirectoryView → Vc → Answer → Type 0
IsMissed store directory vc NoConnection = seating_at directory vc ≡ None
IsMissed store directory vc Stale = (seating : Seating) × (seating_at directory vc ≡ Some seating) × (live_value store seating.program ≡ None)
IsMissed store directory vc _ = ⊥

-- One line changed in this way, and all others are unchanged.
pub record ChangesLine (old : List LineView) (number : ℕ) (Did : LineView → LineView → Type 0) (new : List LineView) : Type 0 where
  pub line : LineView
  pub there : slice_get old number ≡ Some line
  pub next : LineView
  pub did : Did line next
  pub after : new ≡ slice_set old number next

-- A picked cell is judged on the line, or it is refused for a reason and the line is unchanged.
abbrev pub JudgesOrRefuses : Found → Answer → LineView → LineView → Type 0
JudgesOrRefuses found answer old new = MatchOption (judging_refusal old found.vc found.seating found.moment)
    (JudgesAt old found.seating found.named found.moment answer new)
    (λ refused. (answer ≡ refused) × (new ≡ old))

-- A connection was set up on a line.
pub record TakesLine (old new : DirectoryView) (number : ℕ) (ask : Ask) (owner : Owner) (line next : LineView) : Type 0 where
  pub given : owner ≡ record { vc = ask.vc; incarnation = old.used + 1 }
  pub seating : Sits old ask.vc (Some (record { line = number; incarnation = old.used + 1; program = ask.program })) new
  pub used : new.used ≡ old.used + 1
  pub opened : OpensLine line owner ask.contracts.items next
  pub history : IsStateAfter ask.contracts.items [] next.state

-- A connection was released from its line.
pub record LeavesLine (old new : DirectoryView) (vc : Vc) (piece : PieceView) (line next : LineView) : Type 0 where
  pub journal : IsJournalOf line piece
  pub gone : Sits old vc None new
  pub used : new.used ≡ old.used
  pub freed : next ≡ free_line line.journal line.state.counts false

-- The requested connection is set up on the line, or it is refused for a reason.
abbrev pub SetsUpOrRefuses : DirectoryView → DirectoryView → ℕ → Ask → Result Owner (DeskFault × Ask) → LineView → LineView → Type 0
SetsUpOrRefuses old new number ask result line next = MatchResult result
    (λ owner. TakesLine old new number ask owner line next)
    (λ refused. IsUnready line refused.0 × (refused.1 ≡ ask) × (new ≡ old)
    × (refused.0 ≡ DeskStale → next ≡ line) × MayBecomeReady line next)

-- The connection is released from the line, or the line doesn't serve it and nothing changes.
abbrev pub ReleasesOrRefuses : DirectoryView → DirectoryView → Vc → Seating → Result PieceView DeskFault → LineView → LineView → Type 0
ReleasesOrRefuses old new vc seating result line next = MatchResult result
    (λ piece. LeavesLine old new vc piece line next)
    (λ fault. (fault ≡ DeskStale) × (line.owner ≢ Some (holder vc seating)) × (new ≡ old) × (next ≡ line))

-- The line's journal is returned, or the cut is refused for a reason and the line is unchanged.
abbrev pub CutsOrRefuses : Vc → Seating → Result PieceView DeskFault → LineView → LineView → Type 0
CutsOrRefuses vc seating result line next = MatchResult result
    (λ piece. IsJournalOf line piece × (next ≡ record line { start = line.state; entries = [] }))
    (λ fault. IsUncut line (holder vc seating) fault × (next ≡ line))

-- The line serves the connection, and its journal is long.
abbrev pub IsLongFor : ℕ → Vc → Seating → LineView → Type 0
IsLongFor most vc seating line = (line.owner ≡ Some (holder vc seating)) × (is_long most line ≡ true)

-- The line's journal is dropped if it is long for the connection.
abbrev pub DropsIfLong : ℕ → Vc → Seating → LineView → LineView → Type 0
DropsIfLong most vc seating line next =
    (IsLongFor most vc seating line × (next ≡ record line { start = line.state; entries = [] }))
    ⊎ ((¬ IsLongFor most vc seating line) × (next ≡ line))

-- If the line serves the connection afterwards, its journal has room for an entry. The line's owner and state, with the
-- counts, are unchanged.
abbrev pub HasRoomFor : Vc → Seating → LineView → LineView → Type 0
HasRoomFor vc seating line next =
    (next.owner ≡ Some (holder vc seating) → length next.entries < next.journal) × ((next.owner ≡ line.owner) × (next.state ≡ line.state))
