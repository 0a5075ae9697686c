-- The journal of a connection, as C gets it.
use Rattle.std.specs.Prelude.{◌≡◌, ◌⊎◌, ◌<◌, ◌≤◌, ◌++◌, ℕ, if◌then◌else◌, List, length, drop, map}
use Rattle.card_core.specs.declared.reply.Reply.{Reply}
use Rattle.card_core.specs.declared.reply.Reply.TheVariants.{Released, Cut as CutOff}
use Rattle.card_core.specs.declared.step.Step.{Step}
use Rattle.card_core.specs.declared.step.Step.TheVariants.{Release, Cut}
use Rattle.line_record.specs.Piece.{PieceView}
use Rattle.line_record.specs.declared.entry.Entry.{Entry}
use Rattle.upc_cell.specs.declared.vc.Vc.{Vc}
use Rattle.upc_c.specs.CardDesk.{IsConnectionFault, IsVc, id_for_c}
use Rattle.upc_c.specs.CardHandle.{CardTakes}
use Rattle.upc_c.specs.CardInspection.{HasInJournal, counts_for_c}
use Rattle.upc_c.specs.Faults.{no_room}
use Rattle.upc_c.specs.Judging.{number_of_verdict}
use Rattle.upc_c.specs.declared.card.UpcCard.{UpcCard}
use Rattle.upc_c.specs.declared.entry.UpcEntry.{UpcEntry}
use Rattle.upc_c.specs.declared.fault.UpcFault.{UpcFault}
use Rattle.upc_c.specs.declared.journal.UpcJournal.{UpcJournal}

-- A journal entry, as C gets it.
abbrev pub entry_for_c : Entry → UpcEntry
entry_for_c entry = record {
  moment = entry.moment;
  program = id_for_c entry.program;
  value = entry.value;
  clp = if entry.clp then 1 else 0;
  verdict = number_of_verdict entry.verdict;
}

-- The entries fill the front of the buffer, in order, and the rest of the buffer is unchanged.
pub record AreWritten (entries : List Entry) (before after : List UpcEntry) : Type 0 where
  pub fits : length entries ≤ length before
  pub written : after ≡ map entry_for_c entries ++ drop (length entries) before

-- The rest of a journal, as C gets it: the number of its cells, and the counts of its line before the first cell and
-- after the last.
abbrev pub journal_for_c : PieceView → UpcJournal
journal_for_c piece = record {
  cells = length piece.entries;
  before = counts_for_c piece.start.counts;
  after = counts_for_c piece.end.counts;
}

-- The card took the step on the connection of this path and channel, and the step returned a journal. The buffer has
-- its entries, and `journal` has the rest.
pub record IsHandedOut (before after : UpcCard) (path channel : ℕ) (step : Vc → Step) (reply : PieceView → Reply) (room written : List UpcEntry) (journal : UpcJournal) : Type 0 where
  pub vc : Vc
  pub numbers : IsVc before path channel vc
  pub piece : PieceView
  pub taken : CardTakes before after (step vc) (reply piece)
  pub entries : AreWritten piece.entries room written
  pub rest : journal ≡ journal_for_c piece

-- The connection was released, and C gets its last journal.
abbrev pub IsReleased : UpcCard → UpcCard → ℕ → ℕ → List UpcEntry → List UpcEntry → UpcJournal → Type 0
IsReleased before after path channel room written journal =
    IsHandedOut before after path channel Release Released room written journal

-- The connection has an empty journal now, and C gets the one before.
abbrev pub IsCut : UpcCard → UpcCard → ℕ → ℕ → List UpcEntry → List UpcEntry → UpcJournal → Type 0
IsCut before after path channel room written journal =
    IsHandedOut before after path channel Cut CutOff room written journal

-- The connection's journal has more cells than the buffer has entries. The place of the error is the number of cells.
abbrev pub IsLongerThan : UpcCard → ℕ → ℕ → List UpcEntry → UpcFault → Type 0
IsLongerThan card path channel room fault =
    (cells : ℕ) × HasInJournal card path channel cells × (length room < cells) × (fault ≡ no_room cells)

-- The error if no journal was returned: that of the step; then, the buffer is too small.
abbrev pub IsJournalFault : UpcCard → UpcCard → ℕ → ℕ → (Vc → Step) → List UpcEntry → UpcFault → Type 0
IsJournalFault before after path channel step room fault =
    IsConnectionFault before after path channel step fault ⊎ IsLongerThan before path channel room fault
