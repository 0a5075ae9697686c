-- A journal that is returned has the cells judged since the last cut.
use Rattle.std.proofs.Common.{◌≡◌, ◌⊎◌, inl, inr, ℕ, ◌≤◌, true, List, Some, Result, Ok, Err, IfOk, length, refl, sym, ap, ◌∙◌, subst}
use Rattle.std.proofs.Math.Bridge.{le_prop}
use mathlib.Core.Logic.{∥∥₁_elim}
use Rattle.card_core.specs.Agreement.{CoreView, Follows}
use Rattle.card_core.specs.Refusals.{missing_fault}
use Rattle.card_core.specs.Steps.{IsPieceOf, WorldStep}
use Rattle.card_core.specs.World.{World, Connection, connection_in, returned_cells, kept_cells}
use Rattle.card_core.specs.declared.fault.DeskFault.{DeskFault}
use Rattle.card_core.specs.declared.fault.DeskFault.TheVariants.{NoMemory}
use Rattle.card_core.specs.declared.reply.Reply.{Reply}
use Rattle.card_core.specs.declared.reply.Reply.TheVariants.{Released, Cut as CutOff, Refused}
use Rattle.card_core.specs.declared.step.Step.TheVariants.{Release, Cut}
use Rattle.line_record.proofs.Public.{each_cell_is_judged}
use Rattle.line_record.specs.History.{empty_buckets}
use Rattle.line_record.specs.Piece.{PieceView}
use Rattle.upc_cell.specs.declared.vc.Vc.{Vc}
use Rattle.upc_c.specs.CardDesk.{IsDeskFault, IsVc}
use Rattle.upc_c.specs.CardHandle.{card_in}
use Rattle.upc_c.specs.CardJournal.{IsJournalFault}
use Rattle.upc_c.specs.declared.card.UpcCard.{UpcCard}
use Rattle.upc_c.specs.declared.entry.UpcEntry.{UpcEntry}
use Rattle.upc_c.specs.declared.fault.UpcFault.{UpcFault}
use Rattle.upc_c.specs.declared.journal.HandOut.{HandOut}
use Rattle.upc_c.specs.declared.journal.HandOut.TheVariants.{AtEnd, GoingOn}
use Rattle.upc_c.specs.inner.HandOut.{IsLongerOn, IsShortIn, replied, handing_reply, step_of}
use Rattle.upc_c.specs.inner.ReachedCore.{IsReachedCore}
use Rattle.upc_c.proofs.CardSteps.{cases, is_of_desk}
use Rattle.upc_c.proofs.SettingUp.{desk-fault-from}

abbrev handed-in : Reply → PieceView → PieceView
handed-in (Released piece) other = piece
handed-in (CutOff piece) other = piece
handed-in _ other = other

-- The connection's journal has at most this many cells.
abbrev IsShort : World → Vc → ℕ → Type 0
IsShort world vc most = (connection : Connection) → connection_in world.connections vc ≡ Some connection → length (kept_cells connection) ≤ most

fits-piece : (world : World) (vc : Vc) (connection : Connection) (handed piece : PieceView) (most : ℕ) → IsShort world vc most
    → connection_in world.connections vc ≡ Some connection → IsPieceOf world vc connection handed → piece ≡ handed → length piece.entries ≤ most
fits-piece world vc connection handed piece most short found of same =
    let judged = (each_cell_is_judged connection.contracts empty_buckets (returned_cells connection) (kept_cells connection)).0 in
    subst (λ (n : ℕ). n ≤ most) (sym (ap (λ (p : PieceView). length p.entries) same ∙ ap length of.entries ∙ judged)) (short connection found)

fits-stepped : (before after : World) (vc : Vc) (when : HandOut) (piece : PieceView) (most : ℕ) → IsShort before vc most
    → WorldStep before (step_of when vc) (handing_reply when piece) after → length piece.entries ≤ most
fits-stepped before after vc AtEnd piece most short =
    cases (length piece.entries ≤ most) (λ fault. Refused fault) (missing_fault before vc) before after (Release vc) (Released piece)
    (λ s. fits-piece before vc s.connection s.piece piece most short s.found s.last (ap (λ reply. handed-in reply piece) s.answer))
    (λ l. let no = l.answer in cc) (λ fault r. let no : Released piece ≡ Refused fault = r.answer in cc)
fits-stepped before after vc GoingOn piece most short =
    cases (length piece.entries ≤ most) (λ fault. Refused fault) (missing_fault before vc) before after (Cut vc) (CutOff piece)
    (λ s. fits-piece before vc s.connection s.piece piece most short s.found s.next (ap (λ reply. handed-in reply piece) s.answer))
    (λ l. let no : Refused NoMemory ≡ CutOff piece = let is = l.answer in cc in cc) (λ fault r. let no : CutOff piece ≡ Refused fault = r.answer in cc)

handed-fits : (core new : CoreView) (vc : Vc) (when : HandOut) (piece : PieceView) (most : ℕ) → IsReachedCore core
    → Follows core (step_of when vc) (handing_reply when piece) new → IsShortIn core vc most → length piece.entries ≤ most
handed-fits core new vc when piece most reached follows short = ∥∥₁_elim reached le_prop (λ r.
    let gone = follows r.shape r.log r.world r.leads r.agrees in
    fits-stepped r.world gone.after vc when piece most (short.few r.world r.agrees) gone.stepped)

pub result-fits : (core new : CoreView) (vc : Vc) (when : HandOut) (result : Result PieceView DeskFault) (most : ℕ) → IsReachedCore core
    → Follows core (step_of when vc) (replied when result) new → IsShortIn core vc most → IfOk result (λ piece. length piece.entries ≤ most)
result-fits core new vc AtEnd (Ok piece) most reached follows short = handed-fits core new vc AtEnd piece most reached follows short
result-fits core new vc GoingOn (Ok piece) most reached follows short = handed-fits core new vc GoingOn piece most reached follows short
result-fits core new vc AtEnd (Err fault) most reached follows short = tt
result-fits core new vc GoingOn (Err fault) most reached follows short = tt

pub of-desk : (when : HandOut) (vc : Vc) → is_of_desk (step_of when vc) ≡ true
of-desk AtEnd vc = refl
of-desk GoingOn vc = refl

-- The card is unchanged up to the step.
pub journal-fault-from : (first before after : UpcCard) (path channel : ℕ) (vc : Vc) (when : HandOut) (room : List UpcEntry) (found : UpcFault)
    → card_in before ≡ card_in first → IsVc first path channel vc
    → IsDeskFault before after (step_of when vc) found ⊎ IsLongerOn before vc (length room) found
    → IsJournalFault first after path channel (step_of when) room found
journal-fault-from first before after path channel vc when room found same numbers (inl desk) =
    inl (inr (inr (vc, numbers, desk-fault-from first before after (step_of when vc) found found same refl desk)))
journal-fault-from first before after path channel vc when room found same numbers (inr longer) = inr (
  longer.cells,
  record { vc = vc; numbers = numbers; core = longer.core; had = sym same ∙ longer.had; so = longer.longer.1 },
  longer.longer.0,
  longer.reported,
)
