-- Pieces, and the line of a connection at setup and cut.
use Rattle.std.proofs.Common.{◌≡◌, ◌≢◌, ℕ, false, Some, None, List, [], ◌∷◌, length, take, drop, refl, sym, ap, subst, ◌∙◌, inl, inr}
use Rattle.std.specs.Prelude.{Result, Ok, Err, MatchResult, IfOk, OnOk, OnErr}
use Rattle.line_record.specs.declared.directory.Seating.{Seating}
use Rattle.line_record.specs.Directory.{DirectoryView, Sits}
use Rattle.card_core.specs.declared.fault.DeskFault.{DeskFault}
use Rattle.card_core.specs.declared.fault.DeskFault.TheVariants.{Stale}
use Rattle.card_core.specs.Sections.{holder, MayBecomeReady}
use Rattle.card_core.specs.inner.Parts.{ReleasesOrRefuses}
use Rattle.leaky.specs.declared.verdict.Verdict.{Verdict}
use Rattle.upc_cell.specs.declared.vc.Vc.{Vc}
use Rattle.line_record.specs.declared.owner.Owner.{Owner}
use Rattle.line_record.specs.declared.state.State.{State}
use Rattle.line_record.specs.History.{NamedCell, empty_buckets, judged}
use Rattle.line_record.specs.Line.{LineView, OpensLine, free_line}
use Rattle.line_record.specs.Piece.{PieceView, IsJournalOf}
use Rattle.line_record.specs.JournalRun.{tallied}
use Rattle.line_record.specs.StateAfter.{IsStateAfter}
use Rattle.line_record.specs.Tally.{tally_of}
use Rattle.card_core.specs.declared.ask.Ask.{Ask}
use Rattle.card_core.specs.World.{World, Connection, returned_cells}
use Rattle.card_core.specs.Steps.{IsPieceOf, new_connection}
use Rattle.card_core.specs.Agreement.{Serves, owner_of}
use Rattle.card_core.proofs.LookUps.{same_some}

take-all : {X : Type 0} (xs : List X) → take (length xs) xs ≡ xs
take-all [] = refl
take-all (x ∷ xs) = ap (λ later. x ∷ later) (take-all xs)

drop-all : {X : Type 0} (xs : List X) → drop (length xs) xs ≡ []
drop-all [] = refl
drop-all (x ∷ xs) = drop-all xs

-- The journal of a line that serves a connection is a piece of the connection's record.
pub piece-is : (world : World) (vc : Vc) (connection : Connection) (line : LineView) (piece : PieceView)
    → Serves line vc connection (world.verdicts connection.line) → line.state.counts ≡ tally_of (world.verdicts connection.line)
    → IsJournalOf line piece → IsPieceOf world vc connection piece
piece-is world vc connection line piece serves counts journal = record {
  owner = same_some piece.owner (owner_of vc connection) (sym journal.owner ∙ serves.owner);
  contracts = journal.contracts ∙ serves.contracts;
  entries = journal.entries ∙ serves.entries;
  start = subst (λ (state : State). IsStateAfter connection.contracts (returned_cells connection) state) (sym journal.start) serves.start;
  end = subst (λ (state : State). IsStateAfter connection.contracts connection.history state) (sym journal.end) serves.state;
  together = ap (λ (state : State). tallied state.counts piece.entries) journal.start
      ∙ ap (tallied line.start.counts) journal.entries ∙ serves.together;
  counts = ap (λ (state : State). state.counts) journal.end ∙ counts;
}

-- After a cut the line serves its connection, all of whose cells were returned.
pub cut-serves : (vc : Vc) (connection : Connection) (line : LineView) (verdicts : List Verdict)
    → Serves line vc connection verdicts → line.state.counts ≡ tally_of verdicts
    → Serves (record line { start = line.state; entries = [] }) vc (record connection { returned = length connection.history }) verdicts
cut-serves vc connection line verdicts serves counts =
    let history = connection.history in
    let none : drop (length history) history ≡ [] = drop-all history in
    record {
      owner = serves.owner;
      contracts = serves.contracts;
      entries = sym (ap (judged connection.contracts empty_buckets (take (length history) history)) none);
      start = subst (λ (cells : List NamedCell). IsStateAfter connection.contracts cells line.state) (sym (take-all history)) serves.state;
      together = counts;
      state = serves.state;
    }

-- A line that was opened serves the new connection.
pub open-serves : (ask : Ask) (number incarnation : ℕ) (line next : LineView) (owner : Owner) (verdicts : List Verdict)
    → owner ≡ record { vc = ask.vc; incarnation = incarnation } → OpensLine line owner ask.contracts.items next
    → IsStateAfter ask.contracts.items [] next.state → line.state.counts ≡ tally_of verdicts
    → Serves next ask.vc (new_connection ask number incarnation) verdicts
open-serves ask number incarnation line next owner verdicts given opens history counts = record {
  owner = opens.owner ∙ ap Some given;
  contracts = opens.contracts;
  entries = opens.entries;
  start = subst (λ (state : State). IsStateAfter ask.contracts.items [] state) (sym opens.start) history;
  together = ap (λ (state : State). tallied state.counts next.entries) opens.start
      ∙ ap (tallied next.state.counts) opens.entries ∙ opens.state.counts ∙ counts;
  state = history;
}

-- A line that may have become ready differs only in that.
pub readied : (line next : LineView) → MayBecomeReady line next → next ≡ record line { ready = next.ready }
readied line next (inl same) = subst (λ (l : LineView). l ≡ record line { ready = l.ready }) (sym same) refl
readied line next (inr became) = subst (λ (l : LineView). l ≡ record line { ready = l.ready }) (sym became.1) refl

-- The effect of a release on a line that is passed, in one match.
pub releases : (old new : DirectoryView) (vc : Vc) (seating : Seating) (line next : LineView) (result : Result PieceView DeskFault)
    → MatchResult result (λ piece. line.owner ≡ Some (holder vc seating)) (λ fault. (fault ≡ Stale) × (line.owner ≢ Some (holder vc seating)))
    → IfOk result (λ piece. IsJournalOf line piece) → OnOk result (Sits old vc None new)
    → OnOk result (next ≡ free_line line.journal line.state.counts false)
    → OnErr result (new ≡ old) → OnErr result (next ≡ line) → new.used ≡ old.used
    → ReleasesOrRefuses old new vc seating result line next
releases old new vc seating line next (Ok piece) served journal gone freed same_directory same_line used =
    record { journal = journal; gone = gone; used = used; freed = freed }
releases old new vc seating line next (Err fault) served journal gone freed same_directory same_line used =
    (served.0, served.1, same_directory, same_line)
