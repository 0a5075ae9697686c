-- Pieces that continue each other are one run.
use Rattle.std.proofs.Common.{◌≡◌, ℕ, suc, List, [], ◌∷◌, ◌++◌, Some, refl, sym, subst}
use Rattle.std.specs.Prelude.{slice_get}
use Rattle.std.proofs.lemmas.List.{append-nil}
use Rattle.leaky.specs.declared.contract.Contract.{Contract}
use Rattle.line_record.specs.declared.state.State.{State}
use Rattle.line_record.specs.JournalRun.{IsJournalRun}
use Rattle.line_record.specs.Piece.{PieceView, IsPiece, IsChain, entries_in, end_of, AreOneRun}
use Rattle.line_record.proofs.RunLemmas.{IsRun-append}

-- Each of these satisfies the invariant of a piece.
abbrev pub ArePieces : List PieceView → Type 0
ArePieces pieces = (k : ℕ) (piece : PieceView) → slice_get pieces k ≡ Some piece → IsPiece piece

run_from : (first : PieceView) (later : List PieceView) → IsChain (first ∷ later) → ArePieces (first ∷ later)
    → IsJournalRun first.contracts first.start (first.entries ++ entries_in later) (end_of first.end later)
run_from first [] chain pieces =
    subst (λ entries. IsJournalRun first.contracts first.start entries first.end) (sym (append-nil first.entries)) (pieces 0 first refl)
run_from first (next ∷ later) chain pieces =
    let goes = chain 0 first next refl refl in
    let rest = run_from next later (λ place. chain (suc place)) (λ k. pieces (suc k)) in
    let entries = next.entries ++ entries_in later in
    let end = end_of next.end later in
    let under : IsJournalRun first.contracts next.start entries end =
    subst (λ (contracts : List Contract). IsJournalRun contracts next.start entries end) goes.contracts rest in
    let onward : IsJournalRun first.contracts first.end entries end =
    subst (λ (state : State). IsJournalRun first.contracts state entries end) goes.start under in
    IsRun-append first.contracts first.start first.end end first.entries entries (pieces 0 first refl) onward

pub AreOneRun-chain : (pieces : List PieceView) → IsChain pieces → ArePieces pieces → AreOneRun pieces
AreOneRun-chain [] chain pieces = tt
AreOneRun-chain (first ∷ later) chain pieces = run_from first later chain pieces
