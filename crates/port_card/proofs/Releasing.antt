-- The result of a release: the piece, or the error.
use Rattle.std.proofs.Common.{◌≡◌, ◌≢◌, Some, Ok, Err, sym, ap, subst, ◌∙◌}
use Rattle.std.specs.Prelude.{MatchResult, IfOk, IfErr}
use Rattle.std.specs.declared.result.Result.{Result}
use Rattle.std.proofs.lemmas.Option.{same_Some}
use Rattle.upc_cell.specs.declared.vc.Vc.{Vc}
use Rattle.line_record.specs.declared.directory.Seating.{Seating}
use Rattle.line_record.specs.declared.owner.Owner.{Owner}
use Rattle.line_record.specs.Line.{LineView}
use Rattle.line_record.specs.Piece.{PieceView, IsJournalOf}
use Rattle.card_core.specs.declared.fault.DeskFault.{DeskFault}
use Rattle.card_core.specs.declared.fault.DeskFault.TheVariants.{Stale}
use Rattle.card_core.specs.Sections.{holder}
use Rattle.port_card.specs.Answers.{IsOfRelease}

-- The contract of the locked section.
abbrev pub IsServed : Result PieceView DeskFault → LineView → Vc → Seating → Type 0
IsServed result line vc seating = MatchResult result
    (λ _. line.owner ≡ Some (holder vc seating))
    (λ fault. (fault ≡ Stale) × (line.owner ≢ Some (holder vc seating)))

pub served-piece : (result : Result PieceView DeskFault) (line : LineView) (vc : Vc) (seating : Seating)
    → IsServed result line vc seating → IfOk result (IsJournalOf line) → IfOk result (λ piece. piece.owner.vc ≡ vc)
served-piece (Ok piece) line vc seating served journal =
    ap (λ (o : Owner). o.vc) (same_Some piece.owner (holder vc seating) (sym journal.owner ∙ served))
served-piece (Err fault) line vc seating served journal = tt

pub served-refused : (result : Result PieceView DeskFault) (line : LineView) (vc : Vc) (seating : Seating)
    → IsServed result line vc seating → IfErr result IsOfRelease
served-refused (Ok piece) line vc seating served = tt
served-refused (Err fault) line vc seating served = subst IsOfRelease (sym served.0) tt
