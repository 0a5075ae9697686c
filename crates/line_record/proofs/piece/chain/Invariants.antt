use Rattle.std.proofs.Common.{◌≡◌, ℕ, suc, ◌<◌, Some}
use Rattle.std.specs.Prelude.{slice_get}
use Rattle.line_record.specs.Piece.{PieceView, IsPiece, GoesOnAt}
use Rattle.line_record.proofs.piece.chain.Given as goal

abbrev pub invariant-loop-place : goal.invariant-loop-place
invariant-loop-place l = record {
  goes : (k : ℕ) → suc k < l.place → GoesOnAt l.pieces k;
  kept : (k : ℕ) (piece : PieceView) → k < l.place → slice_get l.pieces k ≡ Some piece → IsPiece piece;
}
