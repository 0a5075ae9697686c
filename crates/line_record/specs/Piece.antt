-- Pieces: journals of connections that were taken out of their lines.
use Rattle.std.specs.Prelude.{◌≡◌, ℕ, suc, ◌-◌, ◌<◌, Some, List, [], ◌∷◌, ◌++◌, ⊤, slice_get}
use Rattle.leaky.specs.declared.contract.Contract.{Contract}
use Rattle.line_record.specs.declared.entry.Entry.{Entry}
use Rattle.line_record.specs.declared.state.State.{State}
use Rattle.line_record.specs.declared.owner.Owner.{Owner}
use Rattle.line_record.specs.JournalRun.{IsJournalRun}
use Rattle.line_record.specs.Line.{LineView}

-- The connection and its contracts, the state at the beginning of the journal, its entries, and the state at its end.
pub record PieceView : Type 0 where
  pub owner : Owner
  pub contracts : List Contract
  pub start : State
  pub entries : List Entry
  pub end : State

-- Invariant of a piece: its entries are a run from its start to its end.
abbrev pub IsPiece : PieceView → Type 0
IsPiece piece = IsJournalRun piece.contracts piece.start piece.entries piece.end

-- The piece has the line's owner, contracts, journal and both states.
pub record IsJournalOf (line : LineView) (piece : PieceView) : Type 0 where
  pub owner : line.owner ≡ Some piece.owner
  pub contracts : piece.contracts ≡ line.contracts
  pub start : piece.start ≡ line.start
  pub entries : piece.entries ≡ line.entries
  pub end : piece.end ≡ line.state

-- The later piece has the owner and the contracts of the earlier one, and starts in the state in which that ends.
pub record GoesOnFrom (earlier later : PieceView) : Type 0 where
  pub owner : later.owner ≡ earlier.owner
  pub contracts : later.contracts ≡ earlier.contracts
  pub start : later.start ≡ earlier.end

-- If there is a piece at this place and one after it, the later continues the earlier.
abbrev pub GoesOnAt : List PieceView → ℕ → Type 0
GoesOnAt pieces place = (earlier later : PieceView)
    → slice_get pieces place ≡ Some earlier → slice_get pieces (suc place) ≡ Some later
    → GoesOnFrom earlier later

-- Each piece but the first continues the one before it.
abbrev pub IsChain : List PieceView → Type 0
IsChain pieces = (place : ℕ) → GoesOnAt pieces place

-- The piece at this place is the first that doesn't continue the one before it.
pub record BreaksAt (pieces : List PieceView) (place : ℕ) : Type 0 where
  pub earlier : PieceView
  pub later : PieceView
  pub after_first : 0 < place
  pub before : slice_get pieces (place - 1) ≡ Some earlier
  pub here : slice_get pieces place ≡ Some later
  pub breaks : ¬ GoesOnFrom earlier later
  pub whole : (other : ℕ) → suc other < place → GoesOnAt pieces other

-- All entries of the pieces, in order.
abbrev pub entries_in : List PieceView → List Entry
entries_in [] = []
entries_in (piece ∷ later) = piece.entries ++ entries_in later

-- The state at the end of the last piece, or this earlier state if there is no piece.
abbrev pub end_of : State → List PieceView → State
end_of earlier [] = earlier
end_of earlier (piece ∷ later) = end_of piece.end later

-- If there is a piece, the entries of all pieces are one run, from the start of the first to the end of the last, under
-- the contracts of the first.
abbrev pub AreOneRun : List PieceView → Type 0
AreOneRun [] = ⊤
AreOneRun (piece ∷ later) =
    IsJournalRun piece.contracts piece.start (entries_in (piece ∷ later)) (end_of piece.end later)
