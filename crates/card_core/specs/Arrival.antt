-- All steps of a cell at a port, in one call.
use Rattle.std.specs.Prelude.{◌≡◌, ℕ, ◌^◌, ◌≤◌, ◌⊎◌, true, List, [], ◌∷◌, Some, slice_get}
use Rattle.line_record.specs.Directory.{seating_at}
use Rattle.line_record.specs.Line.{LineView, is_long}
use Rattle.line_record.specs.Piece.{PieceView}
use Rattle.line_record.specs.Tally.{cells_in}
use Rattle.line_record.specs.declared.directory.Seating.{Seating}
use Rattle.upc_cell.specs.Connection.{vc_of}
use Rattle.upc_cell.specs.declared.vc.Vc.{Vc}
use Rattle.card_core.specs.declared.answer.Answer.{Answer}
use Rattle.card_core.specs.declared.answer.Answer.TheVariants.{NoConnection, Stale}
use Rattle.card_core.specs.declared.reply.Reply.{Reply}
use Rattle.card_core.specs.declared.reply.Reply.TheVariants.{Entered, Picked, Answered, Cut as CutOff}
use Rattle.card_core.specs.declared.step.Step.{Step}
use Rattle.card_core.specs.declared.step.Step.TheVariants.{Enter, Pick, Judge, Cut}
use Rattle.card_core.specs.Agreement.{CoreView, Follows, FollowsAll}
use Rattle.card_core.specs.Sections.{holder}

-- The steps of a cell up to the one that answers it: the pick, if it finds no connection or no live program; otherwise
-- the judgement.
abbrev pub steps_of_arrival : ℕ → List ℕ → ℕ → Answer → List Step
steps_of_arrival port cell moment NoConnection = Enter port cell moment ∷ Pick port ∷ []
steps_of_arrival port cell moment Stale = Enter port cell moment ∷ Pick port ∷ []
steps_of_arrival port cell moment _ = Enter port cell moment ∷ Pick port ∷ Judge port ∷ []

-- The replies to these steps. The last one is the answer.
abbrev pub replies_to_arrival : Answer → List Reply
replies_to_arrival NoConnection = Entered ∷ Answered NoConnection ∷ []
replies_to_arrival Stale = Entered ∷ Answered Stale ∷ []
replies_to_arrival answer = Entered ∷ Picked ∷ Answered answer ∷ []

-- The core takes the steps of a cell at a port, and the last of them has this answer.
abbrev pub AnswersArrival : CoreView → ℕ → List ℕ → ℕ → Answer → CoreView → Type 0
AnswersArrival old port cell moment answer new =
    FollowsAll old (steps_of_arrival port cell moment answer) (replies_to_arrival answer) new

-- The line that the directory has for a connection, and that serves it.
pub record HasLineOf (core : CoreView) (vc : Vc) (line : LineView) : Type 0 where
  pub seating : Seating
  pub seated : seating_at core.directory vc ≡ Some seating
  pub there : slice_get core.lines seating.line ≡ Some line
  pub owner : line.owner ≡ Some (holder vc seating)

-- The journal of a connection is full, or has this many entries or more.
abbrev pub HasLongJournal : ℕ → CoreView → Vc → Type 0
HasLongJournal most core vc = (line : LineView) × HasLineOf core vc line × (is_long most line ≡ true)

-- The connection is cut if its journal is long. Otherwise nothing changes.
abbrev pub CutsIfLong : ℕ → CoreView → Vc → CoreView → Type 0
CutsIfLong most old vc new =
    (HasLongJournal most old vc × ((piece : PieceView) × Follows old (Cut vc) (CutOff piece) new))
    ⊎ ((¬ HasLongJournal most old vc) × (new ≡ old))

-- The connection is cut if its journal is long. Then the core takes the steps of a cell.
abbrev pub AnswersAfterCut : ℕ → CoreView → ℕ → List ℕ → ℕ → Answer → CoreView → Type 0
AnswersAfterCut most old port cell moment answer new =
    (middle : CoreView) × CutsIfLong most old (vc_of old.shape.side cell) middle × AnswersArrival middle port cell moment answer new

-- As AnswersAfterCut, except that nothing is cut if the pick answers the cell.
abbrev pub AnswersDropping : ℕ → CoreView → ℕ → List ℕ → ℕ → Answer → CoreView → Type 0
AnswersDropping most old port cell moment NoConnection new = AnswersArrival old port cell moment NoConnection new
AnswersDropping most old port cell moment Stale new = AnswersArrival old port cell moment Stale new
AnswersDropping most old port cell moment answer new = AnswersAfterCut most old port cell moment answer new

-- 2^62 cells were judged on the line of a connection.
abbrev pub IsWorn : CoreView → Vc → Type 0
IsWorn core vc = (line : LineView) × HasLineOf core vc line × (2 ^ 62 ≤ cells_in line.state.counts)
