-- The two ways of an arrival: the pick answers the cell, or the judgement does.
use Rattle.std.specs.Prelude.{ℕ, List, [], ◌∷◌}
use Rattle.card_core.specs.declared.answer.Answer.{Answer}
use Rattle.card_core.specs.declared.reply.Reply.TheVariants.{Entered, Picked, Answered}
use Rattle.card_core.specs.declared.step.Step.TheVariants.{Enter, Pick, Judge}
use Rattle.card_core.specs.Agreement.{CoreView, FollowsAll}

-- The pick answers the cell.
abbrev pub AnsweredByPick : CoreView → ℕ → List ℕ → ℕ → Answer → CoreView → Type 0
AnsweredByPick old port cell moment answer new =
    FollowsAll old (Enter port cell moment ∷ Pick port ∷ []) (Entered ∷ Answered answer ∷ []) new

-- The pick finds the cell's connection, and the judgement answers the cell: with a verdict, or with the reason why it
-- isn't judged.
abbrev pub AnsweredByJudgement : CoreView → ℕ → List ℕ → ℕ → Answer → CoreView → Type 0
AnsweredByJudgement old port cell moment answer new =
    FollowsAll old (Enter port cell moment ∷ Pick port ∷ Judge port ∷ []) (Entered ∷ Picked ∷ Answered answer ∷ []) new
