-- Lemmas for other crates.
use Rattle.std.proofs.Common.{ℕ, List, [], ◌∷◌, ◌++◌, inl, inr}
use Rattle.std.specs.Prelude.{◌⊎◌}
use Rattle.card_core.specs.declared.answer.Answer.{Answer}
use Rattle.card_core.specs.declared.answer.Answer.TheVariants.{Judged, NoConnection, Released, Stale, MomentBack, MomentTooLate, JournalFull, NoMemory}
use Rattle.card_core.specs.Agreement.{CoreView}
use Rattle.card_core.specs.Arrival.{AnswersArrival}
use Rattle.card_core.specs.inner.ArrivalWays.{AnsweredByPick, AnsweredByJudgement}
use Rattle.card_core.specs.declared.reply.Reply.{Reply}
use Rattle.card_core.specs.declared.step.Step.{Step}
use Rattle.card_core.specs.World.{World}
use Rattle.card_core.specs.Steps.{WorldStep}
use Rattle.card_core.specs.Log.{Event, Run}
use Rattle.card_core.specs.Laws.{StepsHaveReplies}
use Rattle.card_core.specs.inner.Sound.{ReachedWorldsAreSound}
use Rattle.card_core.proofs.Follow as follow
use Rattle.card_core.proofs.Replies as replies
use Rattle.card_core.proofs.SoundSteps as sound

-- In every world that a log leads to, each step has a reply that reports no allocation failure.
pub step-replied : StepsHaveReplies
step-replied = replies.steps-replied

-- Every world that a log leads to satisfies the invariant.
pub worlds-sound : ReachedWorldsAreSound
worlds-sound = sound.reached-sound

-- A log with one more event.
pub log-goes_on : (start before after : World) (log : List Event) (step : Step) (reply : Reply)
    → Run start log before → WorldStep before step reply after
    → Run start (log ++ record { step = step; reply = reply } ∷ []) after
log-goes_on = follow.Run-next

-- The pick answers a cell, or the judgement does.
pub arrival-ways : (old new : CoreView) (port : ℕ) (cell : List ℕ) (moment : ℕ) (answer : Answer) → AnswersArrival old port cell moment answer new
    → AnsweredByPick old port cell moment answer new ⊎ AnsweredByJudgement old port cell moment answer new
arrival-ways old new port cell moment NoConnection way = inl way
arrival-ways old new port cell moment Stale way = inl way
arrival-ways old new port cell moment (Judged line number at value program verdict leaving) way = inr way
arrival-ways old new port cell moment Released way = inr way
arrival-ways old new port cell moment (MomentBack last) way = inr way
arrival-ways old new port cell moment MomentTooLate way = inr way
arrival-ways old new port cell moment JournalFull way = inr way
arrival-ways old new port cell moment NoMemory way = inr way
