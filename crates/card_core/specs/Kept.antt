-- The core after a refusal: its slots, directory, lines and ports. A world doesn't have all of these, so an unchanged core
-- says more than an unchanged world. Last, all that is promised of a list of steps.
use Rattle.std.specs.Prelude.{◌≡◌, ◌≢◌, ℕ, ⊤, true, List, [], ◌∷◌, length, Some, slice_get, slice_set}
use Rattle.line_record.specs.Line.{LineView}
use Rattle.card_core.specs.declared.answer.Answer.{Answer}
use Rattle.card_core.specs.declared.answer.Answer.TheVariants.{Judged, NoMemory as NoMemoryAnswer}
use Rattle.card_core.specs.declared.fault.DeskFault.{DeskFault}
use Rattle.card_core.specs.declared.fault.DeskFault.TheVariants.{NoMemory}
use Rattle.card_core.specs.declared.reply.Reply.{Reply}
use Rattle.card_core.specs.declared.reply.Reply.TheVariants.{NotNow, Answered, NotLoaded, NotSetUp, Refused}
use Rattle.card_core.specs.declared.step.Step.{Step}
use Rattle.card_core.specs.declared.step.Step.TheVariants.{Pick, Judge}
use Rattle.card_core.specs.World.{outside}
use Rattle.card_core.specs.Agreement.{CoreView, Follows}
use Rattle.card_core.specs.Sections.{MayBecomeReady}
use Rattle.card_core.specs.Stale.{IsNeverStale}

-- The core with this port without a cell.
abbrev pub with_outside : CoreView → ℕ → CoreView
with_outside core port = record core { ports = slice_set core.ports port outside }

-- All lines but this one are unchanged.
abbrev pub KeepsOtherLines : CoreView → ℕ → CoreView → Type 0
KeepsOtherLines old number new = (other : ℕ) → other ≢ number → slice_get new.lines other ≡ slice_get old.lines other

-- Nothing changed, except that one free line may be ready now.
pub record KeepsButRoom (old new : CoreView) : Type 0 where
  pub rest : new ≡ record old { lines = new.lines }
  pub sized : length new.lines ≡ length old.lines
  pub number : ℕ
  pub others : KeepsOtherLines old number new
  pub room : (line next : LineView) → slice_get old.lines number ≡ Some line
      → slice_get new.lines number ≡ Some next → MayBecomeReady line next

-- At most one line changed, and it is ready only if it was ready before. So no free line gets space for its next journal.
pub record ReservesNothing (old new : CoreView) : Type 0 where
  pub number : ℕ
  pub others : KeepsOtherLines old number new
  pub ready : (line next : LineView) → slice_get old.lines number ≡ Some line
      → slice_get new.lines number ≡ Some next → next.ready ≡ true → line.ready ≡ true

-- The core after the answer to a cell: if the cell wasn't judged, only its port changed, which has no cell now.
abbrev pub AnswerKeeps : Answer → ℕ → CoreView → CoreView → Type 0
AnswerKeeps (Judged line number moment value program verdict cell) port old new = ⊤
AnswerKeeps _ port old new = new ≡ with_outside old port

-- The core after a refused setup is unchanged, except that after NoMemory one free line may be ready now.
abbrev pub SetupKeeps : DeskFault → CoreView → CoreView → Type 0
SetupKeeps NoMemory old new = KeepsButRoom old new
SetupKeeps _ old new = new ≡ old

-- The core after a refusal. For any other reply this states nothing.
abbrev pub RefusalKeeps : Reply → Step → CoreView → CoreView → Type 0
RefusalKeeps NotNow step old new = new ≡ old
RefusalKeeps (NotLoaded fault program) step old new = new ≡ old
RefusalKeeps (Refused fault) step old new = new ≡ old
RefusalKeeps (NotSetUp fault ask) step old new = SetupKeeps fault old new
RefusalKeeps (Answered answer) (Pick port) old new = AnswerKeeps answer port old new
RefusalKeeps (Answered answer) (Judge port) old new = AnswerKeeps answer port old new
RefusalKeeps _ _ old new = ⊤

-- A refused setup makes no line ready. After NoMemory, `SetupKeeps` says which line may be.
abbrev pub SetupReserves : DeskFault → CoreView → CoreView → Type 0
SetupReserves NoMemory old new = ⊤
SetupReserves _ old new = ReservesNothing old new

-- A step makes no line ready, unless it is a setup that finds no memory.
abbrev pub StepReserves : Reply → CoreView → CoreView → Type 0
StepReserves (NotSetUp fault ask) old new = SetupReserves fault old new
StepReserves _ old new = ReservesNothing old new

-- The core takes one step with this reply: it follows the world, a refusal changes no more than it may, and no
-- step but a setup that finds no memory makes a line ready. The reply to a judgement is never NoMemory, and no reply is Stale.
pub record AnswersStep (old : CoreView) (step : Step) (reply : Reply) (new : CoreView) : Type 0 where
  pub follows : Follows old step reply new
  pub unchanged : RefusalKeeps reply step old new
  pub reserves : StepReserves reply old new
  pub judged : (port : ℕ) → step ≡ Judge port → reply ≢ Answered NoMemoryAnswer
  pub fresh : IsNeverStale old reply

-- The core takes these steps in order, with one reply for each.
abbrev pub AnswersSteps : CoreView → List Step → List Reply → CoreView → Type 0
AnswersSteps old [] [] new = new ≡ old
AnswersSteps old [] (reply ∷ replies) new = ⊥
AnswersSteps old (step ∷ steps) [] new = ⊥
AnswersSteps old (step ∷ steps) (reply ∷ replies) new =
    (next : CoreView) × AnswersStep old step reply next × AnswersSteps next steps replies new
