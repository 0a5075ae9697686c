-- The faults that a card reports. A card of this library does all steps of a cell in one call, so no port has a cell
-- between two calls. A card in threads may report more: that it is busy, or that the connection or the program that was
-- looked up for a cell is gone.
use Rattle.std.specs.Prelude.{ℕ, Bool, true, false, List, IsTrue}
use Rattle.card_core.specs.declared.answer.Answer.{Answer}
use Rattle.card_core.specs.declared.answer.Answer.TheVariants.{MomentBack, MomentTooLate, JournalFull}
use Rattle.card_core.specs.declared.answer.Answer.TheVariants as cell_answers
use Rattle.card_core.specs.declared.fault.DeskFault.{DeskFault}
use Rattle.card_core.specs.declared.fault.DeskFault.TheVariants.{NoProgram, NoConnection, Taken, NoLine, InUse, ProgramsFull, Exhausted, BadContracts, NoMemory}
use Rattle.card_core.specs.declared.step.Step.{Step}
use Rattle.card_core.specs.declared.step.Step.TheVariants.{Load, Retire, Setup, Reload, Release, Cut}
use Rattle.upc_c.specs.CardArrival.{RefusesCell}
use Rattle.upc_c.specs.CardDesk.{RefusesStep}
use Rattle.upc_c.specs.declared.card.UpcCard.{UpcCard}
use Rattle.upc_c.specs.declared.fault.UpcFault.{UpcFault}

-- Whether a step of the desk may be refused for this reason. Only Setup and Cut allocate.
abbrev pub may_refuse : Step → DeskFault → Bool
may_refuse (Load code) ProgramsFull = true
may_refuse (Retire id) NoProgram = true
may_refuse (Retire id) InUse = true
may_refuse (Setup ask) NoProgram = true
may_refuse (Setup ask) Taken = true
may_refuse (Setup ask) BadContracts = true
may_refuse (Setup ask) NoLine = true
may_refuse (Setup ask) Exhausted = true
may_refuse (Setup ask) NoMemory = true
may_refuse (Reload vc id) NoProgram = true
may_refuse (Reload vc id) NoConnection = true
may_refuse (Release vc) NoConnection = true
may_refuse (Cut vc) NoConnection = true
may_refuse (Cut vc) NoMemory = true
may_refuse _ _ = false

-- Whether a cell that isn't judged may have this answer. An arrival doesn't allocate.
abbrev pub may_answer : Answer → Bool
may_answer cell_answers.NoConnection = true
may_answer MomentTooLate = true
may_answer (MomentBack last) = true
may_answer JournalFull = true
may_answer _ = false

-- No card reports another fault.
pub record ReportsNoOthers : Type 0 where
  pub desk : (before after : UpcCard) (step : Step) (fault : UpcFault) (refused : RefusesStep before after step fault)
      → IsTrue (may_refuse step refused.reason)
  pub cells : (before after : UpcCard) (cell : List ℕ) (moment : ℕ) (fault : UpcFault)
      (refused : RefusesCell before after cell moment fault) → IsTrue (may_answer refused.answer)
