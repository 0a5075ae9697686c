-- A cell that arrives at a card that C has.
use Rattle.std.specs.Prelude.{◌≡◌, ◌⊎◌, ℕ, List, length, Option, Some, None}
use Rattle.card_core.specs.Agreement.{CoreView}
use Rattle.card_core.specs.Arrival.{AnswersArrival}
use Rattle.card_core.specs.declared.answer.Answer.{Answer}
use Rattle.card_core.specs.declared.answer.Answer.TheVariants.{Judged, NoConnection, Released, Stale, MomentBack, MomentTooLate, JournalFull, NoMemory}
use Rattle.leaky.specs.declared.verdict.Verdict.{Verdict}
use Rattle.upc_c.specs.CardDesk.{id_of}
use Rattle.upc_c.specs.CardHandle.{card_in, card_missing}
use Rattle.upc_c.specs.CellHeader.{IsCellFault}
use Rattle.upc_c.specs.Faults.{plain_fault, out_of_memory}
use Rattle.upc_c.specs.Judging.{number_of_verdict}
use Rattle.upc_c.specs.declared.arrival.UpcAnswer.{UpcAnswer}
use Rattle.upc_c.specs.declared.card.UpcCard.{UpcCard}
use Rattle.upc_c.specs.declared.fault.UpcFault.{UpcFault}

-- The card took all steps of the cell at port 0, with this answer.
pub record ArrivesAtCard (before after : UpcCard) (cell : List ℕ) (moment : ℕ) (answer : Answer) : Type 0 where
  pub old : CoreView
  pub new : CoreView
  pub had : card_in before ≡ Some old
  pub has : card_in after ≡ Some new
  pub answers : AnswersArrival old 0 cell moment answer new

-- The cell was judged with this answer, and these are the octets of the leaving cell.
pub record IsPolicedCell (before after : UpcCard) (cell : List ℕ) (moment : ℕ) (answer : UpcAnswer) (leaving : List ℕ) : Type 0 where
  pub sized : length cell ≡ 52
  pub verdict : Verdict
  pub number : answer.verdict ≡ number_of_verdict verdict
  pub arrives : ArrivesAtCard before after cell moment
      (Judged answer.line answer.number answer.moment answer.value (id_of answer.program) verdict leaving)

-- The error for C if the cell wasn't judged, or None if the cell was judged.
abbrev pub reason_of_answer : Answer → Option UpcFault
reason_of_answer (Judged line number moment value program verdict cell) = None
reason_of_answer NoConnection = Some (plain_fault 8 1 0)
reason_of_answer Released = Some (plain_fault 8 2 0)
reason_of_answer Stale = Some (plain_fault 8 3 0)
reason_of_answer (MomentBack last) = Some (plain_fault 8 4 last)
reason_of_answer MomentTooLate = Some (plain_fault 8 5 0)
reason_of_answer JournalFull = Some (plain_fault 8 6 0)
reason_of_answer NoMemory = Some out_of_memory

-- The card took all steps of the cell, did not judge it, and this is the error for C.
pub record RefusesCell (before after : UpcCard) (cell : List ℕ) (moment : ℕ) (fault : UpcFault) : Type 0 where
  pub answer : Answer
  pub arrives : ArrivesAtCard before after cell moment answer
  pub reported : reason_of_answer answer ≡ Some fault

-- The error for C: the octets aren't a cell; else there is no card; else the card doesn't judge the cell.
abbrev pub IsArrivalFault : UpcCard → UpcCard → List ℕ → ℕ → UpcFault → Type 0
IsArrivalFault before after cell moment fault =
    IsCellFault cell fault
    ⊎ ((length cell ≡ 52) × (card_in before ≡ None) × (fault ≡ card_missing))
    ⊎ ((length cell ≡ 52) × RefusesCell before after cell moment fault)
