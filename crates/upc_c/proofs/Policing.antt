-- The answer to a judged cell, as C gets it, and the error of one that is refused.
use Rattle.std.proofs.Common.{◌≡◌, ◌⊎◌, inl, inr, ℕ, List, length, Some, None, Ok, sym, ap, subst, ◌∙◌}
use Rattle.card_core.specs.Agreement.{CoreView}
use Rattle.card_core.specs.Arrival.{AnswersArrival}
use Rattle.card_core.specs.Sections.{answer_to}
use Rattle.card_core.specs.Steps.{cell_after}
use Rattle.card_core.specs.declared.answer.Answer.{Answer}
use Rattle.card_core.specs.declared.answer.Answer.TheVariants.{Judged}
use Rattle.card_core.specs.declared.answer.Judgement.{Judgement}
use Rattle.gen_arena.specs.declared.id.Id.{Id}
use Rattle.upc_c.specs.CardArrival.{ArrivesAtCard, IsArrivalFault, reason_of_answer}
use Rattle.upc_c.specs.CardDesk.{id_of}
use Rattle.upc_c.specs.CardHandle.{card_in, card_missing}
use Rattle.upc_c.specs.CellHeader.{IsCellFault}
use Rattle.upc_c.specs.Judging.{number_of_verdict}
use Rattle.upc_c.specs.declared.arrival.UpcAnswer.{UpcAnswer}
use Rattle.upc_c.specs.declared.card.UpcCard.{UpcCard}
use Rattle.upc_c.specs.declared.fault.UpcFault.{UpcFault}
use Rattle.upc_c.specs.declared.id.UpcId.{UpcId}
use Rattle.upc_c.specs.inner.CellsOnCore.{PolicesOn, RefusesOn}

-- The octets were those of the cell, the numbers are those of the id, and the octets are those of the leaving cell.
arrives-so : (before after : UpcCard) (octets cell leaving : List ℕ) (moment : ℕ) (j : Judgement) (id : UpcId)
    → cell ≡ octets → j.program ≡ id_of id → leaving ≡ cell_after j.verdict cell → ArrivesAtCard before after cell moment (answer_to cell (Ok j))
    → ArrivesAtCard before after octets moment (Judged j.line j.number j.moment j.value (id_of id) j.verdict leaving)
arrives-so before after octets cell leaving moment j id same named left arrives =
    subst (λ (xs : List ℕ). ArrivesAtCard before after xs moment (Judged j.line j.number j.moment j.value (id_of id) j.verdict leaving)) same
    (subst (λ (name : Id). ArrivesAtCard before after cell moment (Judged j.line j.number j.moment j.value name j.verdict leaving)) named
    (subst (λ (xs : List ℕ). ArrivesAtCard before after cell moment (Judged j.line j.number j.moment j.value j.program j.verdict xs)) (sym left) arrives))

-- The answer with the numbers of a judgement.
abbrev pub answer_for_c : Judgement → ℕ → UpcId → UpcAnswer
answer_for_c j verdict id = record { verdict = verdict; value = j.value; number = j.number; moment = j.moment; program = id; line = j.line }

pub polices-so : (old new : CoreView) (octets cell leaving : List ℕ) (moment verdict : ℕ) (j : Judgement) (id : UpcId)
    → length octets ≡ 52 → cell ≡ octets → verdict ≡ number_of_verdict j.verdict → j.program ≡ id_of id → leaving ≡ cell_after j.verdict cell
    → AnswersArrival old 0 cell moment (answer_to cell (Ok j)) new → PolicesOn old new octets moment (answer_for_c j verdict id) leaving
polices-so old new octets cell leaving moment verdict j id sized same numbered named left answers = record {
  sized = sized;
  on = λ before after had has. record {
    sized = sized;
    verdict = j.verdict;
    number = numbered;
    arrives = arrives-so before after octets cell leaving moment j id same named left
        (record { old = old; new = new; had = had; has = has; answers = answers });
  };
}

-- A core that doesn't judge the cell is unchanged.
pub refuses-so : (old new : CoreView) (octets cell : List ℕ) (moment : ℕ) (answer : Answer) (fault : UpcFault)
    → length octets ≡ 52 → cell ≡ octets → new ≡ old → reason_of_answer answer ≡ Some fault → AnswersArrival old 0 cell moment answer new
    → RefusesOn old octets moment fault
refuses-so old new octets cell moment answer fault sized same left reported answers = record {
  on = λ before after had has. inr (inr (
    sized,
    record {
      answer = answer;
      arrives = subst (λ (xs : List ℕ). ArrivesAtCard before after xs moment answer) same
          (record { old = old; new = new; had = had; has = has ∙ ap Some (sym left); answers = answers });
      reported = reported;
    },
  ));
}

-- The octets aren't a cell.
pub refuses-octets : (core : CoreView) (octets : List ℕ) (moment : ℕ) (fault : UpcFault) → IsCellFault octets fault → RefusesOn core octets moment fault
refuses-octets core octets moment fault is = record { on = λ before after had has. inl is }

-- If there is no card, the octets aren't a cell, or that is the error.
pub without-card : (before after : UpcCard) (octets : List ℕ) (moment : ℕ) (fault : UpcFault) → card_in before ≡ None
    → (IsCellFault octets fault ⊎ ((length octets ≡ 52) × (fault ≡ card_missing))) → IsArrivalFault before after octets moment fault
without-card before after octets moment fault none (inl is) = inl is
without-card before after octets moment fault none (inr is) = inr (inl (is.0, none, is.1))
