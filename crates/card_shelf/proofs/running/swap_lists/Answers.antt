use Rattle.std.proofs.Common.{◌≡◌, ◌<◌, ◌≤◌, Some, length, vec_capacity, Vec, Global, refl, sym, ap, ◌∙◌, subst, inl, inr, arith}
use Rattle.std.specs.Prelude.{slice_get}
use Rattle.std.proofs.lemmas.Bool.{cases_lt}
use Rattle.std.proofs.lemmas.Option.{slice_get_read, slice_get_within}
use Rattle.card_shelf.specs.declared.card.Card.{Card}
use Rattle.gen_arena.proofs.Public.{slice_get-set, slice_get-set_other}
use Rattle.card_shelf.proofs.CardLemmas.{core_in, cores-set}
use Rattle.card_shelf.proofs.OwnLemmas.{Decision}
use Rattle.card_shelf.proofs.running.swap_lists.Goals as goal
use Rattle.card_shelf.proofs.running.swap_lists.Goals.{After-swap}

card_there : (c : After-swap) → slice_get c.loop-number.cards c.loop-number.number ≡ Some c.index-cards-number.result
card_there c =
    let below : c.loop-number.number < length c.loop-number.cards = omega (arith, c.loop-number-test.true, c.loop-number.auto.cards) in
    slice_get_read c.loop-number.cards (length c.loop-number.cards) c.loop-number.number c.index-cards-number.result refl below c.index-cards-number.is

decisions_there : (c : After-swap) → slice_get c.loop-number.decision_lists c.loop-number.number ≡ Some c.index-decision_lists-number.result
decisions_there c =
    let below : c.loop-number.number < length c.loop-number.decision_lists = omega (arith, c.loop-number-test.true, c.loop-number.auto.decision_lists, c.requires) in
    slice_get_read c.loop-number.decision_lists (length c.loop-number.decision_lists) c.loop-number.number c.index-decision_lists-number.result refl below c.index-decision_lists-number.is

pub loop-number-preserved : goal.loop-number-preserved
loop-number-preserved c =
    let n = c.loop-number.number in
    let cards = c.loop-number.cards in
    let decision_lists = c.loop-number.decision_lists in
    let decisions_is : c.swap.new.x ≡ c.index-decision_lists-number.result = c.swap.ensures.x_after ∙ sym c.index-decision_lists-number.is in
    let old_is : c.swap.new.y ≡ c.index-cards-number.result.decisions =
    c.swap.ensures.y_after ∙ ap (λ (card : Card). card.decisions) (sym c.index-cards-number.is) in
    record {
      cores = cores-set cards n c.index-cards-number.result _ (card_there c) (ap core_in (sym c.index-cards-number.is)) ∙ c.loop-number.invariant.cores;
      lent = λ most room k card below e. elim (slice_get-set cards n k _ card e) [
        | inl same ↦
            let had = room n c.index-decision_lists-number.result (omega arith) (sym (c.loop-number.invariant.decision_lists n (omega arith)) ∙ decisions_there c) in
            subst (λ (x : Card). most ≤ vec_capacity x.decisions) same.1 (subst (λ (v : Vec Decision Global). most ≤ vec_capacity v) (sym decisions_is) had)
        | inr apart ↦ c.loop-number.invariant.lent most room k card (let ne = apart.0 in omega (arith, below, ne)) apart.1
      ];
      back = λ most room k decisions below e. elim (slice_get-set decision_lists n k _ decisions e) [
        | inl same ↦
            let had = room n c.index-cards-number.result (sym (c.loop-number.invariant.cards n (omega arith)) ∙ card_there c) in
            subst (λ (v : Vec Decision Global). most ≤ vec_capacity v) (sym old_is ∙ same.1) had
        | inr apart ↦ c.loop-number.invariant.back most room k decisions (let ne = apart.0 in omega (arith, below, ne)) apart.1
      ];
      cards = λ k above. slice_get-set_other cards n k _ (omega (arith, above)) ∙ c.loop-number.invariant.cards k (omega (arith, above));
      decision_lists = λ k above. slice_get-set_other decision_lists n k _ (omega (arith, above)) ∙ c.loop-number.invariant.decision_lists k (omega (arith, above));
    }

pub returns-clause-lent : goal.returns-clause-lent
returns-clause-lent c most room number card e =
    let low = c.loop-number-test.false in
    c.loop-number.invariant.lent most room number card
    (omega (arith, low, slice_get_within c.loop-number.cards number card e, c.loop-number.auto.cards)) e

pub returns-clause-back : goal.returns-clause-back
returns-clause-back c most room later number decisions from e =
    let low = c.loop-number-test.false in
    elim (cases_lt number c.loop-number.number) [
      | inl below ↦ c.loop-number.invariant.back most room number decisions below e
      | inr above ↦ later number decisions (omega (arith, low, above)) (sym (c.loop-number.invariant.decision_lists number above) ∙ e)
    ]
