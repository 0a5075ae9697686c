use Rattle.std.proofs.Common.{◌≡◌, ◌<◌, Some, None, length, get_or, refl, sym, ap, ◌∙◌, subst, inl, inr, arith}
use Rattle.std.specs.Prelude.{slice_get}
use Rattle.std.proofs.lemmas.Bool.{cases_eq}
use Rattle.std.proofs.lemmas.List.{length-map}
use Rattle.std.proofs.lemmas.Option.{same_Some, slice_get_read, slice_get-get_or, slice_get_within, get_or_from_slice_get}
use Rattle.gen_arena.specs.declared.id.Id.{Id}
use Rattle.card_core.specs.Agreement.{CoreView}
use Rattle.card_core.specs.Inspection.{IsRetireFault}
use Rattle.card_shelf.specs.declared.card.Card.{Card}
use Rattle.card_shelf.specs.inner.Cards.{cores_of}
use Rattle.card_shelf.proofs.CardLemmas.{core_in, core-at}
use Rattle.card_shelf.proofs.retiring.retire_fault.Goals as goal
use Rattle.card_shelf.proofs.retiring.retire_fault.Goals.{After-retire_fault}

here : (c : After-retire_fault) → slice_get (cores_of c.args.cards.now) c.loop-first.first ≡ Some c.index-cards-first.result.core
here c =
    core-at c.args.cards.now c.loop-first.first c.index-cards-first.result
    (slice_get_read c.args.cards.now (length c.args.cards.now) c.loop-first.first c.index-cards-first.result refl c.loop-first-test.true
    c.index-cards-first.is)

pub returns-in-Some-clause-some : goal.returns-in-Some-clause-some
returns-in-Some-clause-some c =
    let number = c.loop-first.first in
    let ids = c.args.ids.now in
    let id = get_or ids number (record { slot = 0; generation = 0 }) in
    let below : number < length c.args.cards.now = c.loop-first-test.true in
    record {
      one_each = c.requires ∙ sym (length-map c.args.cards.now core_in);
      card = c.index-cards-first.result.core;
      there = here (goal.at.returns-in-Some-clause-some c).After-retire_fault;
      id = id;
      named = slice_get-get_or ids number (record { slot = 0; generation = 0 }) (omega (arith, below, c.requires));
      reason = subst (λ (x : Card). IsRetireFault x.core id (Some c.in-Some.fault)) (sym c.index-cards-first.is) c.in-Some.ensures;
      earlier = λ before other another early e at. c.loop-first.invariant.none before other another early e at;
    }

pub loop-first-preserved : goal.loop-first-preserved
loop-first-preserved c =
    let cards = c.args.cards.now in
    let ids = c.args.ids.now in
    let card = c.index-cards-first.result in
    let number = c.loop-first.first in
    let free : IsRetireFault card.core (get_or ids number (record { slot = 0; generation = 0 })) None =
    subst (λ (x : Card). IsRetireFault x.core (get_or ids number (record { slot = 0; generation = 0 })) None) (sym c.index-cards-first.is) c.in_default.ensures in
    record {
      none = λ k core id below e at. elim (cases_eq k number) [
        | inl same ↦
            let core_is : card.core ≡ core = same_Some card.core core
            (sym (here (goal.at.loop-first-preserved c).After-retire_fault) ∙ ap (slice_get (cores_of cards)) (sym same) ∙ e) in
            let id_is : get_or ids number (record { slot = 0; generation = 0 }) ≡ id =
            get_or_from_slice_get ids number id (record { slot = 0; generation = 0 }) (ap (slice_get ids) (sym same) ∙ at) in
            subst (λ (x : CoreView). IsRetireFault x id None) core_is (subst (λ (x : Id). IsRetireFault card.core x None) id_is free)
        | inr apart ↦ c.loop-first.invariant.none k core id (omega (arith, below, apart)) e at
      ];
    }

pub returns-clause-none : goal.returns-clause-none
returns-clause-none c number core id e at =
    let low = c.loop-first-test.false in
    c.loop-first.invariant.none number core id
    (omega (arith, low, slice_get_within (cores_of c.args.cards.now) number core e, length-map c.args.cards.now core_in)) e at
