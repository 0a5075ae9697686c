use Rattle.std.proofs.Common.{◌≡◌, ◌<◌, Some, List, length, refl, sym, ap, ◌∙◌, subst, inl, inr}
use Rattle.std.specs.Prelude.{slice_get}
use Rattle.std.proofs.lemmas.List.{map-set}
use Rattle.std.proofs.lemmas.Option.{slice_get_read}
use Rattle.card_core.specs.Agreement.{CoreView}
use Rattle.card_shelf.specs.declared.card.Card.{Card}
use Rattle.card_shelf.specs.Shelf.{TakesStep}
use Rattle.card_shelf.specs.inner.Cards.{cores_of}
use Rattle.card_shelf.specs.inner.Rest.{IsAtRest}
use Rattle.gen_arena.proofs.Public.{slice_get-set}
use Rattle.card_shelf.proofs.CardLemmas.{core_in, core-at}
use Rattle.card_shelf.proofs.RestLemmas.{desk-rests}
use Rattle.card_shelf.proofs.running.step_on.Goals as goal
use Rattle.card_shelf.proofs.running.step_on.Goals.{After-step}

there : (c : After-step) → slice_get (cores_of c.args.cards.now) c.args.number ≡ Some c.index-cards-number.result.core
there c =
    let within : c.args.number < length c.args.cards.now = c.requires.within in
    core-at c.args.cards.now c.args.number c.index-cards-number.result
    (slice_get_read c.args.cards.now (length c.args.cards.now) c.args.number c.index-cards-number.result refl within c.index-cards-number.is)

takes : (c : After-step) → TakesStep c.args.step c.step.result c.index-cards-number.result.core c.step.new.self
takes c =
    subst (λ (card : Card). TakesStep c.args.step c.step.result card.core c.step.new.self) (sym c.index-cards-number.is)
    (record { follows = c.step.ensures.follows; unchanged = c.step.ensures.unchanged; fresh = c.step.ensures.fresh })

pub returns-clause-taken : goal.returns-clause-taken
returns-clause-taken c =
    record {
      card = c.index-cards-number.result.core;
      there = there c;
      next = c.step.new.self;
      did = takes c;
      after = map-set core_in c.args.cards.now c.args.number _;
    }

pub returns-clause-rest : goal.returns-clause-rest
returns-clause-rest c number core e =
    let old = c.index-cards-number.result.core in
    elim (slice_get-set (cores_of c.args.cards.now) c.args.number number c.step.new.self core
    (ap (λ (cs : List CoreView). slice_get cs number) (sym (map-set core_in c.args.cards.now c.args.number _)) ∙ e)) [
      | inl same ↦ subst IsAtRest same.1
          (desk-rests old c.step.new.self c.args.step c.step.result c.requires.desk (c.requires.rest c.args.number old (there c)) (takes c).follows)
      | inr apart ↦ c.requires.rest number core apart.1
    ]
