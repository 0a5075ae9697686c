use Rattle.std.proofs.Common.{◌≡◌, Some, None, length, refl, sym, ap, ◌∙◌, inl, inr, arith}
use Rattle.std.specs.Prelude.{slice_get}
use Rattle.std.proofs.lemmas.Bool.{cases_eq}
use Rattle.std.proofs.lemmas.List.{length-map}
use Rattle.std.proofs.lemmas.Option.{same_Some, slice_get_read, slice_get_within}
use Rattle.card_core.specs.Inspection.{load_fault_of}
use Rattle.card_shelf.specs.declared.card.Card.{Card}
use Rattle.card_shelf.specs.inner.Cards.{cores_of}
use Rattle.card_shelf.proofs.CardLemmas.{core_in, core-at}
use Rattle.card_shelf.proofs.loading.load_fault.Goals as goal

pub loop-first-preserved : goal.loop-first-preserved
loop-first-preserved c =
    let cards = c.args.cards.now in
    let card = c.index-cards-first.result in
    let number = c.loop-first.first in
    let here : slice_get (cores_of cards) number ≡ Some card.core =
    core-at cards number card (slice_get_read cards (length cards) number card refl c.loop-first-test.true c.index-cards-first.is) in
    let free : load_fault_of card.core ≡ None =
    ap (λ (x : Card). load_fault_of x.core) c.index-cards-first.is ∙ sym c.load_fault.ensures ∙ c.in_default.is in
    record {
      none = λ k core below e. elim (cases_eq k number) [
        | inl same ↦ ap load_fault_of (same_Some core card.core (sym e ∙ ap (slice_get (cores_of cards)) same ∙ here)) ∙ free
        | inr apart ↦ c.loop-first.invariant.none k core (omega (arith, below, apart)) e
      ];
    }

pub returns-clause-none : goal.returns-clause-none
returns-clause-none c number core e =
    let low = c.loop-first-test.false in
    c.loop-first.invariant.none number core
    (omega (arith, low, slice_get_within (cores_of c.args.cards.now) number core e, length-map c.args.cards.now core_in)) e
