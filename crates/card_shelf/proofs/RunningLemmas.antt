-- Cards that police their own arrivals, each by itself, police all.
use Rattle.std.proofs.Common.{◌≡◌, ◌<◌, ◌≤◌, ℕ, Some, List, length, Vec, Global, sym, ap, ◌∙◌, subst, arith, mod-lt}
use Rattle.std.specs.Prelude.{slice_get, option_map}
use Rattle.std.proofs.lemmas.List.{length-map}
use Rattle.std.proofs.lemmas.Option.{slice_get-map, slice_get_within}
use Rattle.upc_cell.specs.declared.side.Side.{Side}
use Rattle.card_core.specs.Agreement.{CoreView}
use Rattle.card_shelf.specs.declared.arrival.Arrival.{Arrival}
use Rattle.card_shelf.specs.declared.card.Card.{Card}
use Rattle.card_shelf.specs.Own.{own_arrivals, own_decisions, ServesAll, EachServes}
use Rattle.card_shelf.specs.Policing.{PolicesAll}
use Rattle.card_shelf.specs.inner.Cards.{cores_of, decisions_of}
use Rattle.card_shelf.specs.inner.Gathered.{HaveOneEach, HasOwnDecisions}
use Rattle.card_shelf.specs.inner.Places.{picked}
use Rattle.card_shelf.proofs.CardLemmas.{core_in, card-of-core, decisions_in, card-of-decisions}
use Rattle.card_shelf.proofs.Lists.{there}
use Rattle.card_shelf.proofs.OwnLemmas.{Decision, serves-length}
use Rattle.card_shelf.proofs.Weaving.{weave}

module _ (side : Side) (arrivals : List Arrival) (old middle new : List Card) (dealt : List (Vec ℕ Global))
    (cores : cores_of middle ≡ cores_of old) (sized : length middle ≡ length old) (kept : length new ≡ length middle)
    (shared : length old ≤ length dealt)
    (own : (number : ℕ) (places : Vec ℕ Global) → slice_get dealt number ≡ Some places
    → picked arrivals places.items ≡ own_arrivals side (length old) number arrivals)
    (served : (number : ℕ) (card next : Card) (places : Vec ℕ Global) → slice_get middle number ≡ Some card
    → slice_get new number ≡ Some next → slice_get dealt number ≡ Some places
    → ServesAll card.core (picked arrivals places.items) next.decisions.items next.core) where
  -- What each card did, without places.
  each : (number : ℕ) (card next : Card) → slice_get middle number ≡ Some card → slice_get new number ≡ Some next
      → ServesAll card.core (own_arrivals side (length old) number arrivals) next.decisions.items next.core
  each number card next here after =
      let places = there dealt number (omega (arith, slice_get_within middle number card here, sized, shared)) in
      subst (λ (xs : List Arrival). ServesAll card.core xs next.decisions.items next.core) (own number places.0 places.1)
      (served number card next places.0 here after places.1)

  pub has-one-each : HaveOneEach side (length new) arrivals (decisions_of new)
  has-one-each number ts e =
      let next = card-of-decisions new number ts e in
      let card = there middle number (omega (arith, slice_get_within new number next.0 next.1, kept)) in
      ap length (sym next.2)
      ∙ serves-length card.0.core next.0.core (own_arrivals side (length old) number arrivals) next.0.decisions.items (each number card.0 next.0 card.1 next.1)
      ∙ ap (λ (n : ℕ). length (own_arrivals side n number arrivals)) (sym (kept ∙ sized))

  -- The decisions of each card are those that all decisions have for its arrivals.
  pub each-serves : (decisions : List Decision) → HasOwnDecisions side (length new) arrivals decisions (decisions_of new) → EachServes side (cores_of old) arrivals decisions (cores_of new)
  each-serves decisions has_own number core after here is =
      let card = card-of-core middle number core (ap (λ (cs : List CoreView). slice_get cs number) cores ∙ here) in
      let next = card-of-core new number after is in
      let cards : length old ≡ length (cores_of old) = sym (length-map old core_in) in
      let all : own_decisions side (length old) number arrivals decisions ≡ next.0.decisions.items =
      ap (λ (n : ℕ). own_decisions side n number arrivals decisions) (sym (kept ∙ sized))
      ∙ has_own number next.0.decisions.items (slice_get-map decisions_in new number ∙ ap (option_map decisions_in) next.1) in
      subst (λ (n : ℕ). ServesAll core (own_arrivals side n number arrivals) (own_decisions side n number arrivals decisions) after) cards
      (subst (λ (ts : List Decision). ServesAll core (own_arrivals side (length old) number arrivals) ts after) (sym all)
      (subst (λ (c : CoreView). ServesAll c (own_arrivals side (length old) number arrivals) next.0.decisions.items after) card.2
      (subst (λ (c : CoreView). ServesAll card.0.core (own_arrivals side (length old) number arrivals) next.0.decisions.items c) next.2
      (each number card.0 next.0 card.1 next.1))))

  pub polices : (decisions : List Decision) → 0 < length old → length decisions ≡ length arrivals
      → HasOwnDecisions side (length new) arrivals decisions (decisions_of new) → PolicesAll side (cores_of old) arrivals decisions (cores_of new)
  polices decisions some one_each has_own =
      let cards = length-map old core_in in
      let here : 0 < length (cores_of old) = omega (arith, some, cards) in
      weave side (cores_of old) (cores_of new) arrivals decisions here (length-map new core_in ∙ kept ∙ sized ∙ sym cards) one_each
      (λ arrival. mod-lt _ here) (each-serves decisions has_own)
