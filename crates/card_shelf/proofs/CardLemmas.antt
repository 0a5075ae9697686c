-- What the cards of a shelf are, without what they keep while arrivals are policed.
use Rattle.std.proofs.Common.{◌≡◌, ℕ, zero, suc, List, [], ◌∷◌, set, Option, Some, None, refl, sym, ap, ◌∙◌}
use Rattle.std.specs.Prelude.{slice_get, option_map}
use Rattle.std.proofs.lemmas.List.{map-set}
use Rattle.std.proofs.lemmas.Option.{slice_get-map, same_Some}
use Rattle.card_core.specs.Agreement.{CoreView}
use Rattle.card_shelf.specs.declared.card.Card.{Card}
use Rattle.card_shelf.specs.inner.Cards.{cores_of, decisions_of}
use Rattle.card_shelf.proofs.OwnLemmas.{Decision}

abbrev pub core_in : Card → CoreView
core_in card = card.core

pub set-again : {X : Type 0} (xs : List X) (k : ℕ) (x : X) → slice_get xs k ≡ Some x → set xs k x ≡ xs
set-again [] k x e = absurd (cc)
set-again (y ∷ xs) zero x e = ap (λ z. z ∷ xs) (sym (same_Some y x e))
set-again (y ∷ xs) (suc k) x e = ap (λ zs. y ∷ zs) (set-again xs k x e)

pub core-at : (cards : List Card) (number : ℕ) (card : Card) → slice_get cards number ≡ Some card
    → slice_get (cores_of cards) number ≡ Some card.core
core-at cards number card e = slice_get-map core_in cards number ∙ ap (option_map core_in) e

-- A change of one card that leaves its core.
pub cores-set : (cards : List Card) (number : ℕ) (old new : Card) → slice_get cards number ≡ Some old → new.core ≡ old.core
    → cores_of (set cards number new) ≡ cores_of cards
cores-set cards number old new at same =
    map-set core_in cards number new ∙ ap (set (cores_of cards) number) same
    ∙ set-again (cores_of cards) number old.core (core-at cards number old at)

abbrev pub decisions_in : Card → List Decision
decisions_in card = card.decisions.items

pub mapped : {X Y : Type 0} (f : X → Y) (o : Option X) (y : Y) → option_map f o ≡ Some y → (x : X) × (o ≡ Some x) × (f x ≡ y)
mapped f None y e = absurd (cc)
mapped f (Some x) y e = (x, refl, same_Some (f x) y e)

-- The card of a core, and of a list of decisions.
pub card-of-core : (cards : List Card) (number : ℕ) (core : CoreView) → slice_get (cores_of cards) number ≡ Some core
    → (card : Card) × (slice_get cards number ≡ Some card) × (card.core ≡ core)
card-of-core cards number core e = mapped core_in (slice_get cards number) core (sym (slice_get-map core_in cards number) ∙ e)

pub card-of-decisions : (cards : List Card) (number : ℕ) (ts : List Decision) → slice_get (decisions_of cards) number ≡ Some ts
    → (card : Card) × (slice_get cards number ≡ Some card) × (card.decisions.items ≡ ts)
card-of-decisions cards number ts e = mapped decisions_in (slice_get cards number) ts (sym (slice_get-map decisions_in cards number) ∙ e)
