-- What one card does of a list of arrivals, as the list grows.
use Rattle.std.proofs.Common.{◌≡◌, ◌≢◌, ◌==◌, ◌≤◌, ℕ, Bool, true, false, cond, List, [], ◌∷◌, ◌++◌, length, Option, Some, None, Result, refl, ap, ◌∙◌, subst, arith}
use Rattle.std.specs.Prelude.{slice_get}
use Rattle.std.proofs.lemmas.Bool.{eq-eqb, ne_eqb}
use Rattle.upc_cell.specs.declared.side.Side.{Side}
use Rattle.card_core.specs.Agreement.{CoreView}
use Rattle.card_core.specs.declared.answer.Judgement.{Judgement}
use Rattle.card_core.specs.declared.answer.Unjudged.{Unjudged}
use Rattle.card_shelf.specs.declared.arrival.Arrival.{Arrival}
use Rattle.card_shelf.specs.Dealing.{card_for}
use Rattle.card_shelf.specs.Policing.{ServesArrival}
use Rattle.card_shelf.specs.Own.{own_arrivals, own_decisions, ServesAll}
use Rattle.card_shelf.specs.inner.Places.{picked, with_arrival}

abbrev pub Decision : Type 0
Decision = Result Judgement Unjudged

cond-append : {X : Type 0} (b : Bool) (x : X) (xs ys : List X) → cond b (x ∷ (xs ++ ys)) (xs ++ ys) ≡ cond b (x ∷ xs) xs ++ ys
cond-append true x xs ys = refl
cond-append false x xs ys = refl

module _ (side : Side) (cards number : ℕ) where
  pub own-append : (xs ys : List Arrival)
      → own_arrivals side cards number (xs ++ ys) ≡ own_arrivals side cards number xs ++ own_arrivals side cards number ys
  own-append [] ys = refl
  own-append (x ∷ xs) ys =
      let own = own_arrivals side cards number in
      let b = card_for side cards x == number in
      ap (λ (zs : List Arrival). cond b (x ∷ zs) zs) (own-append xs ys) ∙ cond-append b x (own xs) (own ys)

  pub own-here : (x : Arrival) (later : List Arrival) → card_for side cards x ≡ number
      → own_arrivals side cards number (x ∷ later) ≡ x ∷ own_arrivals side cards number later
  own-here x later e = ap (λ b. cond b (x ∷ own_arrivals side cards number later) (own_arrivals side cards number later)) (eq-eqb _ _ e)

  pub own-elsewhere : (x : Arrival) (later : List Arrival) → card_for side cards x ≢ number
      → own_arrivals side cards number (x ∷ later) ≡ own_arrivals side cards number later
  own-elsewhere x later e = ap (λ b. cond b (x ∷ own_arrivals side cards number later) (own_arrivals side cards number later)) (ne_eqb _ _ e)

  pub decisions-here : (x : Arrival) (later : List Arrival) (t : Decision) (more : List Decision) → card_for side cards x ≡ number
      → own_decisions side cards number (x ∷ later) (t ∷ more) ≡ t ∷ own_decisions side cards number later more
  decisions-here x later t more e =
      ap (λ b. cond b (t ∷ own_decisions side cards number later more) (own_decisions side cards number later more)) (eq-eqb _ _ e)

  pub decisions-elsewhere : (x : Arrival) (later : List Arrival) (t : Decision) (more : List Decision) → card_for side cards x ≢ number
      → own_decisions side cards number (x ∷ later) (t ∷ more) ≡ own_decisions side cards number later more
  decisions-elsewhere x later t more e =
      ap (λ b. cond b (t ∷ own_decisions side cards number later more) (own_decisions side cards number later more)) (ne_eqb _ _ e)

  pub decisions-append : (xs ys : List Arrival) (ts more : List Decision) → length ts ≡ length xs
      → own_decisions side cards number (xs ++ ys) (ts ++ more) ≡ own_decisions side cards number xs ts ++ own_decisions side cards number ys more
  decisions-append [] ys [] more e = refl
  decisions-append [] ys (t ∷ ts) more e = absurd (omega (arith, e))
  decisions-append (x ∷ xs) ys [] more e = absurd (omega (arith, e))
  decisions-append (x ∷ xs) ys (t ∷ ts) more e =
      let own = own_decisions side cards number in
      let b = card_for side cards x == number in
      ap (λ (zs : List Decision). cond b (t ∷ zs) zs) (decisions-append xs ys ts more (omega (arith, e))) ∙ cond-append b t (own xs ts) (own ys more)

cond-few : (b : Bool) (x : Arrival) (xs ys : List Arrival) → length xs ≤ length ys → length (cond b (x ∷ xs) xs) ≤ length (x ∷ ys)
cond-few true x xs ys few = omega (arith, few)
cond-few false x xs ys few = omega (arith, few)

-- A card has no more arrivals than there are.
pub own-few : (side : Side) (cards number : ℕ) (xs : List Arrival) → length (own_arrivals side cards number xs) ≤ length xs
own-few side cards number [] = omega arith
own-few side cards number (x ∷ xs) =
    cond-few (card_for side cards x == number) x (own_arrivals side cards number xs) xs (own-few side cards number xs)

-- A card that has answered some arrivals answers one more.
pub serves-next : (old middle new : CoreView) (xs : List Arrival) (ts : List Decision) (x : Arrival) (t : Decision)
    → ServesAll old xs ts middle → ServesArrival x t middle new → ServesAll old (xs ++ x ∷ []) (ts ++ t ∷ []) new
serves-next old middle new [] [] x t so_far next =
    (new, subst (λ (core : CoreView). ServesArrival x t core new) so_far next, refl)
serves-next old middle new [] (u ∷ ts) x t so_far next = absurd so_far
serves-next old middle new (y ∷ xs) [] x t so_far next = absurd so_far
serves-next old middle new (y ∷ xs) (u ∷ ts) x t so_far next =
    (so_far.0, so_far.1, serves-next so_far.0 middle new xs ts x t so_far.2 next)

-- It has one decision about each arrival.
pub serves-length : (old new : CoreView) (xs : List Arrival) (ts : List Decision) → ServesAll old xs ts new → length ts ≡ length xs
serves-length old new [] [] goes = refl
serves-length old new [] (t ∷ ts) goes = absurd goes
serves-length old new (x ∷ xs) [] goes = absurd goes
serves-length old new (x ∷ xs) (t ∷ ts) goes = omega (arith, serves-length goes.0 new xs ts goes.2)

with-append : (o : Option Arrival) (xs ys : List Arrival) → with_arrival o (xs ++ ys) ≡ with_arrival o xs ++ ys
with-append None xs ys = refl
with-append (Some x) xs ys = refl

-- The arrivals at some places and one more.
pub picked-next : (arrivals : List Arrival) (places : List ℕ) (place : ℕ) (x : Arrival) → slice_get arrivals place ≡ Some x
    → picked arrivals (places ++ place ∷ []) ≡ picked arrivals places ++ x ∷ []
picked-next arrivals [] place x e = ap (λ (o : Option Arrival). with_arrival o []) e
picked-next arrivals (first ∷ places) place x e =
    ap (with_arrival (slice_get arrivals first)) (picked-next arrivals places place x e)
    ∙ with-append (slice_get arrivals first) (picked arrivals places) (x ∷ [])
