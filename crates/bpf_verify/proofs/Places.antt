-- Elements at the places of a list, and `Any` by cases on the list.
use Rattle.std.proofs.Common.{◌≡◌, ℕ, zero, suc, ◌<◌, ◌⊎◌, inl, inr, List, [], ◌∷◌, ◌++◌, length, get_or, Some, Any, slice_get, refl, sym, subst, ◌∙◌, arith}
use Rattle.std.proofs.lemmas.Option.{same_Some}

module _ {X : Type 0} where
  -- Two elements at one place are the same.
  pub one_there : (xs : List X) (k : ℕ) (x y : X) → slice_get xs k ≡ Some x → slice_get xs k ≡ Some y → x ≡ y
  one_there xs k x y p q = same_Some x y (sym p ∙ q)

  pub slice_get-append_left : (xs ys : List X) (k : ℕ) → k < length xs → slice_get (xs ++ ys) k ≡ slice_get xs k
  slice_get-append_left [] ys k h = absurd (omega arith)
  slice_get-append_left (x ∷ xs) ys zero h = refl
  slice_get-append_left (x ∷ xs) ys (suc k) h = slice_get-append_left xs ys k (omega arith)

  pub slice_get-append_last : (xs : List X) (y : X) → slice_get (xs ++ y ∷ []) (length xs) ≡ Some y
  slice_get-append_last [] y = refl
  slice_get-append_last (x ∷ xs) y = slice_get-append_last xs y

  pub any_here : (P : X → Type 0) (x : X) (xs : List X) → P x → Any P (x ∷ xs)
  any_here P x xs p = (0, x, omega arith, refl, p)

  pub any_later : (P : X → Type 0) (x : X) (xs : List X) → Any P xs → Any P (x ∷ xs)
  any_later P x xs h = (suc h.0, h.1, omega (arith, h.2), h.3, h.4)

  pub any_none : (P : X → Type 0) → Any P [] → ⊥
  any_none P h = omega (arith, h.2)

  at_place : (P : X → Type 0) (x : X) (xs : List X) (k : ℕ) (y : X) → k < suc (length xs) → get_or (x ∷ xs) k y ≡ y → P y → P x ⊎ Any P xs
  at_place P x xs zero y lt e p = inl (subst P (sym e) p)
  at_place P x xs (suc k) y lt e p = inr (k, y, omega arith, e, p)

  pub any_split : (P : X → Type 0) (x : X) (xs : List X) → Any P (x ∷ xs) → P x ⊎ Any P xs
  any_split P x xs h = at_place P x xs h.0 h.1 h.2 h.3 h.4

  pub any_append_left : (P : X → Type 0) (xs ys : List X) → Any P xs → Any P (xs ++ ys)
  any_append_left P [] ys h = absurd (any_none P h)
  any_append_left P (x ∷ xs) ys h =
      elim (any_split P x xs h) [ inl p ↦ any_here P x (xs ++ ys) p | inr q ↦ any_later P x (xs ++ ys) (any_append_left P xs ys q) ]

  pub any_append_last : (P : X → Type 0) (xs : List X) (y : X) → P y → Any P (xs ++ y ∷ [])
  any_append_last P [] y p = any_here P y [] p
  any_append_last P (x ∷ xs) y p = any_later P x (xs ++ y ∷ []) (any_append_last P xs y p)

  pub any_append_split : (P : X → Type 0) (xs : List X) (y : X) → Any P (xs ++ y ∷ []) → P y ⊎ Any P xs
  any_append_split P [] y h = any_split P y [] h
  any_append_split P (x ∷ xs) y h =
      elim (any_split P x (xs ++ y ∷ []) h) [ inl p ↦ inr (any_here P x xs p) | inr q ↦ elim (any_append_split P xs y q) [ inl p ↦ inl p | inr r ↦ inr (any_later P x xs r) ] ]

  -- A fact that can be decided of each element can be decided of some element.
  pub decide_any : (P : X → Type 0) → ((x : X) → P x ⊎ (P x → ⊥)) → (xs : List X) → Any P xs ⊎ (Any P xs → ⊥)
  decide_any P d [] = inr (any_none P)
  decide_any P d (x ∷ xs) =
      elim (d x) [
        | inl p ↦ inl (any_here P x xs p)
        | inr n ↦ elim (decide_any P d xs) [
          | inl q ↦ inl (any_later P x xs q)
          | inr m ↦ inr (λ h. elim (any_split P x xs h) [ inl p ↦ n p | inr q ↦ m q ])
        ]
      ]
