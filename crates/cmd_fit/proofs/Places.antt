-- What a list has at a place after a write, and after an element more.
use Rattle.std.proofs.Common.{◌≡◌, ◌≢◌, ◌⊎◌, ℕ, zero, suc, ◌<◌, List, [], ◌∷◌, ◌++◌, length, length-set, set, None, Some, refl, sym, ap, ◌∙◌, subst, inl, inr, arith}
use Rattle.std.specs.Prelude.{slice_get}
use Rattle.std.proofs.lemmas.Bool.{cases_eq}
use Rattle.std.proofs.lemmas.Option.{same_Some, slice_get_within}

module _ {X : Type 0} where
  pub slice_get-set_same : (xs : List X) (k : ℕ) (x : X) → k < length xs → slice_get (set xs k x) k ≡ Some x
  slice_get-set_same [] k x within = absurd (omega arith)
  slice_get-set_same (y ∷ xs) zero x within = refl
  slice_get-set_same (y ∷ xs) (suc k) x within = slice_get-set_same xs k x (omega arith)

  pub slice_get-set_other : (xs : List X) (k j : ℕ) (x : X) → j ≢ k → slice_get (set xs k x) j ≡ slice_get xs j
  slice_get-set_other [] k j x apart = refl
  slice_get-set_other (y ∷ xs) zero zero x apart = absurd (apart refl)
  slice_get-set_other (y ∷ xs) zero (suc j) x apart = refl
  slice_get-set_other (y ∷ xs) (suc k) zero x apart = refl
  slice_get-set_other (y ∷ xs) (suc k) (suc j) x apart = slice_get-set_other xs k j x (λ e. apart (ap suc e))

  -- It has the value that was written there, or the value that it had.
  pub slice_get-set : (xs : List X) (k j : ℕ) (x y : X) → slice_get (set xs k x) j ≡ Some y
      → ((j ≡ k) × (x ≡ y)) ⊎ ((j ≢ k) × (slice_get xs j ≡ Some y))
  slice_get-set xs k j x y e = elim (cases_eq j k) [
    | inl same ↦
        let at : slice_get (set xs k x) k ≡ Some y = subst (λ i. slice_get (set xs k x) i ≡ Some y) same e in
        let within : k < length xs = omega (arith, slice_get_within (set xs k x) k y at, length-set xs k x) in
        inl (same, same_Some x y (sym (slice_get-set_same xs k x within) ∙ at))
    | inr apart ↦ inr (apart, sym (slice_get-set_other xs k j x apart) ∙ e)
  ]

  -- At the place of the new element.
  pub slice_get-last : (xs : List X) (x : X) → slice_get (xs ++ x ∷ []) (length xs) ≡ Some x
  slice_get-last [] x = refl
  slice_get-last (y ∷ xs) x = slice_get-last xs x

  -- Before it.
  pub slice_get-front : (xs ys : List X) (k : ℕ) (x : X) → slice_get xs k ≡ Some x → slice_get (xs ++ ys) k ≡ Some x
  slice_get-front [] ys k x at = cc
  slice_get-front (y ∷ xs) ys zero x at = at
  slice_get-front (y ∷ xs) ys (suc k) x at = slice_get-front xs ys k x at

  -- The new element, or an earlier one.
  pub slice_get-pushed : (xs : List X) (x : X) (k : ℕ) (y : X) → slice_get (xs ++ x ∷ []) k ≡ Some y
      → ((k ≡ length xs) × (x ≡ y)) ⊎ (slice_get xs k ≡ Some y)
  slice_get-pushed [] x zero y at = inl (refl, same_Some x y at)
  slice_get-pushed [] x (suc k) y at = absurd (let no : None ≡ Some y = at in cc)
  slice_get-pushed (z ∷ xs) x zero y at = inr at
  slice_get-pushed (z ∷ xs) x (suc k) y at = elim (slice_get-pushed xs x k y at) [
    | inl last ↦ inl (ap suc last.0, last.1)
    | inr early ↦ inr early
  ]
