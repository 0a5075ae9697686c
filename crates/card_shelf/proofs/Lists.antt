-- What lists have at a place.
use Rattle.std.proofs.Common.{◌≡◌, ◌⊎◌, ℕ, zero, suc, ◌+◌, ◌<◌, List, [], ◌∷◌, ◌++◌, length, map, take, drop, replicate, Some, refl, sym, ap, ◌∙◌, subst, inl, inr, arith, drop_of_length-le}
use Rattle.std.specs.Prelude.{slice_get}
use Rattle.std.proofs.lemmas.List.{take_more, take-append-drop, drop_more, append-nil, take_all}
use Rattle.std.proofs.lemmas.Option.{same_Some, slice_get_within, get_or_from_slice_get}

module _ {X : Type 0} where
  pub there : (xs : List X) (k : ℕ) → k < length xs → (x : X) × (slice_get xs k ≡ Some x)
  there [] k within = absurd (omega arith)
  there (x ∷ xs) zero within = (x, refl)
  there (x ∷ xs) (suc k) within = there xs k (omega arith)

  -- Lists of one length that have the same at each place are the same.
  pub same-lists : (xs ys : List X) → length xs ≡ length ys
      → ((k : ℕ) (x y : X) → slice_get xs k ≡ Some x → slice_get ys k ≡ Some y → y ≡ x) → ys ≡ xs
  same-lists [] [] e same = refl
  same-lists [] (y ∷ ys) e same = absurd (omega (arith, e))
  same-lists (x ∷ xs) [] e same = absurd (omega (arith, e))
  same-lists (x ∷ xs) (y ∷ ys) e same =
      let first : y ≡ x = same 0 x y refl refl in
      let later : ys ≡ xs = same-lists xs ys (omega (arith, e)) (λ k. same (suc k)) in
      ap (λ (z : X). z ∷ ys) first ∙ ap (λ (zs : List X). x ∷ zs) later

  -- The list up to the next place, and around a place.
  pub take-next : (xs : List X) (k : ℕ) (x : X) → slice_get xs k ≡ Some x → take (k + 1) xs ≡ take k xs ++ x ∷ []
  take-next xs k x e =
      take_more xs k x (slice_get_within xs k x e) ∙ ap (λ (y : X). take k xs ++ y ∷ []) (get_or_from_slice_get xs k x x e)

  pub around : (xs : List X) (k : ℕ) (x : X) → slice_get xs k ≡ Some x → xs ≡ take k xs ++ x ∷ drop (k + 1) xs
  around xs k x e =
      sym (take-append-drop k xs)
      ∙ ap (λ (ys : List X). take k xs ++ ys) (drop_more xs k x (slice_get_within xs k x e)
      ∙ ap (λ (y : X). y ∷ drop (k + 1) xs) (get_or_from_slice_get xs k x x e))

  -- What a list has once there is one more is what it had, or the new one.
  pub get-push : (xs : List X) (k : ℕ) (x y : X) → slice_get (xs ++ x ∷ []) k ≡ Some y → (slice_get xs k ≡ Some y) ⊎ (x ≡ y)
  get-push [] zero x y e = inr (same_Some x y e)
  get-push [] (suc k) x y e = absurd (cc)
  get-push (z ∷ xs) zero x y e = inl e
  get-push (z ∷ xs) (suc k) x y e = get-push xs k x y e

  -- A list of one value has it at each place.
  pub get-replicate : (n k : ℕ) (x y : X) → slice_get (replicate n x) k ≡ Some y → y ≡ x
  get-replicate zero k x y e = absurd (cc)
  get-replicate (suc n) zero x y e = sym (same_Some x y e)
  get-replicate (suc n) (suc k) x y e = get-replicate n k x y e

  -- A list that was overwritten whole is what was written.
  pub overwritten : (n : ℕ) (old new : List X) → n ≡ length old → length new ≡ length old → take n (new ++ drop (length new) old) ≡ new
  overwritten n old new sized kept =
      ap (λ (xs : List X). take n (new ++ xs)) (drop_of_length-le old (omega (arith, kept)))
      ∙ ap (take n) (append-nil new) ∙ take_all n new (omega (arith, sized, kept))

-- The value at a place of a mapped list comes from the one at that place.
pub map-there : {X Y : Type 0} (f : X → Y) (xs : List X) (k : ℕ) (y : Y) → slice_get (map f xs) k ≡ Some y
    → (x : X) × (slice_get xs k ≡ Some x) × (f x ≡ y)
map-there f [] k y e = absurd (cc)
map-there f (x ∷ xs) zero y e = (x, refl, same_Some (f x) y e)
map-there f (x ∷ xs) (suc k) y e = map-there f xs k y e

-- If there is a value for each place below a number, there is a list of them.
pub chosen : {X : Type 0} (n : ℕ) (P : ℕ → X → Type 0) → ((k : ℕ) → k < n → (x : X) × P k x)
    → (xs : List X) × (length xs ≡ n) × ((k : ℕ) (x : X) → slice_get xs k ≡ Some x → P k x)
chosen zero P each = ([], refl, λ k x e. absurd (cc))
chosen {X = X} (suc n) P each =
    let first = each 0 (omega arith) in
    let later = chosen {X = X} n (λ k. P (suc k)) (λ k below. each (suc k) (omega (arith, below))) in
    let at : (k : ℕ) (x : X) → slice_get (first.0 ∷ later.0) k ≡ Some x → P k x = elim [
      | zero ↦ λ x e. subst (P 0) (same_Some first.0 x e) first.1
      | suc k ↦ λ x e. later.2 k x e
    ] in
    (first.0 ∷ later.0, omega (arith, later.1), at)
