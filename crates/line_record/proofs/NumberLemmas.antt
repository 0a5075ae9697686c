-- Items of a list by number, also after a write to the list.
use Rattle.std.proofs.Common.{◌≡◌, ◌≢◌, ℕ, zero, suc, ◌-◌, ◌<◌, ◌≤◌, inl, inr, List, [], ◌∷◌, length, replicate, set, Some, None, All, get_or, refl, sym, ap, subst, ◌∙◌, arith}
use Rattle.std.specs.Prelude.{slice_get}
use Rattle.std.proofs.lemmas.Bool.Decides.{nat_tests}
use Rattle.std.proofs.lemmas.List.{length-replicate, get_or-replicate}
use Rattle.gen_arena.proofs.Public.{slice_get-set_same, slice_get-set_other}
use Rattle.std.proofs.lemmas.Option.{slice_get-get_or, slice_get_within, slice_get_past, get_or_from_slice_get}
use Rattle.line_record.specs.History.{numbered, IsNoNumber}

module _ {X : Type 0} where
  pub slice_get-replicate : (n k : ℕ) (x : X) → k < n → slice_get (replicate n x) k ≡ Some x
  slice_get-replicate n k x within =
      slice_get-get_or (replicate n x) k x (omega (arith, length-replicate n x))
      ∙ ap Some (get_or-replicate n k x x within)

  -- There is no item of number 0.
  pub numbered-zero : (xs : List X) (n : ℕ) → n ≡ 0 → numbered xs n ≡ None
  numbered-zero xs n none = grind (arith, nat_tests)

  pub numbered-above : (xs : List X) (n : ℕ) → n ≢ 0 → numbered xs n ≡ slice_get xs (n - 1)
  numbered-above xs n some = grind (arith, nat_tests)

  pub numbered-set_same : (xs : List X) (n : ℕ) (x : X) → n ≢ 0 → n - 1 < length xs → numbered (set xs (n - 1) x) n ≡ Some x
  numbered-set_same xs n x some within = rw (numbered-above (set xs (n - 1) x) n some) (slice_get-set_same xs (n - 1) x within)

  numbered-set_above : (xs : List X) (n m : ℕ) (x : X) → n ≢ 0 → m ≢ 0 → m ≢ n → numbered (set xs (n - 1) x) m ≡ numbered xs m
  numbered-set_above xs n m x some other apart =
      rw (numbered-above (set xs (n - 1) x) m other, numbered-above xs m other)
      (slice_get-set_other xs (n - 1) (m - 1) x (λ e. apart (omega arith)))

  pub numbered-set_other : (xs : List X) (n m : ℕ) (x : X) → n ≢ 0 → m ≢ n → numbered (set xs (n - 1) x) m ≡ numbered xs m
  numbered-set_other xs n zero x some apart = refl
  numbered-set_other xs n (suc m) x some apart = numbered-set_above xs n (suc m) x some (omega arith) apart

  -- A list of at most four items has none of such a number.
  pub numbered-none : (xs : List X) (n : ℕ) → length xs ≤ 4 → IsNoNumber n → numbered xs n ≡ None
  numbered-none xs n few (inl none) = numbered-zero xs n none
  numbered-none xs n few (inr past) =
      numbered-above xs n (omega arith) ∙ slice_get_past xs (n - 1) (omega arith)

  -- Lists of equal length have items of the same numbers.
  pub numbered-within : (xs : List X) (n : ℕ) (x : X) → numbered xs n ≡ Some x → (n ≢ 0) × (n - 1 < length xs)
  numbered-within xs zero x found = cc
  numbered-within xs (suc n) x found =
      let at : slice_get xs (suc n - 1) ≡ Some x = rw (← numbered-above xs (suc n) (omega arith)) found in
      (omega arith, slice_get_within xs (suc n - 1) x at)

slice_get-both : {X Y : Type 0} (xs : List X) (ys : List Y) (k : ℕ) (x : X) → length ys ≡ length xs
    → slice_get xs k ≡ Some x → (y : Y) × (slice_get ys k ≡ Some y)
slice_get-both [] ys k x same found = cc
slice_get-both (x ∷ xs) [] k z same found = absurd (omega arith)
slice_get-both (x ∷ xs) (y ∷ ys) zero z same found = (y, refl)
slice_get-both (x ∷ xs) (y ∷ ys) (suc k) z same found = slice_get-both xs ys k z (omega arith) found

pub numbered-both : {X Y : Type 0} (xs : List X) (ys : List Y) (n : ℕ) (x : X) → length ys ≡ length xs
    → numbered xs n ≡ Some x → (y : Y) × (numbered ys n ≡ Some y)
numbered-both xs ys n x same found =
    let within = numbered-within xs n x found in
    let at : slice_get xs (n - 1) ≡ Some x = sym (numbered-above xs n within.0) ∙ found in
    let other = slice_get-both xs ys (n - 1) x same at in
    (other.0, numbered-above ys n within.0 ∙ other.1)

-- A property of all items holds of the item with a number.
pub numbered-All : {X : Type 0} (P : X → Type 0) (xs : List X) (n : ℕ) (x : X) → All P xs → numbered xs n ≡ Some x → P x
numbered-All P xs n x all found =
    let within = numbered-within xs n x found in
    let at : slice_get xs (n - 1) ≡ Some x = sym (numbered-above xs n within.0) ∙ found in
    let is : get_or xs (n - 1) x ≡ x = get_or_from_slice_get xs (n - 1) x x at in
    subst P is (all (n - 1) x within.1)
