-- Numbers at places of a list, of which those beyond its end count as 0.
use Rattle.std.proofs.Common.{◌≡◌, ◌≢◌, ℕ, zero, suc, ◌<◌, List, [], ◌∷◌, ◌++◌, length, replicate, slice_index, refl, arith}
use Rattle.std.proofs.lemmas.List.{length-replicate}
use Rattle.vc_table.specs.inner.Pool.{IsZeros}

pub at_zeros : (n i : ℕ) → slice_index (replicate n 0) i ≡ 0
at_zeros zero i = refl
at_zeros (suc n) zero = refl
at_zeros (suc n) (suc i) = at_zeros n i

-- Zeros at the end change nothing.
pub at-zeros : (xs : List ℕ) (n i : ℕ) → slice_index (xs ++ replicate n 0) i ≡ slice_index xs i
at-zeros [] n i = at_zeros n i
at-zeros (x ∷ xs) n zero = refl
at-zeros (x ∷ xs) n (suc i) = at-zeros xs n i

pub at-zero : (xs : List ℕ) (i : ℕ) → slice_index (xs ++ 0 ∷ []) i ≡ slice_index xs i
at-zero xs i = at-zeros xs 1 i

pub IsZeros-replicate : (n : ℕ) → IsZeros n (replicate n 0)
IsZeros-replicate n = record { counted = length-replicate n 0; zeros = at_zeros n }

-- What a new vector of zeros is.
pub ruleset zero_steps = (IsZeros-replicate)

-- A number that isn't 0 is at a place of the list.
pub at_within : (xs : List ℕ) (i : ℕ) → slice_index xs i ≢ 0 → i < length xs
at_within [] i some = absurd (some refl)
at_within (x ∷ xs) zero some = omega arith
at_within (x ∷ xs) (suc i) some = let rest = at_within xs i some in omega (arith, rest)
