-- `==` on rates, levels and contracts decides equality.
use Rattle.std.specs.Prelude.{◌≡◌, ℕ, ◌+◌, ◌<◌, ◌≤◌, ◌^◌, true, ◌&&◌, ◌==◌, refl}
use Rattle.std.proofs.Common.{◌∙◌, subst, ap}
use Rattle.std.specs.Bool.{Decides}
use Rattle.std.specs.Cmp.{unsigned_Decides}
use Rattle.std.specs.Coded.{le_prop}
use Rattle.std.proofs.lemmas.Bool.{false≢true}
use Rattle.std.proofs.lemmas.Bool.Decides.{Decides-and}
use Rattle.leaky.specs.declared.gcra.Gcra.{Gcra}
use Rattle.leaky.specs.declared.levels.Levels.{Levels}
use Rattle.leaky.specs.declared.contract.Contract.{Contract}
use Rattle.leaky.specs.declared.contract.Contract.TheVariants.{Cbr1, Vbr1, Vbr2, Vbr3}
use Rattle.leaky.specs.Equality.{gcra_eq, levels_eq, contract_eq}

-- Whether two numbers are equal decides equality of what they determine.
numbers-decide : {A : Type 0} (first second : A → ℕ) → ((a b : A) → first a ≡ first b → second a ≡ second b → a ≡ b)
    → (a b : A) → Decides ((first a == first b) && (second a == second b)) (a ≡ b)
numbers-decide first second same a b =
    let both =
    Decides-and (first a == first b) (second a == second b)
    (unsigned_Decides (first a) (first b)) (unsigned_Decides (second a) (second b))
    in (
      λ e. let equal = both.0 e in same a b equal.0 equal.1,
      λ e. both.1 (ap first e, ap second e),
    )

-- The rate with these numbers.
abbrev gcra_of : (increment limit : ℕ) → 0 < increment → increment ≤ 2 ^ 48 → limit ≤ 2 ^ 48 → Gcra
gcra_of increment limit x y z = record {
  increment = increment;
  limit = limit;
  increment_above_zero = x;
  increment_bounded = y;
  limit_bounded = z;
}

-- The proofs of the bounds don't matter.
gcra_of-alike : (a : Gcra) (x : 0 < a.increment) (y : a.increment ≤ 2 ^ 48) (z : a.limit ≤ 2 ^ 48)
    → a ≡ gcra_of a.increment a.limit x y z
gcra_of-alike a x y z = λ i. record {
  increment = a.increment;
  limit = a.limit;
  increment_above_zero = le_prop a.increment_above_zero x i;
  increment_bounded = le_prop a.increment_bounded y i;
  limit_bounded = le_prop a.limit_bounded z i;
}

-- Rates with equal numbers are equal.
pub gcra_same : (a b : Gcra) → a.increment ≡ b.increment → a.limit ≡ b.limit → a ≡ b
gcra_same a b increments limits =
    let OfIncrement : ℕ → Type 0 = λ i.
    (x : 0 < i) (y : i ≤ 2 ^ 48) (z : a.limit ≤ 2 ^ 48) → a ≡ gcra_of i a.limit x y z in
    let OfLimit : ℕ → Type 0 = λ l.
    (x : 0 < b.increment) (y : b.increment ≤ 2 ^ 48) (z : l ≤ 2 ^ 48)
    → a ≡ gcra_of b.increment l x y z in
    let alike = subst OfLimit limits (subst OfIncrement increments (gcra_of-alike a)) in
    alike b.increment_above_zero b.increment_bounded b.limit_bounded

-- `==` decides equality of rates.
pub gcra_eq_decides : (a b : Gcra) → Decides (gcra_eq a b) (a ≡ b)
gcra_eq_decides = numbers-decide (λ rate. rate.increment) (λ rate. rate.limit) gcra_same

-- The levels with these theoretical arrival times.
abbrev levels_of : (first second : ℕ) → first ≤ 2 ^ 62 + 2 ^ 49 → second ≤ 2 ^ 62 + 2 ^ 49 → Levels
levels_of first second x y = record {
  first = first;
  second = second;
  first_bounded = x;
  second_bounded = y;
}

-- The proofs of the bounds don't matter.
levels_of-alike : (a : Levels) (x : a.first ≤ 2 ^ 62 + 2 ^ 49) (y : a.second ≤ 2 ^ 62 + 2 ^ 49)
    → a ≡ levels_of a.first a.second x y
levels_of-alike a x y = λ i. record {
  first = a.first;
  second = a.second;
  first_bounded = le_prop a.first_bounded x i;
  second_bounded = le_prop a.second_bounded y i;
}

-- Levels with equal theoretical arrival times are equal.
pub levels_same : (a b : Levels) → a.first ≡ b.first → a.second ≡ b.second → a ≡ b
levels_same a b firsts seconds =
    let OfFirst : ℕ → Type 0 = λ i.
    (x : i ≤ 2 ^ 62 + 2 ^ 49) (y : a.second ≤ 2 ^ 62 + 2 ^ 49) → a ≡ levels_of i a.second x y in
    let OfSecond : ℕ → Type 0 = λ i.
    (x : b.first ≤ 2 ^ 62 + 2 ^ 49) (y : i ≤ 2 ^ 62 + 2 ^ 49) → a ≡ levels_of b.first i x y in
    let alike = subst OfSecond seconds (subst OfFirst firsts (levels_of-alike a)) in
    alike b.first_bounded b.second_bounded

-- `==` decides equality of levels.
pub levels_eq_decides : (a b : Levels) → Decides (levels_eq a b) (a ≡ b)
levels_eq_decides = numbers-decide (λ levels. levels.first) (λ levels. levels.second) levels_same

-- Two pairs of rates.
pairs-decide : (a b c d : Gcra) → Decides (gcra_eq a c && gcra_eq b d) ((a ≡ c) × (b ≡ d))
pairs-decide a b c d =
    Decides-and (gcra_eq a c) (gcra_eq b d) (gcra_eq_decides a c) (gcra_eq_decides b d)

-- Contracts for which `==` is true are equal.
contract_eq_true : (a b : Contract) → contract_eq a b ≡ true → a ≡ b
contract_eq_true (Cbr1 a) (Cbr1 b) e = ap Cbr1 ((gcra_eq_decides a b).0 e)
contract_eq_true (Vbr1 a b) (Vbr1 c d) e =
    let same = (pairs-decide a b c d).0 e in ap (λ peak. Vbr1 peak b) same.0 ∙ ap (Vbr1 c) same.1
contract_eq_true (Vbr2 a b) (Vbr2 c d) e =
    let same = (pairs-decide a b c d).0 e in ap (λ peak. Vbr2 peak b) same.0 ∙ ap (Vbr2 c) same.1
contract_eq_true (Vbr3 a b) (Vbr3 c d) e =
    let same = (pairs-decide a b c d).0 e in ap (λ peak. Vbr3 peak b) same.0 ∙ ap (Vbr3 c) same.1
contract_eq_true _ _ e = absurd (false≢true e)

-- `==` is true for a contract and itself.
contract_eq_same : (a : Contract) → contract_eq a a ≡ true
contract_eq_same (Cbr1 a) = (gcra_eq_decides a a).1 refl
contract_eq_same (Vbr1 a b) = (pairs-decide a b a b).1 (refl, refl)
contract_eq_same (Vbr2 a b) = (pairs-decide a b a b).1 (refl, refl)
contract_eq_same (Vbr3 a b) = (pairs-decide a b a b).1 (refl, refl)

-- `==` decides equality of contracts.
pub contract_eq_decides : (a b : Contract) → Decides (contract_eq a b) (a ≡ b)
contract_eq_decides a b =
    (contract_eq_true a b, λ e. subst (λ other. contract_eq a other ≡ true) e (contract_eq_same a))
