-- A search among options, step by step.
use Rattle.std.proofs.Common.{◌≡◌, ◌≢◌, ◌≤◌, ◌<◌, ◌+◌, ◌==◌, ℕ, zero, suc, List, length, take, drop, Some, None, arith, refl, ◌∙◌, if◌then◌else◌}
use Rattle.std.proofs.lemmas.Bool.Decides.{nat_tests}
use Rattle.captures.specs.Framing.{half_in_order}
use Rattle.captures.specs.InterfaceOptions.{option_among, option_octets}
use Rattle.captures.specs.declared.format.Order.{Order}
use Rattle.captures.proofs.First.{when_above, when_below}

when_same : {X : Type 0} (a b : ℕ) (x y : X) → a ≡ b → (if a == b then x else y) ≡ x
when_same a b x y same = grind (arith, nat_tests)

when_other : {X : Type 0} (a b : ℕ) (x y : X) → a ≢ b → (if a == b then x else y) ≡ y
when_other a b x y other = grind (arith, nat_tests)

-- Without a whole header, or after the last option, none is found.
pub none_short : (n : ℕ) (order : Order) (code : ℕ) (xs : List ℕ) → length xs < 4 → option_among n order code xs ≡ None
unfolding option_among
none_short zero order code xs short = refl
none_short (suc n) order code xs short = when_below (length xs) 4 _ _ short

pub none_last : (n : ℕ) (order : Order) (code : ℕ) (xs : List ℕ) → 4 ≤ length xs → half_in_order order xs ≡ 0 → option_among n order code xs ≡ None
unfolding option_among
none_last zero order code xs long last = refl
none_last (suc n) order code xs long last = when_above (length xs) 4 _ _ long ∙ when_same (half_in_order order xs) 0 _ _ last

-- Nor if the option ends after the octets.
pub none_cut : (n : ℕ) (order : Order) (code : ℕ) (xs : List ℕ) → 4 ≤ length xs → half_in_order order xs ≢ 0
    → length xs < 4 + half_in_order order (drop 2 xs) → option_among n order code xs ≡ None
unfolding option_among
none_cut zero order code xs long more cut = refl
none_cut (suc n) order code xs long more cut =
    when_above (length xs) 4 _ _ long ∙ when_other (half_in_order order xs) 0 _ _ more
    ∙ when_below (length xs) (4 + half_in_order order (drop 2 xs)) _ _ cut

-- A whole option is found by its code, or the search goes on after it.
pub found : (n : ℕ) (order : Order) (code : ℕ) (xs : List ℕ) → 4 ≤ length xs → half_in_order order xs ≢ 0
    → 4 + half_in_order order (drop 2 xs) ≤ length xs → half_in_order order xs ≡ code
    → option_among (suc n) order code xs ≡ Some (take (half_in_order order (drop 2 xs)) (drop 4 xs))
unfolding option_among
found n order code xs long more whole is =
    when_above (length xs) 4 _ _ long ∙ when_other (half_in_order order xs) 0 _ _ more
    ∙ when_above (length xs) (4 + half_in_order order (drop 2 xs)) _ _ whole
    ∙ when_same (half_in_order order xs) code _ _ is

pub goes_on : (n : ℕ) (order : Order) (code : ℕ) (xs : List ℕ) → 4 ≤ length xs → half_in_order order xs ≢ 0
    → 4 + half_in_order order (drop 2 xs) ≤ length xs → half_in_order order xs ≢ code
    → option_among (suc n) order code xs ≡ option_among n order code (drop (option_octets (half_in_order order (drop 2 xs))) xs)
unfolding option_among
goes_on n order code xs long more whole other =
    when_above (length xs) 4 _ _ long ∙ when_other (half_in_order order xs) 0 _ _ more
    ∙ when_above (length xs) (4 + half_in_order order (drop 2 xs)) _ _ whole
    ∙ when_other (half_in_order order xs) code _ _ other
