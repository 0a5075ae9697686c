-- Spans in their places, and what comparisons come to.
use Rattle.std.proofs.Common.{◌≡◌, ℕ, ◌-◌, ◌*◌, ◌^◌, ◌≤◌, ◌<◌, ◌==◌, min, Bool, true, false, not, ◌&&◌, ◌||◌, nat_le, nat_lt, if◌then◌else◌, List, [], ◌∷◌, map, Option, Some, None, refl, sym, ap, ◌∙◌, arith}
use Rattle.std.proofs.lemmas.Bool.{leb-true, leb-false, le-leb, eqb-true}
use Rattle.std.proofs.lemmas.Bool.Decides.{nat_tests}
use Rattle.std.proofs.Math.Nat.{mul-le-mul_right, le_of_mul-le-mul_right}
use Rattle.rules_code.specs.PlainTests.{is_in, is_among}
use Rattle.rules_code.specs.declared.packet_part.Span.{Span}
use Rattle.rules_cells.specs.PlainOf.{in_place, placed_span, span_of_one, span_below, span_up_to, some_spans}

-- Tests that are true of the same are the same.
bool_same : (x y : Bool) → (x ≡ true → y ≡ true) → (y ≡ true → x ≡ true) → x ≡ y
bool_same true y p q = sym (p refl)
bool_same false true p q = q refl
bool_same false false p q = refl

le_scaled : (a b unit : ℕ) → 0 < unit → nat_le (a * unit) (b * unit) ≡ nat_le a b
le_scaled a b unit pos =
    bool_same (nat_le (a * unit) (b * unit)) (nat_le a b)
    (λ e. let le = leb-true (a * unit) (b * unit) e in le-leb a b (le_of_mul-le-mul_right {m = a} {n = b} {k = unit} le pos))
    (λ e. let le = leb-true a b e in le-leb (a * unit) (b * unit) (mul-le-mul_right {m = a} {n = b} unit le))

in_place_is : (unit most n : ℕ) → n ≤ most → most * unit < 2 ^ 32 → in_place unit n ≡ n * unit
in_place_is unit most n le fits = let small = mul-le-mul_right {m = n} {n = most} unit le in omega arith

cut_off : (number high most : ℕ) → number ≤ most → nat_le number (min high most) ≡ nat_le number high
cut_off number high most le =
    bool_same (nat_le number (min high most)) (nat_le number high)
    (λ e. let less = leb-true number (min high most) e in le-leb number high (omega arith))
    (λ e. let less = leb-true number high e in le-leb number (min high most) (omega arith))

outside : (low high number most : ℕ) → most < low → number ≤ most → false ≡ (nat_le low number && nat_le number high)
outside low high number most lt le = grind (arith, nat_tests)

empty : (number : ℕ) → (nat_le 1 number && nat_le number 0) ≡ false
empty number = grind (arith, nat_tests)

module _ (most unit number : ℕ) (pos : 0 < unit) (le : number ≤ most) (fits : most * unit < 2 ^ 32) where
  within_is : (span : Span) → span.low ≤ most → is_in (record { low = in_place unit span.low; high = in_place unit (min span.high most) }) (number * unit) ≡ is_in span number
  within_is span low =
      let cut : min span.high most ≤ most = omega arith in
      let first = ap (λ n. nat_le n (number * unit)) (in_place_is unit most span.low low fits) ∙ le_scaled span.low number unit pos in
      let last = ap (λ n. nat_le (number * unit) n) (in_place_is unit most (min span.high most) cut fits) ∙ (le_scaled number (min span.high most) unit pos ∙ cut_off number span.high most le) in
      ap (λ b. b && nat_le (number * unit) (in_place unit (min span.high most))) first ∙ ap (λ b. nat_le span.low number && b) last

  placed_by : (b : Bool) (span : Span) → nat_le span.low most ≡ b
      → is_in (if b then record { low = in_place unit span.low; high = in_place unit (min span.high most) } else record { low = 1; high = 0 }) (number * unit) ≡ is_in span number
  placed_by true span e = within_is span (leb-true span.low most e)
  placed_by false span e = let past = leb-false span.low most e in empty (number * unit) ∙ outside span.low span.high number most past le

  -- A span in its place has the number in its place exactly if the span has the number.
  pub among_placed : (spans : List Span) → is_among (map (placed_span (Some most) unit) spans) (number * unit) ≡ is_among spans number
  among_placed [] = refl
  among_placed (span ∷ more) =
      ap (λ b. b || is_among (map (placed_span (Some most) unit) more) (number * unit)) (placed_by (nat_le span.low most) span refl)
      ∙ ap (λ b. is_in span number || b) (among_placed more)

pub among_there : (unit number : ℕ) (spans : List Span) → is_among (map (placed_span None unit) spans) number ≡ is_among spans number
among_there unit number [] = refl
among_there unit number (span ∷ more) = ap (λ b. is_in span number || b) (among_there unit number more)

-- Spans are put in their places one by one.
pub placed_all : (most most' : Option ℕ) (unit unit' : ℕ) (first : Span) (others : List Span) (one : Span) (more : List Span) → most ≡ most' → unit ≡ unit' → one ≡ placed_span most unit first
    → more ≡ map (placed_span most unit) others → one ∷ more ≡ map (placed_span most' unit') (first ∷ others)
placed_all most most' unit unit' first others one more p q e rest =
    ap (λ (s : Span). s ∷ more) e
    ∙ (ap (λ (ss : List Span). placed_span most unit first ∷ ss) rest
    ∙ (ap (λ (m : Option ℕ). map (placed_span m unit) (first ∷ others)) p ∙ ap (λ u. map (placed_span most' u) (first ∷ others)) q))

-- ---- comparisons

pub only_is : (k number : ℕ) → is_among (span_of_one k ∷ []) number ≡ (number == k)
only_is k number = grind (arith, nat_tests)

below_by : (b : Bool) (k number : ℕ) → (k == 0) ≡ b → is_among ((if b then record { low = 1; high = 0 } else record { low = 0; high = k - 1 }) ∷ []) number ≡ nat_lt number k
below_by true k number e = let none = eqb-true k 0 e in grind (arith, nat_tests)
below_by false k number e = grind (arith, nat_tests)

pub below_is : (k number : ℕ) → is_among (span_below k ∷ []) number ≡ nat_lt number k
below_is k number = below_by (k == 0) k number refl

pub up_to_is : (k number : ℕ) → is_among (span_up_to k ∷ []) number ≡ nat_le number k
up_to_is k number = grind (arith, nat_tests)

pub above_is : (k number : ℕ) → not (nat_le number k) ≡ nat_lt k number
above_is k number = grind (arith, nat_tests)

pub at_least_is : (k number : ℕ) → not (nat_lt number k) ≡ nat_le k number
at_least_is k number = grind (arith, nat_tests)

-- ---- lists

pub some_is : (spans : List Span) (number : ℕ) → is_among (some_spans spans) number ≡ is_among spans number
some_is [] number = ap (λ b. b || false) (empty number)
some_is (span ∷ more) number = refl
