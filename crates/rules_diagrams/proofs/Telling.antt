-- What choices and spans tell of cells.
use Rattle.std.proofs.Common.{◌≡◌, ℕ, ◌+◌, ◌-◌, ◌/◌, ◌^◌, ◌≤◌, ◌<◌, ◌==◌, ◌&&◌, ◌||◌, nat_le, nat_lt, Bool, true, false, not, List, [], ◌∷◌, ◌++◌, length, take, get_or, Option, Some, None, Result, Ok, Err, IfOk, bit_and, refl, sym, ap, subst, ◌∙◌, arith}
use Rattle.std.proofs.lemmas.Bool.Decides.{nat_tests}
use Rattle.std.proofs.lemmas.Nat.{and_mask, pow_pos, mod_below}
use Rattle.std.proofs.lemmas.List.{take_more}
use Rattle.std.proofs.Math.Nat.{mod-eq_of_lt, pow-le-pow_right}
use Rattle.rules_code.specs.PlainTests.{is_among, is_in, kept_bits}
use Rattle.rules_code.specs.declared.packet_part.Span.{Span}
use Rattle.upc_cell.specs.declared.side.Side.{Side}
use Rattle.rules_cells.specs.Fields.{IsCell, is_so, number_in}
use Rattle.rules_cells.specs.Tests.{is_met}
use Rattle.rules_cells.specs.inner.MetTests.{each_is_met, some_is_met}
use Rattle.rules_cells.specs.declared.field.Field.{Field}
use Rattle.rules_cells.specs.declared.relation.Relation.{Relation}
use Rattle.rules_cells.specs.declared.relation.Relation.TheVariants.{Unequal, Greater, AtLeast}
use Rattle.rules_cells.specs.declared.test.Test.{Test}
use Rattle.rules_diagrams.specs.CellNumbers.{octets_number}
use Rattle.rules_diagrams.specs.inner.Values.{diagram_value, Keeps}
use Rattle.rules_diagrams.specs.inner.Choices.{chosen, IsChoice}
use Rattle.rules_diagrams.specs.inner.Spans.{bits_number, is_between, truth, IsSpan}
use Rattle.rules_diagrams.specs.inner.Tells.{GivesNumber, Tells}
use Rattle.rules_diagrams.specs.inner.Fields.{AreBitsOf}
use Rattle.rules_diagrams.specs.declared.diagram.Diagram.{Diagram}
use Rattle.rules_diagrams.specs.declared.diagram.Diagram.TheVariants.{Leaf}
use Rattle.rules_diagrams.specs.declared.diagram.Node.{Node}
use Rattle.rules_diagrams.specs.declared.span.Bits.{Bits}
use Rattle.rules_diagrams.specs.declared.span.Interval.{Interval}

pub gives_kept : (old new : List Node) (f : List ℕ → ℕ) (diagram : Diagram) → Keeps old new → GivesNumber old f diagram → GivesNumber new f diagram
gives_kept old new f diagram keeps gives =
    let same = keeps.same diagram gives.within in
    record { within = same.within; value = λ cell is. same.value (octets_number cell) ∙ gives.value cell is }

pub gives_same : (nodes : List Node) (f g : List ℕ → ℕ) (diagram : Diagram) → ((cell : List ℕ) → f cell ≡ g cell) → GivesNumber nodes f diagram → GivesNumber nodes g diagram
gives_same nodes f g diagram same gives = record { within = gives.within; value = λ cell is. gives.value cell is ∙ same cell }

-- The same for cells alone.
pub gives_at_cells : (nodes : List Node) (f g : List ℕ → ℕ) (diagram : Diagram) → ((cell : List ℕ) → IsCell cell → f cell ≡ g cell) → GivesNumber nodes f diagram → GivesNumber nodes g diagram
gives_at_cells nodes f g diagram same gives = record { within = gives.within; value = λ cell is. gives.value cell is ∙ same cell is }

-- What a choice gives.
pub choice_gives : (old new : List Node) (test one other made : Diagram) (f g h : List ℕ → ℕ) → Keeps old new → GivesNumber old f test → GivesNumber old g one → GivesNumber old h other
    → IsChoice new test one other made → GivesNumber new (λ cell. chosen (f cell) (g cell) (h cell)) made
choice_gives old new test one other made f g h keeps test_gives one_gives other_gives is =
    let test_now = gives_kept old new f test keeps test_gives in
    let one_now = gives_kept old new g one keeps one_gives in
    let other_now = gives_kept old new h other keeps other_gives in
    record {
      within = is.within;
      value = λ cell there.
          let number = octets_number cell in
          is.value number
          ∙ (ap (λ n. chosen n (diagram_value new one number) (diagram_value new other number)) (test_now.value cell there)
          ∙ (ap (λ n. chosen (f cell) n (diagram_value new other number)) (one_now.value cell there) ∙ ap (λ n. chosen (f cell) (g cell) n) (other_now.value cell there)));
    }

leaf_gives : (nodes : List Node) (n : ℕ) → GivesNumber nodes (λ cell. n) (Leaf n)
leaf_gives nodes n = record { within = tt; value = λ cell is. refl }

not_chosen : (b : Bool) → chosen (truth b) 0 1 ≡ truth (not b)
not_chosen true = refl
not_chosen false = refl

and_chosen : (b c : Bool) → chosen (truth b) (truth c) 0 ≡ truth (c && b)
and_chosen true true = refl
and_chosen true false = refl
and_chosen false true = refl
and_chosen false false = refl

or_chosen : (b c : Bool) → chosen (truth b) 1 (truth c) ≡ truth (c || b)
or_chosen true true = refl
or_chosen true false = refl
or_chosen false true = refl
or_chosen false false = refl

module _ (old new : List Node) (keeps : Keeps old new) {E : Type 0} where
  pub denied_tells : (test : Diagram) (r : Result Diagram E) → IfOk r (IsChoice new test (Leaf 0) (Leaf 1))
      → IfOk r (λ made. (met : List ℕ → Bool) → Tells old met test → Tells new (λ cell. not (met cell)) made)
  denied_tells test (Ok made) is = λ met tells.
      gives_same new (λ cell. chosen (truth (met cell)) 0 1) (λ cell. truth (not (met cell))) made (λ cell. not_chosen (met cell))
      (choice_gives old new test (Leaf 0) (Leaf 1) made (λ cell. truth (met cell)) (λ cell. 0) (λ cell. 1) keeps tells (leaf_gives old 0) (leaf_gives old 1) is)
  denied_tells test (Err e) is = tt

  pub both_tell : (one other : Diagram) (r : Result Diagram E) → IfOk r (IsChoice new one other (Leaf 0))
      → IfOk r (λ made. (met also : List ℕ → Bool) → Tells old met one → Tells old also other → Tells new (λ cell. also cell && met cell) made)
  both_tell one other (Ok made) is = λ met also tells too.
      gives_same new (λ cell. chosen (truth (met cell)) (truth (also cell)) 0) (λ cell. truth (also cell && met cell)) made (λ cell. and_chosen (met cell) (also cell))
      (choice_gives old new one other (Leaf 0) made (λ cell. truth (met cell)) (λ cell. truth (also cell)) (λ cell. 0) keeps tells too (leaf_gives old 0) is)
  both_tell one other (Err e) is = tt

  pub either_tells : (one other : Diagram) (r : Result Diagram E) → IfOk r (IsChoice new one (Leaf 1) other)
      → IfOk r (λ made. (met also : List ℕ → Bool) → Tells old met one → Tells old also other → Tells new (λ cell. also cell || met cell) made)
  either_tells one other (Ok made) is = λ met also tells too.
      gives_same new (λ cell. chosen (truth (met cell)) 1 (truth (also cell))) (λ cell. truth (also cell || met cell)) made (λ cell. or_chosen (met cell) (also cell))
      (choice_gives old new one (Leaf 1) other made (λ cell. truth (met cell)) (λ cell. 1) (λ cell. truth (also cell)) keeps tells (leaf_gives old 1) too is)
  either_tells one other (Err e) is = tt

-- Tests that agree on every cell are told by the same diagrams.
pub tells_by : {E : Type 0} (nodes : List Node) (r : Result Diagram E) (f g : List ℕ → Bool) → ((cell : List ℕ) → f cell ≡ g cell) → IfOk r (Tells nodes f) → IfOk r (Tells nodes g)
tells_by nodes (Ok made) f g same tells = gives_same nodes (λ cell. truth (f cell)) (λ cell. truth (g cell)) made (λ cell. ap truth (same cell)) tells
tells_by nodes (Err e) f g same tells = tt

pub denied_by : {E : Type 0} (old new : List Node) (test : Diagram) (r : Result Diagram E) (f g : List ℕ → Bool) → ((cell : List ℕ) → not (f cell) ≡ g cell) → Tells old f test
    → IfOk r (λ made. (met : List ℕ → Bool) → Tells old met test → Tells new (λ cell. not (met cell)) made) → IfOk r (Tells new g)
denied_by old new test (Ok made) f g same tells is =
    gives_same new (λ cell. truth (not (f cell))) (λ cell. truth (g cell)) made (λ cell. ap truth (same cell)) (is f tells)
denied_by old new test (Err e) f g same tells is = tt

-- ---- fields

below_all : (cell bit width : ℕ) → width ≤ 32 → bits_number cell bit width < 2 ^ 32
unfolding bits_number
below_all cell bit width le =
    let small = mod_below (cell / 2 ^ (416 - (bit + width))) (2 ^ width) (pow_pos width) in
    let power : 2 ^ width ≤ 2 ^ 32 = pow-le-pow_right (omega arith) le in
    omega arith

module _ (nodes : List Node) (side : Side) (field : Field) (bits : Bits) (reach : Interval) (are : AreBitsOf side field bits) {E : Type 0} where
  -- A span of the bits of a field is one of the field.
  pub masked_tells : (mask : ℕ) (r : Result Diagram E) → IfOk r (IsSpan nodes bits mask reach)
      → IfOk r (Tells nodes (λ cell. is_between reach.low reach.end (kept_bits (Some mask) (number_in side field cell))))
  masked_tells mask (Ok made) is = record {
    within = is.within;
    value = λ cell there.
        is.value (octets_number cell) ∙ ap (λ n. truth (is_between reach.low reach.end (bit_and n mask))) (sym (are.number cell there));
  }
  masked_tells mask (Err e) is = tt

  pub whole_tells : (r : Result Diagram E) → IfOk r (IsSpan nodes bits 4294967295 reach)
      → IfOk r (Tells nodes (λ cell. is_between reach.low reach.end (kept_bits None (number_in side field cell))))
  whole_tells (Ok made) is = record {
    within = is.within;
    value = λ cell there.
        let number = bits_number (octets_number cell) bits.bit bits.width in
        let kept : bit_and number 4294967295 ≡ number = and_mask number 32 ∙ mod-eq_of_lt (below_all (octets_number cell) bits.bit bits.width are.width) in
        is.value (octets_number cell) ∙ ap (λ n. truth (is_between reach.low reach.end n)) (kept ∙ sym (are.number cell there));
  }
  whole_tells (Err e) is = tt

  pub reached_some : (mask : Option ℕ) (kept : ℕ) (r : Result Diagram E) → mask ≡ Some kept → IfOk r (IsSpan nodes bits kept reach)
      → IfOk r (Tells nodes (λ cell. is_between reach.low reach.end (kept_bits mask (number_in side field cell))))
  reached_some mask kept r e is =
      subst (λ (m : Option ℕ). IfOk r (Tells nodes (λ cell. is_between reach.low reach.end (kept_bits m (number_in side field cell))))) (sym e) (masked_tells kept r is)

  pub reached_none : (mask : Option ℕ) (r : Result Diagram E) → mask ≡ None → IfOk r (IsSpan nodes bits 4294967295 reach)
      → IfOk r (Tells nodes (λ cell. is_between reach.low reach.end (kept_bits mask (number_in side field cell))))
  reached_none mask r e is =
      subst (λ (m : Option ℕ). IfOk r (Tells nodes (λ cell. is_between reach.low reach.end (kept_bits m (number_in side field cell))))) (sym e) (whole_tells r is)

-- ---- relations

pub within_is : (low high n : ℕ) → is_between low (high + 1) n ≡ (nat_le low n && nat_le n high)
within_is low high n = grind (arith, nat_tests)

pub equal_is : (k n : ℕ) → is_between k (k + 1) n ≡ (n == k)
equal_is k n = grind (arith, nat_tests)

pub below_is : (k n : ℕ) → is_between 0 k n ≡ nat_lt n k
below_is k n = grind (arith, nat_tests)

pub up_to_is : (k n : ℕ) → is_between 0 (k + 1) n ≡ nat_le n k
up_to_is k n = grind (arith, nat_tests)

pub above_is : (k n : ℕ) → not (is_between 0 (k + 1) n) ≡ nat_lt k n
above_is k n = grind (arith, nat_tests)

pub at_least_is : (k n : ℕ) → not (is_between 0 k n) ≡ nat_le k n
at_least_is k n = grind (arith, nat_tests)

pub oam_is : (n : ℕ) → is_between 4 6 n ≡ ((n == 4) || (n == 5))
oam_is n = grind (arith, nat_tests)

pub user_is : (n : ℕ) → is_between 0 4 n ≡ nat_le n 3
user_is n = grind (arith, nat_tests)

-- The same reach, by its bounds.
pub between_same : (low end low' end' n : ℕ) → low ≡ low' → end ≡ end' → is_between low end n ≡ is_between low' end' n
between_same low end low' end' n p q = ap (λ m. is_between m end n) p ∙ ap (λ m. is_between low' m n) q

-- The relations that are denials.
pub unequal_so : (relation : Relation) (k low end n : ℕ) → relation ≡ Unequal k → low ≡ k → end ≡ k + 1 → not (is_between low end n) ≡ is_so relation n
unequal_so relation k low end n e p q = ap not (between_same low end k (k + 1) n p q ∙ equal_is k n) ∙ sym (ap (λ (r : Relation). is_so r n) e)

pub above_so : (relation : Relation) (k low end n : ℕ) → relation ≡ Greater k → low ≡ 0 → end ≡ k + 1 → not (is_between low end n) ≡ is_so relation n
above_so relation k low end n e p q = ap not (between_same low end 0 (k + 1) n p q) ∙ (above_is k n ∙ sym (ap (λ (r : Relation). is_so r n) e))

pub at_least_so : (relation : Relation) (k low end n : ℕ) → relation ≡ AtLeast k → low ≡ 0 → end ≡ k → not (is_between low end n) ≡ is_so relation n
at_least_so relation k low end n e p q = ap not (between_same low end 0 k n p q) ∙ (at_least_is k n ∙ sym (ap (λ (r : Relation). is_so r n) e))

-- ---- lists

or_first : (a b c : Bool) → ((a || b) || c) ≡ (a || (b || c))
or_first true b c = refl
or_first false b c = refl

and_first : (a b c : Bool) → ((a && b) && c) ≡ (a && (b && c))
and_first true b c = refl
and_first false b c = refl

or_none : (a : Bool) → (a || false) ≡ a
or_none true = refl
or_none false = refl

and_all : (a : Bool) → (a && true) ≡ a
and_all true = refl
and_all false = refl

among_push : (spans : List Span) (span : Span) (n : ℕ) → is_among (spans ++ span ∷ []) n ≡ (is_among spans n || is_in span n)
among_push [] span n = or_none (is_in span n)
among_push (first ∷ more) span n =
    ap (λ b. is_in first n || b) (among_push more span n) ∙ sym (or_first (is_in first n) (is_among more n) (is_in span n))

pub among_more : (first : Span) (others : List Span) (i : ℕ) (span : Span) (n : ℕ) → i < length others → span ≡ get_or others i span
    → (is_among (first ∷ take i others) n || is_in span n) ≡ is_among (first ∷ take (i + 1) others) n
among_more first others i span n lt is =
    sym (among_push (first ∷ take i others) span n)
    ∙ ap (λ (ss : List Span). is_among (first ∷ ss) n) (ap (λ (s : Span). take i others ++ s ∷ []) is ∙ sym (take_more others i span lt))

module _ (side : Side) (cell : List ℕ) where
  each_push : (tests : List Test) (test : Test) → each_is_met side (tests ++ test ∷ []) cell ≡ (each_is_met side tests cell && is_met side test cell)
  each_push [] test = and_all (is_met side test cell)
  each_push (first ∷ more) test =
      ap (λ b. is_met side first cell && b) (each_push more test) ∙ sym (and_first (is_met side first cell) (each_is_met side more cell) (is_met side test cell))

  some_push : (tests : List Test) (test : Test) → some_is_met side (tests ++ test ∷ []) cell ≡ (some_is_met side tests cell || is_met side test cell)
  some_push [] test = or_none (is_met side test cell)
  some_push (first ∷ more) test =
      ap (λ b. is_met side first cell || b) (some_push more test) ∙ sym (or_first (is_met side first cell) (some_is_met side more cell) (is_met side test cell))

  pub each_more : (tests : List Test) (i : ℕ) (test : Test) → i < length tests → test ≡ get_or tests i test
      → (each_is_met side (take i tests) cell && is_met side test cell) ≡ each_is_met side (take (i + 1) tests) cell
  each_more tests i test lt is =
      sym (each_push (take i tests) test)
      ∙ ap (λ (ts : List Test). each_is_met side ts cell) (ap (λ (t : Test). take i tests ++ t ∷ []) is ∙ sym (take_more tests i test lt))

  pub some_more : (tests : List Test) (i : ℕ) (test : Test) → i < length tests → test ≡ get_or tests i test
      → (some_is_met side (take i tests) cell || is_met side test cell) ≡ some_is_met side (take (i + 1) tests) cell
  some_more tests i test lt is =
      sym (some_push (take i tests) test)
      ∙ ap (λ (ts : List Test). some_is_met side ts cell) (ap (λ (t : Test). take i tests ++ t ∷ []) is ∙ sym (take_more tests i test lt))

-- ---- one part more

module _ (old middle new : List Node) (so_far one made : Diagram) (keeps : Keeps old middle) where
  pub each_step : (side : Side) (tests : List Test) (i : ℕ) (test : Test) → i < length tests → test ≡ get_or tests i test → Tells old (each_is_met side (take i tests)) so_far
      → Tells middle (is_met side test) one → ((met also : List ℕ → Bool) → Tells middle met one → Tells middle also so_far → Tells new (λ cell. also cell && met cell) made)
      → Tells new (each_is_met side (take (i + 1) tests)) made
  each_step side tests i test lt is before tells joins =
      gives_same new (λ cell. truth (each_is_met side (take i tests) cell && is_met side test cell)) (λ cell. truth (each_is_met side (take (i + 1) tests) cell)) made
      (λ cell. ap truth (each_more side cell tests i test lt is))
      (joins (is_met side test) (each_is_met side (take i tests)) tells (gives_kept old middle (λ cell. truth (each_is_met side (take i tests) cell)) so_far keeps before))

  pub some_step : (side : Side) (tests : List Test) (i : ℕ) (test : Test) → i < length tests → test ≡ get_or tests i test → Tells old (some_is_met side (take i tests)) so_far
      → Tells middle (is_met side test) one → ((met also : List ℕ → Bool) → Tells middle met one → Tells middle also so_far → Tells new (λ cell. also cell || met cell) made)
      → Tells new (some_is_met side (take (i + 1) tests)) made
  some_step side tests i test lt is before tells joins =
      gives_same new (λ cell. truth (some_is_met side (take i tests) cell || is_met side test cell)) (λ cell. truth (some_is_met side (take (i + 1) tests) cell)) made
      (λ cell. ap truth (some_more side cell tests i test lt is))
      (joins (is_met side test) (some_is_met side (take i tests)) tells (gives_kept old middle (λ cell. truth (some_is_met side (take i tests) cell)) so_far keeps before))

  pub among_step : (number : List ℕ → ℕ) (first : Span) (others : List Span) (i : ℕ) (span : Span) (reach : Interval) → i < length others → span ≡ get_or others i span
      → reach.low ≡ span.low → reach.end ≡ span.high + 1 → Tells old (λ cell. is_among (first ∷ take i others) (number cell)) so_far
      → Tells middle (λ cell. is_between reach.low reach.end (number cell)) one
      → ((met also : List ℕ → Bool) → Tells middle met one → Tells middle also so_far → Tells new (λ cell. also cell || met cell) made)
      → Tells new (λ cell. is_among (first ∷ take (i + 1) others) (number cell)) made
  among_step number first others i span reach lt is low end before tells joins =
      let same : (n : ℕ) → is_between reach.low reach.end n ≡ is_in span n = λ n. between_same reach.low reach.end span.low (span.high + 1) n low end ∙ within_is span.low span.high n in
      gives_same new (λ cell. truth (is_among (first ∷ take i others) (number cell) || is_between reach.low reach.end (number cell))) (λ cell. truth (is_among (first ∷ take (i + 1) others) (number cell))) made
      (λ cell. ap truth (ap (λ b. is_among (first ∷ take i others) (number cell) || b) (same (number cell)) ∙ among_more first others i span (number cell) lt is))
      (joins (λ cell. is_between reach.low reach.end (number cell)) (λ cell. is_among (first ∷ take i others) (number cell)) tells
      (gives_kept old middle (λ cell. truth (is_among (first ∷ take i others) (number cell))) so_far keeps before))
