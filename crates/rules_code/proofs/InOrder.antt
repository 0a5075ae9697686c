-- Spans that are sorted by their highest numbers and joined are in order.
use Rattle.std.proofs.Common.{◌≡◌, ℕ, suc, ◌+◌, ◌-◌, ◌≤◌, ◌<◌, min, Bool, true, false, ◌&&◌, ◌||◌, nat_le, nat_lt, if◌then◌else◌, List, [], ◌∷◌, length, drop, get_or, refl, sym, ap, subst, ◌∙◌, arith}
use Rattle.std.proofs.lemmas.Bool.{leb-true, leb-false, ltb-true, ltb-false}
use Rattle.std.proofs.lemmas.Bool.Decides.{nat_tests}
use Rattle.std.proofs.lemmas.List.{drop_more}
use Rattle.std.proofs.lemmas.List.Sorted.{list_any-IsPermutation}
use Rattle.std.specs.List.{list_any}
use Rattle.std.specs.List.Sorted.{IsPermutation, IsNonDecreasingBy}
use Rattle.rules_code.specs.PlainTests.{is_in, is_among}
use Rattle.rules_code.specs.Order.{IsBefore, AreApart, IsOrderOf}
use Rattle.rules_code.specs.inner.Joining.{joined_to, with_span, joined_spans}
use Rattle.rules_code.specs.declared.packet_part.Span.{Span}

-- ---- what a loop puts in front

pub joined_none : (spans : List Span) → spans ≡ [] → [] ≡ joined_spans spans
unfolding joined_spans
joined_none spans e = ap joined_spans (sym e)

pub joined_at : (spans : List Span) (i left : ℕ) (d : Span) (before after : List Span) → i < length spans → i + 1 ≡ left
    → before ≡ joined_spans (drop left spans) → after ≡ with_span (get_or spans i d) before → after ≡ joined_spans (drop i spans)
unfolding joined_spans
joined_at spans i left d before after lt next was is =
    let cut = drop_more spans i d lt ∙ ap (λ n. get_or spans i d ∷ drop n spans) next in
    is ∙ (ap (λ (ss : List Span). with_span (get_or spans i d) ss) was ∙ sym (ap joined_spans cut))

-- ---- the numbers

empty_has : (low high n : ℕ) → high < low → (nat_le low n && nat_le n high) ≡ false
empty_has low high n lt = grind (arith, nat_tests)

one_has : (low high low' high' n : ℕ) → low ≤ high → low' - 1 ≤ high → high ≤ high'
    → (nat_le (min low' low) n && nat_le n high') ≡ ((nat_le low n && nat_le n high) || (nat_le low' n && nat_le n high'))
one_has low high low' high' n some near most = grind (arith, nat_tests)

or_same : (a b c : Bool) → ((a || b) || c) ≡ (a || (b || c))
or_same true b c = refl
or_same false b c = refl

-- Each of the spans ends at this number or later.
abbrev AllFrom : ℕ → List Span → Type 0
AllFrom bound [] = Unit {0}
AllFrom bound (span ∷ more) = (bound ≤ span.high) × AllFrom bound more

-- The first of the spans ends at this number or later.
abbrev FirstFrom : ℕ → List Span → Type 0
FirstFrom bound [] = Unit {0}
FirstFrom bound (span ∷ more) = bound ≤ span.high

-- None of the spans ends before those in front of it.
abbrev Rises : List Span → Type 0
Rises [] = Unit {0}
Rises (span ∷ more) = AllFrom span.high more × Rises more

record IsFit (span : Span) (spans new : List Span) : Type 0 where
  apart : AreApart new
  same : (n : ℕ) → is_among new n ≡ (is_in span n || is_among spans n)
  from : (bound : ℕ) → bound ≤ span.high → FirstFrom bound spans → FirstFrom bound new

before_same : (one other : Span) (more : List Span) → one.high ≡ other.high → IsBefore one more → IsBefore other more
before_same one other [] e before = tt
before_same one other (next ∷ more) e before = omega arith

near_fit : (b : Bool) (span next : Span) (more : List Span) → nat_le (next.low - 1) span.high ≡ b → span.low ≤ span.high → AreApart (next ∷ more) → span.high ≤ next.high
    → IsFit span (next ∷ more) (if b then record { low = min next.low span.low; high = next.high } ∷ more else span ∷ next ∷ more)
near_fit true span next more e some apart most =
    let near = leb-true (next.low - 1) span.high e in
    record {
      apart = (omega arith, before_same next (record { low = min next.low span.low; high = next.high }) more refl apart.1, apart.2);
      same = λ n.
          ap (λ b. b || is_among more n) (one_has span.low span.high next.low next.high n some near most) ∙ or_same (is_in span n) (is_in next n) (is_among more n);
      from = λ bound le first. first;
    }
near_fit false span next more e some apart most =
    let far = leb-false (next.low - 1) span.high e in
    record {
      apart = (some, omega arith, apart);
      same = λ n. refl;
      from = λ bound le first. le;
    }

join_fit : (span : Span) (spans : List Span) → span.low ≤ span.high → AreApart spans → FirstFrom span.high spans → IsFit span spans (joined_to span spans)
join_fit span [] some apart first = record { apart = (some, tt, tt); same = λ n. refl; from = λ bound le f. le }
join_fit span (next ∷ more) some apart first = near_fit (nat_le (next.low - 1) span.high) span next more refl some apart first

span_fit : (b : Bool) (span : Span) (spans : List Span) → nat_lt span.high span.low ≡ b → AreApart spans → FirstFrom span.high spans → IsFit span spans (if b then spans else joined_to span spans)
span_fit true span spans e apart first =
    let none = ltb-true span.high span.low e in
    record {
      apart = apart;
      same = λ n. ap (λ b. b || is_among spans n) (sym (empty_has span.low span.high n none));
      from = λ bound le f. f;
    }
span_fit false span spans e apart first = let some = ltb-false span.high span.low e in join_fit span spans (omega arith) apart first

record AreFit (spans new : List Span) : Type 0 where
  apart : AreApart new
  same : (n : ℕ) → is_among new n ≡ is_among spans n
  from : (bound : ℕ) → AllFrom bound spans → FirstFrom bound new

all_fit : (spans : List Span) → Rises spans → AreFit spans (joined_spans spans)
unfolding joined_spans
all_fit [] rises = record { apart = tt; same = λ n. refl; from = λ bound all. tt }
all_fit (span ∷ more) rises =
    let later = all_fit more rises.1 in
    let fit = span_fit (nat_lt span.high span.low) span (joined_spans more) refl later.apart (later.from span.high rises.0) in
    record {
      apart = fit.apart;
      same = λ n. fit.same n ∙ ap (λ b. is_in span n || b) (later.same n);
      from = λ bound all. fit.from bound all.0 (later.from bound all.1);
    }

-- ---- from the sort

abbrev by_high : Span → ℕ
by_high span = span.high

all_from : (bound : ℕ) (spans : List Span) → ((j : ℕ) (d : Span) → j < length spans → bound ≤ by_high (get_or spans j d)) → AllFrom bound spans
all_from bound [] each = tt
all_from bound (span ∷ more) each = (each 0 span (omega arith), all_from bound more (λ j d lt. each (suc j) d (omega arith)))

rises : (spans : List Span) → IsNonDecreasingBy by_high spans → Rises spans
rises [] up = tt
rises (span ∷ more) up = (
  all_from span.high more (λ j d lt. up 0 (suc j) d (omega arith) (omega arith)),
  rises more (λ i j d le lt. up (suc i) (suc j) d (omega arith) (omega arith)),
)

any_is : (spans : List Span) (n : ℕ) → is_among spans n ≡ list_any (λ span. is_in span n) spans
any_is [] n = refl
any_is (span ∷ more) n = ap (λ b. is_in span n || b) (any_is more n)

pub ordered : (spans sorted new : List Span) → IsPermutation spans sorted → IsNonDecreasingBy (λ span. span.high) sorted → new ≡ joined_spans sorted → IsOrderOf spans new
ordered spans sorted new moved up is =
    let fit = all_fit sorted (rises sorted up) in
    record {
      apart = subst (λ (ss : List Span). AreApart ss) (sym is) fit.apart;
      same = λ n.
          ap (λ (ss : List Span). is_among ss n) is
          ∙ (fit.same n ∙ (any_is sorted n ∙ (sym (list_any-IsPermutation (λ span. is_in span n) spans sorted moved) ∙ sym (any_is spans n))));
    }
