-- The sets of numbers of meetings.
use Rattle.std.proofs.Common.{Ordering, ◌≡◌, ℕ, zero, suc, ◌<◌, ◌==◌, ◌&&◌, ◌||◌, Bool, true, false, cond, List, [], ◌∷◌, ◌++◌, map, Bor, append_assoc, refl, sym, ap, subst, ◌∙◌, arith}
use Rattle.std.specs.BTreeSet.{BTreeSet, contains}
use Rattle.std.specs.List.{All, AllByRecursion, Contains, list_any}
use Rattle.std.specs.List.Sorted.{IsStrictlySortedBy}
use Rattle.std.specs.Ordering.{is_eq, nat_cmp, ordering_then, MatchOrdering}
use Rattle.std.specs.declared.cmp.Ordering.TheVariants.{Less, Equal, Greater}
use Rattle.std.proofs.lemmas.Bool.Decides.{nat_tests}
use Rattle.std.proofs.lemmas.Cmp.{ranked}
use Rattle.std.proofs.lemmas.List.Elements.{All-nil, All-cons, All-contains}
use Rattle.rules_diagrams.specs.UnusedRules.{AreAscending}
use Rattle.rules_diagrams.specs.inner.Meetings.{has_pair, AreMeetings, IsLeast}
use Rattle.rules_diagrams.specs.inner.Numbers.{AreGivenNumbers, has_one, places_of}
use Rattle.rules_diagrams.specs.inner.Pairs.{ArePairs, pair_cmp}
use Rattle.rules_diagrams.specs.inner.Values.{diagram_value}
use Rattle.rules_diagrams.specs.declared.diagram.Diagram.{Diagram}
use Rattle.rules_diagrams.specs.declared.diagram.Diagram.TheVariants.{Leaf}
use Rattle.rules_diagrams.specs.declared.diagram.Node.{Node}
use Rattle.rules_diagrams.specs.declared.meeting.Both.{Both}
use Rattle.rules_diagrams.specs.declared.meeting.Meeting.{Meeting}

-- ---- equal keys

equal_by : (o : Ordering) (a b : ℕ) → MatchOrdering o (a < b) (a ≡ b) (b < a) → is_eq o ≡ (a == b)
equal_by Less a b lt = grind (arith, nat_tests)
equal_by Equal a b e = grind (arith, nat_tests)
equal_by Greater a b lt = grind (arith, nat_tests)

pub equal_is : (a b : ℕ) → is_eq (nat_cmp a b) ≡ (a == b)
equal_is a b = equal_by (nat_cmp a b) a b (ranked a b (nat_cmp a b) refl)

then_is : (one other : Ordering) → is_eq (ordering_then one other) ≡ (is_eq one && is_eq other)
then_is Less other = refl
then_is Equal other = refl
then_is Greater other = refl

pair_is : (a b x y : ℕ) → is_eq (pair_cmp (a, b) (x, y)) ≡ ((a == x) && (b == y))
pair_is a b x y = then_is (nat_cmp a x) (nat_cmp b y) ∙ (ap (λ t. t && is_eq (nat_cmp b y)) (equal_is a x) ∙ ap (λ t. (a == x) && t) (equal_is b y))

-- ---- pairs

or_swap : (a b c : Bool) → (a || (b || c)) ≡ (b || (a || c))
or_swap true true c = refl
or_swap true false c = refl
or_swap false b c = refl

pair_pushed : (meetings : List Meeting) (meeting : Meeting) (x y : ℕ) → has_pair (meetings ++ meeting ∷ []) x y ≡ (((meeting.one == x) && (meeting.other == y)) || has_pair meetings x y)
pair_pushed [] meeting x y = refl
pair_pushed (first ∷ more) meeting x y =
    ap (λ t. ((first.one == x) && (first.other == y)) || t) (pair_pushed more meeting x y)
    ∙ or_swap ((first.one == x) && (first.other == y)) ((meeting.one == x) && (meeting.other == y)) (has_pair more x y)

or_cond : (b c : Bool) → cond b true c ≡ (b || c)
or_cond true c = refl
or_cond false c = refl

pub pairs_pushed : (pairs after : BTreeSet (ℕ × ℕ)) (meetings more : List Meeting) (meeting : Meeting) → ArePairs pairs meetings
    → ((q : ℕ × ℕ) → contains pair_cmp after q ≡ cond (is_eq (pair_cmp (meeting.one, meeting.other) q)) true (contains pair_cmp pairs q)) → more ≡ meetings ++ meeting ∷ [] → ArePairs after more
pairs_pushed pairs after meetings more meeting are updates is = subst (λ (ms : List Meeting). ArePairs after ms) (sym is) (λ x y.
    updates (x, y) ∙ (or_cond (is_eq (pair_cmp (meeting.one, meeting.other) (x, y))) (contains pair_cmp pairs (x, y))
    ∙ (ap (λ t. t || contains pair_cmp pairs (x, y)) (pair_is meeting.one meeting.other x y)
    ∙ (ap (λ t. ((meeting.one == x) && (meeting.other == y)) || t) (are x y) ∙ sym (pair_pushed meetings meeting x y)))))

pub pairs_as : (pairs after : BTreeSet (ℕ × ℕ)) (meetings same : List Meeting) → after ≡ pairs → same ≡ meetings → ArePairs pairs meetings → ArePairs after same
pairs_as pairs after meetings same e f are =
    subst (λ (ps : BTreeSet (ℕ × ℕ)). ArePairs ps same) (sym e) (subst (λ (ms : List Meeting). ArePairs pairs ms) (sym f) are)

-- ---- the numbers of one diagram

or_left : (a b : Bool) → a ≡ true → (a || b) ≡ true
or_left true b e = refl
or_left false b e = absurd (cc)

or_right : (a b : Bool) → b ≡ true → (a || b) ≡ true
or_right true b e = refl
or_right false b e = e

and_left : (a b : Bool) → (a && b) ≡ true → a ≡ true
and_left true b e = refl
and_left false b e = e

one_of_pair : (meetings : List Meeting) (one other : ℕ) → has_pair meetings one other ≡ true → has_one meetings one ≡ true
one_of_pair [] one other e = e
one_of_pair (first ∷ more) one other e =
    let cases : (b : Bool) → ((first.one == one) && (first.other == other)) ≡ b → has_one (first ∷ more) one ≡ true = elim [
      | true ↦ λ f. or_left (first.one == one) (has_one more one) (and_left (first.one == one) (first.other == other) f)
      | false ↦ λ f.
          let there : has_pair more one other ≡ true = ap (λ c. c || has_pair more one other) (sym f) ∙ e in
          or_right (first.one == one) (has_one more one) (one_of_pair more one other there)
    ] in
    cases ((first.one == one) && (first.other == other)) refl

meeting_of : (meetings : List Meeting) (one : ℕ) → has_one meetings one ≡ true → (m : Meeting) × Contains meetings m × (m.one ≡ one)
meeting_of [] one e = absurd (cc)
meeting_of (first ∷ more) one e =
    let cases : (b : Bool) → (first.one == one) ≡ b → (m : Meeting) × Contains (first ∷ more) m × (m.one ≡ one) = elim [
      | true ↦ λ f. let same : first.one ≡ one = grind (arith, nat_tests) in (first, (0, omega arith, refl), same)
      | false ↦ λ f.
          let there : has_one more one ≡ true = ap (λ c. c || has_one more one) (sym f) ∙ e in
          let found = meeting_of more one there in
          (found.0, (suc found.1.0, omega (arith, found.1.1), found.1.2), found.2)
    ] in
    cases (first.one == one) refl

pub numbers_are : (nodes : List Node) (diagram : Diagram) (both : Both) (meetings : List Meeting) (numbers : BTreeSet ℕ) → both ≡ record { one = diagram; other = Leaf 0 }
    → AreMeetings nodes nodes both meetings → ((n : ℕ) → contains nat_cmp numbers n ≡ has_one meetings n) → AreGivenNumbers nodes diagram numbers
numbers_are nodes diagram both meetings numbers is given same =
    let pair : Both = record { one = diagram; other = Leaf 0 } in
    let are : AreMeetings nodes nodes pair meetings = subst (λ (b : Both). AreMeetings nodes nodes b meetings) is given in
    record {
      each = λ cell. same (diagram_value nodes diagram cell) ∙ one_of_pair meetings (diagram_value nodes diagram cell) 0 (are.each cell);
      only = λ n e.
          let found = meeting_of meetings n (sym (same n) ∙ e) in
          let least = All-contains (IsLeast (diagram_value nodes diagram) (diagram_value nodes (Leaf 0))) meetings found.0 are.least found.1 in
          (found.0.cell, least.cell, least.one_is ∙ found.2);
    }

-- ---- places

first_is : (place k : ℕ) (more : List ℕ) → list_any (λ x. is_eq (nat_cmp (suc place) x)) (k ∷ more) ≡ (((suc place) == k) || list_any (λ x. is_eq (nat_cmp (suc place) x)) more)
first_is place k more = ap (λ t. t || list_any (λ x. is_eq (nat_cmp (suc place) x)) more) (equal_is (suc place) k)

pub place_in : (ks : List ℕ) (place : ℕ) → list_any (λ x. is_eq (nat_cmp (suc place) x)) ks ≡ true → Contains (places_of ks) place
place_in [] place e = absurd (cc)
place_in (zero ∷ more) place e =
    let none : ((suc place) == zero) ≡ false = grind (arith, nat_tests) in
    let there : list_any (λ x. is_eq (nat_cmp (suc place) x)) more ≡ true = ap (λ t. t || list_any (λ x. is_eq (nat_cmp (suc place) x)) more) (sym none) ∙ (sym (first_is place zero more) ∙ e) in
    place_in more place there
place_in (suc k ∷ more) place e =
    let cases : (b : Bool) → ((suc place) == (suc k)) ≡ b → Contains (k ∷ places_of more) place = elim [
      | true ↦ λ f. let same : k ≡ place = grind (arith, nat_tests) in (0, omega arith, same)
      | false ↦ λ f.
          let there : list_any (λ x. is_eq (nat_cmp (suc place) x)) more ≡ true =
          ap (λ t. t || list_any (λ x. is_eq (nat_cmp (suc place) x)) more) (sym f) ∙ (sym (first_is place (suc k) more) ∙ e) in
          let found = place_in more place there in
          (suc found.0, omega (arith, found.1), found.2)
    ] in
    cases ((suc place) == (suc k)) refl

pub all_places : (P : ℕ → Type 0) (ks : List ℕ) → ((place : ℕ) → list_any (λ x. is_eq (nat_cmp (suc place) x)) ks ≡ true → P place) → All P (places_of ks)
all_places P [] each = All-nil P
all_places P (zero ∷ more) each =
    all_places P more (λ place e. each place (first_is place zero more ∙ or_right ((suc place) == zero) (list_any (λ x. is_eq (nat_cmp (suc place) x)) more) e))
all_places P (suc k ∷ more) each =
    let here : ((suc k) == (suc k)) ≡ true = grind (arith, nat_tests) in
    All-cons P k (places_of more) (each k (first_is k (suc k) more ∙ or_left ((suc k) == (suc k)) (list_any (λ x. is_eq (nat_cmp (suc k) x)) more) here))
    (all_places P more (λ place e. each place (first_is place (suc k) more ∙ or_right ((suc place) == (suc k)) (list_any (λ x. is_eq (nat_cmp (suc place) x)) more) e)))

less_is : (a b : ℕ) → nat_cmp a b ≡ Less → a < b
less_is a b e = subst (λ (o : Ordering). MatchOrdering o (a < b) (a ≡ b) (b < a)) e (ranked a b (nat_cmp a b) refl)

later_places : (k : ℕ) (more : List ℕ) → AllByRecursion (λ y. nat_cmp (suc k) y ≡ Less) more → All (λ later. k < later) (places_of more)
later_places k [] all = All-nil (λ later. k < later)
later_places k (zero ∷ more) all = later_places k more all.1
later_places k (suc next ∷ more) all =
    let lt = less_is (suc k) (suc next) all.0 in
    All-cons (λ later. k < later) next (places_of more) (omega (arith, lt)) (later_places k more all.1)

pub places_ascend : (ks : List ℕ) → IsStrictlySortedBy nat_cmp ks → AreAscending (places_of ks)
unfolding IsStrictlySortedBy
places_ascend [] sorted = tt
places_ascend (zero ∷ more) sorted = places_ascend more sorted.1
places_ascend (suc k ∷ more) sorted = (later_places k more sorted.0, places_ascend more sorted.1)

places_cons : (k : ℕ) (ks : List ℕ) → places_of (k ∷ ks) ≡ places_of (k ∷ []) ++ places_of ks
places_cons zero ks = refl
places_cons (suc k) ks = refl

pub places_yielded : (ks : List (Bor ℕ)) (k : Bor ℕ) → places_of (map (λ n. n.now) ks) ++ places_of (k.now ∷ []) ≡ places_of (map (λ n. n.now) (ks ++ k ∷ []))
places_yielded [] k = refl
places_yielded (first ∷ more) k =
    let rest = map {A = Bor ℕ} (λ n. n.now) more in
    ap (λ t. t ++ places_of (k.now ∷ [])) (places_cons first.now rest)
    ∙ (append_assoc (places_of (first.now ∷ [])) (places_of rest) (places_of (k.now ∷ []))
    ∙ (ap (λ t. places_of (first.now ∷ []) ++ t) (places_yielded more k) ∙ sym (places_cons first.now (map {A = Bor ℕ} (λ n. n.now) (more ++ k ∷ [])))))
