-- A walk through two diagrams finds each pair of numbers with its least cell.
use Rattle.std.proofs.Common.{◌≡◌, ℕ, ◌+◌, ◌-◌, ◌*◌, ◌/◌, ◌%◌, ◌^◌, ◌≤◌, ◌<◌, ◌==◌, ◌&&◌, ◌||◌, Bool, true, false, if◌then◌else◌, List, [], ◌∷◌, ◌++◌, length, slice_set, Option, Some, None, IfSome, refl, sym, ap, subst, ◌∙◌, ◌⊎◌, inl, inr, arith}
use Rattle.std.proofs.lemmas.Bool.{cases_lt, eq-eqb}
use Rattle.std.proofs.lemmas.Bool.Decides.{nat_tests}
use Rattle.std.proofs.lemmas.List.{length-set}
use Rattle.std.proofs.lemmas.Nat.{pow_pos, pow-add}
use Rattle.std.proofs.Math.Pow.{pow_mono}
use Rattle.std.proofs.lemmas.List.Elements.{All-weaker, All-set, All-push, All-nil, All-head, All-tail, All-contains}
use Rattle.std.specs.List.{All, Contains}
use Rattle.rules_diagrams.specs.CellNumbers.{octets_number}
use Rattle.rules_diagrams.specs.inner.CellBits.{is_set}
use Rattle.rules_diagrams.specs.inner.Values.{diagram_value}
use Rattle.rules_diagrams.specs.inner.Meetings.{has_pair, IsLeast, ArePairsApart, AreMeetingsInOrder, AreMeetings}
use Rattle.rules_diagrams.specs.inner.Steps.{AreSides}
use Rattle.rules_diagrams.specs.inner.Walks.{both_top, Covers, AreSeen, IsClearFrom, LeadsToBoth, IsDone, AreBelow, IsWalked, with_meeting}
use Rattle.rules_diagrams.specs.declared.diagram.Diagram.TheVariants.{Leaf}
use Rattle.rules_diagrams.specs.declared.diagram.Node.{Node}
use Rattle.rules_diagrams.specs.declared.meeting.Both.{Both}
use Rattle.rules_diagrams.specs.declared.meeting.Meeting.{Meeting}
use Rattle.rules_diagrams.proofs.CellBits.{before_next, leads_low, leads_high}

-- ---- pairs

or_right : (a b : Bool) → b ≡ true → (a || b) ≡ true
or_right true b e = refl
or_right false b e = e

same_pair : (a b : ℕ) → ((a == a) && (b == b)) ≡ true
same_pair a b = let e = eq-eqb a a refl in let f = eq-eqb b b refl in ap (λ c. c && (b == b)) e ∙ f

pair_kept : (meetings : List Meeting) (meeting : Meeting) (one other : ℕ) → has_pair meetings one other ≡ true → has_pair (meetings ++ meeting ∷ []) one other ≡ true
pair_kept [] meeting one other e = absurd (cc)
pair_kept (first ∷ more) meeting one other e =
    let cases : (b : Bool) → ((first.one == one) && (first.other == other)) ≡ b → has_pair ((first ∷ more) ++ meeting ∷ []) one other ≡ true = elim [
      | true ↦ λ f. ap (λ c. c || has_pair (more ++ meeting ∷ []) one other) f
      | false ↦ λ f.
          let there : has_pair more one other ≡ true = ap (λ c. c || has_pair more one other) (sym f) ∙ e in
          ap (λ c. c || has_pair (more ++ meeting ∷ []) one other) f ∙ pair_kept more meeting one other there
    ] in
    cases ((first.one == one) && (first.other == other)) refl

pair_added : (meetings : List Meeting) (meeting : Meeting) → has_pair (meetings ++ meeting ∷ []) meeting.one meeting.other ≡ true
pair_added [] meeting = ap (λ c. c || false) (same_pair meeting.one meeting.other)
pair_added (first ∷ more) meeting =
    or_right ((first.one == meeting.one) && (first.other == meeting.other)) (has_pair (more ++ meeting ∷ []) meeting.one meeting.other) (pair_added more meeting)

-- What isn't among the meetings with one more.
and_pair : (a b x y : ℕ) → ((a == x) && (b == y)) ≡ ((x == a) && (y == b))
and_pair a b x y = grind (arith, nat_tests)

apart_kept : (meetings : List Meeting) (meeting first : Meeting) → has_pair meetings first.one first.other ≡ false → ((first.one == meeting.one) && (first.other == meeting.other)) ≡ false
    → has_pair (meetings ++ meeting ∷ []) first.one first.other ≡ false
apart_kept [] meeting first e f = ap (λ c. c || false) (and_pair meeting.one meeting.other first.one first.other ∙ f)
apart_kept (next ∷ more) meeting first e f =
    let cases : (b : Bool) → ((next.one == first.one) && (next.other == first.other)) ≡ b → has_pair ((next ∷ more) ++ meeting ∷ []) first.one first.other ≡ false = elim [
      | true ↦ λ g. let there : true ≡ false = ap (λ c. c || has_pair more first.one first.other) (sym g) ∙ e in absurd (cc)
      | false ↦ λ g.
          let rest : has_pair more first.one first.other ≡ false = ap (λ c. c || has_pair more first.one first.other) (sym g) ∙ e in
          ap (λ c. c || has_pair (more ++ meeting ∷ []) first.one first.other) g ∙ apart_kept more meeting first rest f
    ] in
    cases ((next.one == first.one) && (next.other == first.other)) refl

apart_added : (meetings : List Meeting) (meeting : Meeting) → ArePairsApart meetings → has_pair meetings meeting.one meeting.other ≡ false → ArePairsApart (meetings ++ meeting ∷ [])
apart_added [] meeting are e = (refl, tt)
apart_added (first ∷ more) meeting are e =
    let cases : (b : Bool) → ((first.one == meeting.one) && (first.other == meeting.other)) ≡ b → ArePairsApart ((first ∷ more) ++ meeting ∷ []) = elim [
      | true ↦ λ f. let there : true ≡ false = ap (λ c. c || has_pair more meeting.one meeting.other) (sym f) ∙ e in absurd (cc)
      | false ↦ λ f.
          let rest : has_pair more meeting.one meeting.other ≡ false = ap (λ c. c || has_pair more meeting.one meeting.other) (sym f) ∙ e in
          (apart_kept more meeting first are.0 f, apart_added more meeting are.1 rest)
    ] in
    cases ((first.one == meeting.one) && (first.other == meeting.other)) refl

-- ---- the order of cells

below_more : (meetings : List Meeting) (end further : ℕ) → end ≤ further → AreBelow end meetings → AreBelow further meetings
below_more meetings end further le are =
    All-weaker (λ (m : Meeting). octets_number m.cell < end) (λ (m : Meeting). octets_number m.cell < further) (λ m lt. omega arith) meetings are

order_added : (meetings : List Meeting) (meeting : Meeting) → AreMeetingsInOrder meetings → AreBelow (octets_number meeting.cell) meetings → AreMeetingsInOrder (meetings ++ meeting ∷ [])
order_added [] meeting are below = (All-nil (λ (later : Meeting). octets_number meeting.cell < octets_number later.cell), tt)
order_added (first ∷ more) meeting are below =
    let here : octets_number first.cell < octets_number meeting.cell = All-head (λ (m : Meeting). octets_number m.cell < octets_number meeting.cell) first more below in
    let rest : AreBelow (octets_number meeting.cell) more = All-tail (λ (m : Meeting). octets_number m.cell < octets_number meeting.cell) first more below in
    (All-push (λ (later : Meeting). octets_number first.cell < octets_number later.cell) more meeting are.0 here, order_added more meeting are.1 rest)

abbrev Ordered : ℕ → ℕ → List Meeting → List Meeting → Type 0
Ordered at end before after = AreBelow at before → AreMeetingsInOrder before → AreBelow end after × AreMeetingsInOrder after

ordered_kept : (meetings : List Meeting) (at end : ℕ) → at ≤ end → Ordered at end meetings meetings
ordered_kept meetings at end le below are = (below_more meetings at end le below, are)

ordered_added : (meetings : List Meeting) (meeting : Meeting) (end : ℕ) → octets_number meeting.cell < end → Ordered (octets_number meeting.cell) end meetings (meetings ++ meeting ∷ [])
ordered_added meetings meeting end lt below are = (
  All-push (λ (m : Meeting). octets_number m.cell < end) meetings meeting (below_more meetings (octets_number meeting.cell) end (omega arith) below) lt,
  order_added meetings meeting are below,
)

-- ---- what was seen

module _ (one other : List Node) where
  seen_kept : (before after : List Meeting) (seen : List (Option Both)) → ((first second : ℕ) → has_pair before first second ≡ true → has_pair after first second ≡ true)
      → AreSeen one other before seen → AreSeen one other after seen
  seen_kept before after seen grows are = record {
    size = are.size;
    covered = All-weaker (λ (place : Option Both). IfSome place (Covers one other before)) (λ (place : Option Both). IfSome place (Covers one other after))
        (elim [
          | None ↦ λ is. tt
          | Some both ↦ λ is cell. grows (diagram_value one both.one cell) (diagram_value other both.other cell) (is cell)
        ]) seen are.covered;
  }

  seen_more : (meetings : List Meeting) (seen : List (Option Both)) (both : Both) (place : ℕ) → Covers one other meetings both → AreSeen one other meetings seen
      → AreSeen one other meetings (slice_set seen place (Some both))
  seen_more meetings seen both place covers are = record {
    size = length-set seen place (Some both) ∙ are.size;
    covered = All-set (λ (place : Option Both). IfSome place (Covers one other meetings)) seen place (Some both) covers are.covered;
  }

  -- What was seen needs no walk.
  pub walked_seen : (meetings : List Meeting) (seen : List (Option Both)) (both : Both) (at : ℕ) → AreSeen one other meetings seen → Contains seen (Some both)
      → IsWalked one other meetings meetings seen both at
  walked_seen meetings seen both at are has = record {
    seen_are = are;
    grows = λ first second e. e;
    covers = All-contains (λ (place : Option Both). IfSome place (Covers one other meetings)) seen (Some both) are.covered has;
    apart = λ is. is;
    least = λ first second leads done is. is;
    ordered = ordered_kept meetings at (at + 2 ^ (416 - both_top one other both)) (omega arith);
  }

  -- Two leaves have one pair of numbers.
  leaf_by : (b : Bool) (before after : List Meeting) (seen : List (Option Both)) (meeting : Meeting) (both : Both) (place : ℕ) → has_pair before meeting.one meeting.other ≡ b
      → after ≡ (if b then before else before ++ meeting ∷ []) → both ≡ record { one = Leaf meeting.one; other = Leaf meeting.other }
      → IsClearFrom 416 meeting.cell → AreSeen one other before seen → IsWalked one other before after (slice_set seen place (Some both)) both (octets_number meeting.cell)
  leaf_by true before after seen meeting both place there is leaves clear are =
      let covered : Covers one other before (record { one = Leaf meeting.one; other = Leaf meeting.other }) = λ cell. there in
      let covers : Covers one other before both = subst (λ (b : Both). Covers one other before b) (sym leaves) covered in
      subst (λ (ms : List Meeting). IsWalked one other before ms (slice_set seen place (Some both)) both (octets_number meeting.cell)) (sym is) (record {
        seen_are = seen_more before seen both place covers are;
        grows = λ first second e. e;
        covers = covers;
        apart = λ is. is;
        least = λ first second leads done is. is;
        ordered = ordered_kept before (octets_number meeting.cell) (octets_number meeting.cell + 2 ^ (416 - both_top one other both)) (omega arith);
      })
  leaf_by false before after seen meeting both place lacks is leaves clear are =
      let more = before ++ meeting ∷ [] in
      let covered : Covers one other more (record { one = Leaf meeting.one; other = Leaf meeting.other }) = λ cell. pair_added before meeting in
      let covers : Covers one other more both = subst (λ (b : Both). Covers one other more b) (sym leaves) covered in
      let grows : (first second : ℕ) → has_pair before first second ≡ true → has_pair more first second ≡ true = λ first second e. pair_kept before meeting first second e in
      let number = octets_number meeting.cell in
      subst (λ (ms : List Meeting). IsWalked one other before ms (slice_set seen place (Some both)) both number) (sym is) (record {
        seen_are = seen_more more seen both place covers (seen_kept before more seen grows are);
        grows = grows;
        covers = covers;
        apart = λ are. apart_added before meeting are lacks;
        least = λ first second leads done all.
            let led = leads number refl in
            let one_at : diagram_value one both.one number ≡ meeting.one = ap (λ (b : Both). diagram_value one b.one number) leaves in
            let other_at : diagram_value other both.other number ≡ meeting.other = ap (λ (b : Both). diagram_value other b.other number) leaves in
            let here : IsLeast first second meeting = record {
              cell = clear.is;
              one_is = led.0 ∙ one_at;
              other_is = led.1 ∙ other_at;
              least = λ cell p q.
                  let cases : (cell < number) ⊎ (number ≤ cell) → number ≤ cell = elim [
                    | inl lt ↦
                        let there : has_pair before meeting.one meeting.other ≡ true =
                        ap (λ n. has_pair before n meeting.other) (sym p) ∙ (ap (λ n. has_pair before (first cell) n) (sym q) ∙ done cell lt) in
                        absurd (cc)
                    | inr le ↦ le
                  ] in
                  cases (cases_lt cell number);
            } in
            All-push (IsLeast first second) before meeting all here;
        ordered =
            let some = pow_pos (416 - both_top one other both) in
            ordered_added before meeting (number + 2 ^ (416 - both_top one other both)) (omega (arith, some));
      })

  pub walked_leaf : (before after : List Meeting) (seen : List (Option Both)) (meeting : Meeting) (both : Both) (place : ℕ) → after ≡ with_meeting before meeting
      → both ≡ record { one = Leaf meeting.one; other = Leaf meeting.other } → IsClearFrom (both_top one other both) meeting.cell → AreSeen one other before seen
      → IsWalked one other before after (slice_set seen place (Some both)) both (octets_number meeting.cell)
  walked_leaf before after seen meeting both place is leaves clear are =
      let top : both_top one other both ≡ 416 = ap (λ (b : Both). both_top one other b) leaves in
      leaf_by (has_pair before meeting.one meeting.other) before after seen meeting both place refl is leaves (subst (λ n. IsClearFrom n meeting.cell) top clear) are

  -- ---- two sides

  module _ (both low high : Both) (bit at next : ℕ) (lt : bit < 416) (bit_is : bit ≡ both_top one other both) (clear : at % 2 ^ (416 - bit) ≡ 0) (next_is : next ≡ at + 2 ^ (415 - bit))
      (one_sides : AreSides one both.one bit low.one high.one) (other_sides : AreSides other both.other bit low.other high.other) where
    -- The numbers of a cell at the side that it takes.
    side_one : (cell : ℕ) (b : Bool) → is_set cell bit ≡ b → diagram_value one both.one cell ≡ diagram_value one (if b then high.one else low.one) cell
    side_one cell b e = one_sides.value cell ∙ ap (λ (c : Bool). diagram_value one (if c then high.one else low.one) cell) e

    side_other : (cell : ℕ) (b : Bool) → is_set cell bit ≡ b → diagram_value other both.other cell ≡ diagram_value other (if b then high.other else low.other) cell
    side_other cell b e = other_sides.value cell ∙ ap (λ (c : Bool). diagram_value other (if c then high.other else low.other) cell) e

    leads_by : (first second : ℕ → ℕ) → LeadsToBoth one other first second both at → (cell : ℕ) → cell / 2 ^ (416 - bit) ≡ at / 2 ^ (416 - bit)
        → (first cell ≡ diagram_value one both.one cell) × (second cell ≡ diagram_value other both.other cell)
    leads_by first second leads cell e =
        leads cell (subst (λ n. cell / 2 ^ (416 - n) ≡ at / 2 ^ (416 - n)) bit_is e)

    to_low : (first second : ℕ → ℕ) → LeadsToBoth one other first second both at → LeadsToBoth one other first second low at
    to_low first second leads cell e =
        let later : bit < both_top one other low = omega (arith, one_sides.low_later, other_sides.low_later) in
        let is = leads_low bit at lt clear cell (both_top one other low) later (omega arith) e in
        let led = leads_by first second leads cell is.0 in
        (led.0 ∙ side_one cell false is.1, led.1 ∙ side_other cell false is.1)

    to_high : (first second : ℕ → ℕ) → LeadsToBoth one other first second both at → LeadsToBoth one other first second high next
    to_high first second leads cell e =
        let later : bit < both_top one other high = omega (arith, one_sides.high_later, other_sides.high_later) in
        let e' : cell / 2 ^ (416 - both_top one other high) ≡ (at + 2 ^ (415 - bit)) / 2 ^ (416 - both_top one other high) =
        e ∙ ap (λ n. n / 2 ^ (416 - both_top one other high)) next_is in
        let is = leads_high bit at lt clear cell (both_top one other high) later (omega arith) e' in
        let led = leads_by first second leads cell is.0 in
        (led.0 ∙ side_one cell true is.1, led.1 ∙ side_other cell true is.1)

    done_next : (before middle : List Meeting) (first second : ℕ → ℕ) → ((a b : ℕ) → has_pair before a b ≡ true → has_pair middle a b ≡ true) → Covers one other middle low
        → LeadsToBoth one other first second both at → IsDone first second before at → IsDone first second middle next
    done_next before middle first second grows covers leads done cell less =
        let cases : (cell < at) ⊎ (at ≤ cell) → has_pair middle (first cell) (second cell) ≡ true = elim [
          | inl lt' ↦ grows (first cell) (second cell) (done cell lt')
          | inr le ↦
              let is = before_next bit at lt clear cell le (subst (λ n. cell < n) next_is less) in
              let led = leads_by first second leads cell is.0 in
              ap (λ n. has_pair middle n (second cell)) (led.0 ∙ side_one cell false is.1)
              ∙ (ap (λ n. has_pair middle (diagram_value one low.one cell) n) (led.1 ∙ side_other cell false is.1) ∙ covers cell)
        ] in
        cases (cases_lt cell at)

    low_before_next : at + 2 ^ (416 - both_top one other low) ≤ next
    low_before_next =
        let later : bit < both_top one other low = omega (arith, one_sides.low_later, other_sides.low_later) in
        let power : 2 ^ (416 - both_top one other low) ≤ 2 ^ (415 - bit) = pow_mono (omega (arith, later)) in
        omega (arith, power, next_is)

    high_within : next + 2 ^ (416 - both_top one other high) ≤ at + 2 ^ (416 - both_top one other both)
    high_within =
        let later : bit < both_top one other high = omega (arith, one_sides.high_later, other_sides.high_later) in
        let power : 2 ^ (416 - both_top one other high) ≤ 2 ^ (415 - bit) = pow_mono (omega (arith, later)) in
        let e : 416 - bit ≡ 1 + (415 - bit) = omega (arith, lt) in
        let twice : 2 ^ (416 - bit) ≡ 2 * 2 ^ (415 - bit) = ap (λ n. 2 ^ n) e ∙ pow-add 2 1 (415 - bit) in
        let whole : 2 ^ (416 - both_top one other both) ≡ 2 * 2 ^ (415 - bit) = ap (λ n. 2 ^ (416 - n)) (sym bit_is) ∙ twice in
        omega (arith, power, whole, next_is)

    pub walked_sides : (before middle after : List Meeting) (seen between : List (Option Both)) (place : ℕ) → IsWalked one other before middle between low at
        → IsWalked one other middle after seen high next → IsWalked one other before after (slice_set seen place (Some both)) both at
    walked_sides before middle after seen between place low_walked high_walked =
        let covers : Covers one other after both = λ cell.
        let cases : (b : Bool) → is_set cell bit ≡ b → has_pair after (diagram_value one both.one cell) (diagram_value other both.other cell) ≡ true = elim [
          | true ↦ λ e. ap (λ n. has_pair after n (diagram_value other both.other cell)) (side_one cell true e)
              ∙ (ap (λ n. has_pair after (diagram_value one high.one cell) n) (side_other cell true e) ∙ high_walked.covers cell)
          | false ↦ λ e. ap (λ n. has_pair after n (diagram_value other both.other cell)) (side_one cell false e)
              ∙ (ap (λ n. has_pair after (diagram_value one low.one cell) n) (side_other cell false e)
              ∙ high_walked.grows (diagram_value one low.one cell) (diagram_value other low.other cell) (low_walked.covers cell))
        ] in
        cases (is_set cell bit) refl in
        record {
          seen_are = seen_more after seen both place covers high_walked.seen_are;
          grows = λ a b e. high_walked.grows a b (low_walked.grows a b e);
          covers = covers;
          apart = λ are. high_walked.apart (low_walked.apart are);
          least = λ first second leads done all.
              high_walked.least first second (to_high first second leads) (done_next before middle first second low_walked.grows low_walked.covers leads done)
              (low_walked.least first second (to_low first second leads) done all);
          ordered = λ below are.
              let low_is = low_walked.ordered below are in
              let low_end : at + 2 ^ (416 - both_top one other low) ≤ next = low_before_next in
              let high_is = high_walked.ordered (below_more middle (at + 2 ^ (416 - both_top one other low)) next low_end low_is.0) low_is.1 in
              (below_more after (next + 2 ^ (416 - both_top one other high)) (at + 2 ^ (416 - both_top one other both)) high_within high_is.0, high_is.1);
        }

-- The same walk, by what it leaves.
pub walked_as : (one other : List Node) (before after after' : List Meeting) (seen seen' : List (Option Both)) (both : Both) (at : ℕ) → after' ≡ after → seen' ≡ seen
    → IsWalked one other before after seen both at → IsWalked one other before after' seen' both at
walked_as one other before after after' seen seen' both at e f walked =
    subst (λ (ms : List Meeting). IsWalked one other before ms seen' both at) (sym e)
    (subst (λ (ss : List (Option Both)). IsWalked one other before after ss both at) (sym f) walked)

-- ---- the whole walk

pub nothing_are : (one other : List Node) (seen : List (Option Both)) → length seen ≡ 65536 → All (λ (place : Option Both). place ≡ None) seen → AreSeen one other [] seen
nothing_are one other seen size none = record {
  size = size;
  covered = All-weaker (λ (place : Option Both). place ≡ None) (λ (place : Option Both). IfSome place (Covers one other []))
      (λ place e. subst (λ (p : Option Both). IfSome p (Covers one other [])) (sym e) tt) seen none;
}

pub walked_whole : (one other : List Node) (meetings : List Meeting) (seen : List (Option Both)) (both : Both) (at : ℕ) (before : List Meeting) → before ≡ [] → at ≡ 0 → IsWalked one other before meetings seen both at
    → AreMeetings one other both meetings
walked_whole one other meetings seen both at before none zero given =
    let walked : IsWalked one other [] meetings seen both at = subst (λ (ms : List Meeting). IsWalked one other ms meetings seen both at) none given in
    record {
      least = walked.least (diagram_value one both.one) (diagram_value other both.other) (λ cell e. (refl, refl)) (λ cell lt. absurd (omega arith))
          (All-nil (IsLeast (diagram_value one both.one) (diagram_value other both.other)));
      each = walked.covers;
      apart = walked.apart tt;
      ordered = (walked.ordered (All-nil (λ (m : Meeting). octets_number m.cell < at)) tt).1;
    }
