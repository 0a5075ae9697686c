-- The test of spans.
use Rattle.std.proofs.Common.{◌≡◌, ℕ, ◌==◌, Bool, true, false, not, ◌&&◌, ◌||◌, ◌≤◌, nat_le, nat_lt, if◌then◌else◌, List, [], ◌∷◌, length, Option, Some, None, refl, sym, subst, arith}
use Rattle.std.proofs.lemmas.Bool.{eqb-true, leb-true}
use Rattle.std.proofs.lemmas.Bool.Decides.{nat_tests}
use Rattle.bpf_code.specs.declared.instr.Instr.{Instr}
use Rattle.bpf_code.specs.declared.instr.Test.TheVariants.{Eq, Gt, Ge}
use Rattle.rules_code.specs.Labels.{Tested, branched}
use Rattle.rules_code.specs.inner.Suffixes.{suffix_at}
use Rattle.rules_code.specs.PlainTests.{is_in, is_among}
use Rattle.rules_code.specs.TestCode.{is_top, turned, with_lower, span_code, spans_from, spans_code}
use Rattle.rules_code.specs.declared.packet_part.Span.{Span}
use Rattle.rules_code.proofs.Suffixes.{Gives}
use Rattle.rules_code.proofs.Growing.{IsLabel, IsWell, extends_self, extends_more, gives_kept, label_kept}
use Rattle.rules_code.proofs.Branches.{branched_well, branched_front, branched_gives}

-- What is true of both of two tests is true of the chosen one.
pub choose : (P : Tested → Type 0) (b : Bool) (t u : Tested) → (b ≡ true → P t) → (b ≡ false → P u) → P (if b then t else u)
choose P true t u p q = p refl
choose P false t u p q = q refl

pub turned_well : (code : List Instr) (met unmet : ℕ) (t : Tested) → IsWell code met unmet t → IsWell code unmet met (turned t)
turned_well code met unmet t w = record {
  extends = w.extends;
  entry = w.entry;
  met_is = w.unmet_is;
  unmet_is = w.met_is;
  met_leads = w.unmet_leads;
  unmet_leads = w.met_leads;
}

-- ---- the outcomes of comparisons

equal_side : (a low high : ℕ) → low ≡ high → (nat_le low a && nat_le a high) ≡ (a == low)
equal_side a low high e = grind (arith, nat_tests)

upper_side : (a low high : ℕ) → low ≡ 0 → (nat_le low a && nat_le a high) ≡ not (nat_lt high a)
upper_side a low high e = grind (arith, nat_tests)

above_side : (a high : ℕ) → nat_le a high ≡ not (nat_lt high a)
above_side a high = grind (arith, nat_tests)

not_side : (b : Bool) (met unmet : ℕ) → (if not b then met else unmet) ≡ (if b then unmet else met)
not_side true met unmet = refl
not_side false met unmet = refl

module _ (packet : List ℕ) (a value : ℕ) where
  -- A side may be named by an equal outcome.
  pub as_side : (b c : Bool) (code : List Instr) (met unmet : ℕ) → b ≡ c → Gives packet (suffix_at code (if b then met else unmet)) a value → Gives packet (suffix_at code (if c then met else unmet)) a value
  as_side b c code met unmet e given = subst (λ (d : Bool). Gives packet (suffix_at code (if d then met else unmet)) a value) e given

  pub turned_side : (b c : Bool) (code : List Instr) (met unmet : ℕ) → b ≡ not c → Gives packet (suffix_at code (if b then met else unmet)) a value → Gives packet (suffix_at code (if c then unmet else met)) a value
  turned_side b c code met unmet e given =
      subst (λ (label : ℕ). Gives packet (suffix_at code label) a value) (not_side c met unmet) (as_side b (not c) code met unmet e given)

  lower_side : (x y : Bool) (code next : List Instr) (met unmet entry unmet' : ℕ)
      → (Gives packet (suffix_at code (if y then met else unmet)) a value → Gives packet (suffix_at next entry) a value)
      → (Gives packet (suffix_at code unmet) a value → Gives packet (suffix_at next unmet') a value)
      → Gives packet (suffix_at code (if x && y then met else unmet)) a value → Gives packet (suffix_at next (if x then entry else unmet')) a value
  lower_side true y code next met unmet entry unmet' p q given = p given
  lower_side false y code next met unmet entry unmet' p q given = q given

  first_side : (x y : Bool) (code next : List Instr) (met unmet met' entry : ℕ)
      → (Gives packet (suffix_at code met) a value → Gives packet (suffix_at next met') a value)
      → (Gives packet (suffix_at code (if y then met else unmet)) a value → Gives packet (suffix_at next entry) a value)
      → Gives packet (suffix_at code (if x || y then met else unmet)) a value → Gives packet (suffix_at next (if x then met' else entry)) a value
  first_side true y code next met unmet met' entry p q given = p given
  first_side false y code next met unmet met' entry p q given = q given

-- A number with bits of a mask, if there is one.
abbrev pub IsBelow : Option ℕ → ℕ → Type 0
IsBelow None a = Unit {0}
IsBelow (Some mask) a = a ≤ mask

top_side : (mask : Option ℕ) (a low high : ℕ) → IsBelow mask a → is_top mask high ≡ true → (nat_le low a && nat_le a high) ≡ nat_le low a
top_side None a low high below e = absurd cc
top_side (Some mask) a low high below e = let most = leb-true mask high e in grind (arith, nat_tests)

-- ---- one span

module _ (low : ℕ) (code : List Instr) (met unmet : ℕ) (upper : Tested) (w : IsWell code met unmet upper) where
  lower_well : IsWell upper.code upper.ways.entry upper.ways.unmet (branched Ge low upper.code upper.ways.entry upper.ways.unmet)
  lower_well = branched_well Ge low upper.code upper.ways.entry upper.ways.unmet w.entry w.unmet_is

  pub with_lower_well : IsWell code met unmet (with_lower low upper)
  with_lower_well =
      let lower = branched Ge low upper.code upper.ways.entry upper.ways.unmet in
      let v = lower_well in
      record {
        extends = extends_more code upper.code lower.code w.extends v.extends;
        entry = v.entry;
        met_is = label_kept upper.code lower.code upper.ways.met v.extends w.met_is;
        unmet_is = v.unmet_is;
        met_leads = λ packet a value given. gives_kept packet upper.code lower.code upper.ways.met a value v.extends w.met_is (w.met_leads packet a value given);
        unmet_leads = λ packet a value given. v.unmet_leads packet a value (w.unmet_leads packet a value given);
      }

module _ (mask : Option ℕ) (span : Span) (code : List Instr) (met unmet : ℕ) (met_is : IsLabel code met) (unmet_is : IsLabel code unmet) where
  upper_well : IsWell code met unmet (turned (branched Gt span.high code unmet met))
  upper_well = turned_well code unmet met (branched Gt span.high code unmet met) (branched_well Gt span.high code unmet met unmet_is met_is)

  -- What is true of each of the four forms is true of the test of the span.
  of_forms : (P : Tested → Type 0) → (span.low ≡ span.high → P (branched Eq span.low code met unmet)) → (span.low ≡ 0 → P (turned (branched Gt span.high code unmet met)))
      → (is_top mask span.high ≡ true → P (branched Ge span.low code met unmet))
      → P (with_lower span.low (turned (branched Gt span.high code unmet met))) → P (span_code mask span code met unmet)
  unfolding span_code
  of_forms P p q s r =
      let two = with_lower span.low (turned (branched Gt span.high code unmet met)) in
      let upper = if is_top mask span.high then branched Ge span.low code met unmet else two in
      choose P (span.low == span.high) (branched Eq span.low code met unmet) (if span.low == 0 then turned (branched Gt span.high code unmet met) else upper)
      (λ e. p (eqb-true span.low span.high e))
      (λ e. choose P (span.low == 0) (turned (branched Gt span.high code unmet met)) upper (λ e. q (eqb-true span.low 0 e))
      (λ e. choose P (is_top mask span.high) (branched Ge span.low code met unmet) two s (λ e. r)))

  pub span_well : IsWell code met unmet (span_code mask span code met unmet)
  span_well =
      of_forms (λ t. IsWell code met unmet t) (λ e. branched_well Eq span.low code met unmet met_is unmet_is) (λ e. upper_well) (λ e. branched_well Ge span.low code met unmet met_is unmet_is)
      (with_lower_well span.low code met unmet (turned (branched Gt span.high code unmet met)) upper_well)

  pub span_front : (span_code mask span code met unmet).ways.entry ≡ length (span_code mask span code met unmet).code
  span_front =
      let upper = turned (branched Gt span.high code unmet met) in
      of_forms (λ t. t.ways.entry ≡ length t.code) (λ e. branched_front Eq span.low code met unmet met_is unmet_is) (λ e. branched_front Gt span.high code unmet met unmet_is met_is)
      (λ e. branched_front Ge span.low code met unmet met_is unmet_is)
      (branched_front Ge span.low upper.code upper.ways.entry upper.ways.unmet upper_well.entry upper_well.unmet_is)

  module _ (packet : List ℕ) (a value : ℕ) where
    upper_gives : (b : Bool) → b ≡ not (nat_lt span.high a) → Gives packet (suffix_at code (if b then met else unmet)) a value
        → Gives packet (suffix_at (branched Gt span.high code unmet met).code (branched Gt span.high code unmet met).ways.entry) a value
    upper_gives b e given = branched_gives Gt span.high code unmet met unmet_is met_is packet a value (turned_side packet a value b (nat_lt span.high a) code met unmet e given)

    pub span_gives : IsBelow mask a → Gives packet (suffix_at code (if is_in span a then met else unmet)) a value
        → Gives packet (suffix_at (span_code mask span code met unmet).code (span_code mask span code met unmet).ways.entry) a value
    span_gives below given =
        let upper = turned (branched Gt span.high code unmet met) in
        of_forms (λ t. Gives packet (suffix_at t.code t.ways.entry) a value)
        (λ e. branched_gives Eq span.low code met unmet met_is unmet_is packet a value (as_side packet a value (is_in span a) (a == span.low) code met unmet (equal_side a span.low span.high e) given))
        (λ e. upper_gives (is_in span a) (upper_side a span.low span.high e) given)
        (λ e. branched_gives Ge span.low code met unmet met_is unmet_is packet a value (as_side packet a value (is_in span a) (nat_le span.low a) code met unmet (top_side mask a span.low span.high below e) given))
        (branched_gives Ge span.low upper.code upper.ways.entry upper.ways.unmet upper_well.entry upper_well.unmet_is packet a value
        (lower_side packet a value (nat_le span.low a) (nat_le a span.high) code upper.code met unmet upper.ways.entry upper.ways.unmet
        (upper_gives (nat_le a span.high) (above_side a span.high)) (upper_well.unmet_leads packet a value) given))

-- ---- spans

module _ (code : List Instr) (met unmet : ℕ) (more : Tested) (w : IsWell code met unmet more) (mask : Option ℕ) (span : Span) where
  before_well : IsWell more.code more.ways.met more.ways.entry (span_code mask span more.code more.ways.met more.ways.entry)
  before_well = span_well mask span more.code more.ways.met more.ways.entry w.met_is w.entry

  -- The label for a number that is in no span.
  unmet_leads_both : (b : Bool) → (b ≡ true → more.ways.entry ≡ more.ways.unmet) → (packet : List ℕ) (a value : ℕ) → Gives packet (suffix_at code unmet) a value
      → Gives packet (suffix_at (span_code mask span more.code more.ways.met more.ways.entry).code (if b then (span_code mask span more.code more.ways.met more.ways.entry).ways.unmet else more.ways.unmet)) a value
  unmet_leads_both true e packet a value given =
      before_well.unmet_leads packet a value (subst (λ (label : ℕ). Gives packet (suffix_at more.code label) a value) (sym (e refl)) (w.unmet_leads packet a value given))
  unmet_leads_both false e packet a value given =
      gives_kept packet more.code (span_code mask span more.code more.ways.met more.ways.entry).code more.ways.unmet a value before_well.extends w.unmet_is (w.unmet_leads packet a value given)

  unmet_is_both : (b : Bool) → IsLabel (span_code mask span more.code more.ways.met more.ways.entry).code (if b then (span_code mask span more.code more.ways.met more.ways.entry).ways.unmet else more.ways.unmet)
  unmet_is_both true = before_well.unmet_is
  unmet_is_both false = label_kept more.code (span_code mask span more.code more.ways.met more.ways.entry).code more.ways.unmet before_well.extends w.unmet_is

  pub spans_from_well : IsWell code met unmet (spans_from mask span more)
  unfolding spans_from
  spans_from_well =
      let v = before_well in
      record {
        extends = extends_more code more.code (span_code mask span more.code more.ways.met more.ways.entry).code w.extends v.extends;
        entry = v.entry;
        met_is = v.met_is;
        unmet_is = unmet_is_both (more.ways.entry == more.ways.unmet);
        met_leads = λ packet a value given. v.met_leads packet a value (w.met_leads packet a value given);
        unmet_leads = unmet_leads_both (more.ways.entry == more.ways.unmet) (eqb-true more.ways.entry more.ways.unmet);
      }

  pub spans_from_front : (spans_from mask span more).ways.entry ≡ length (spans_from mask span more).code
  unfolding spans_from
  spans_from_front = span_front mask span more.code more.ways.met more.ways.entry w.met_is w.entry

  pub spans_from_gives : (packet : List ℕ) (a value : ℕ) → IsBelow mask a → (y : Bool)
      → (Gives packet (suffix_at code (if y then met else unmet)) a value → Gives packet (suffix_at more.code more.ways.entry) a value)
      → Gives packet (suffix_at code (if is_in span a || y then met else unmet)) a value → Gives packet (suffix_at (spans_from mask span more).code (spans_from mask span more).ways.entry) a value
  unfolding spans_from
  spans_from_gives packet a value below y later given =
      span_gives mask span more.code more.ways.met more.ways.entry w.met_is w.entry packet a value below
      (first_side packet a value (is_in span a) y code more.code met unmet more.ways.met more.ways.entry (w.met_leads packet a value) later given)

module _ (mask : Option ℕ) (code : List Instr) (met unmet : ℕ) (met_is : IsLabel code met) (unmet_is : IsLabel code unmet) where
  pub spans_well : (spans : List Span) → IsWell code met unmet (spans_code mask spans code met unmet)
  unfolding spans_code
  spans_well [] = record {
    extends = extends_self code;
    entry = unmet_is;
    met_is = met_is;
    unmet_is = unmet_is;
    met_leads = λ packet a value given. given;
    unmet_leads = λ packet a value given. given;
  }
  spans_well (span ∷ more) = spans_from_well code met unmet (spans_code mask more code met unmet) (spans_well more) mask span

  pub spans_front : (span : Span) (more : List Span) → (spans_code mask (span ∷ more) code met unmet).ways.entry ≡ length (spans_code mask (span ∷ more) code met unmet).code
  unfolding spans_code
  spans_front span more = spans_from_front code met unmet (spans_code mask more code met unmet) (spans_well more) mask span

  pub spans_gives : (spans : List Span) (packet : List ℕ) (a value : ℕ) → IsBelow mask a → Gives packet (suffix_at code (if is_among spans a then met else unmet)) a value
      → Gives packet (suffix_at (spans_code mask spans code met unmet).code (spans_code mask spans code met unmet).ways.entry) a value
  unfolding spans_code
  spans_gives [] packet a value below given = given
  spans_gives (span ∷ more) packet a value below given =
      spans_from_gives code met unmet (spans_code mask more code met unmet) (spans_well more) mask span packet a value below (is_among more a) (spans_gives more packet a value below) given
