-- Totals of tallies.
use Rattle.std.proofs.Common.{◌≡◌, ℕ, zero, suc, ◌+◌, Some, ◌<◌, List, [], ◌∷◌, ◌++◌, length, map, drop, get_or, refl, sym, ap, ◌∙◌, subst, arith}
use Rattle.std.specs.Prelude.{slice_get}
use Rattle.std.proofs.lemmas.List.{drop_more}
use Rattle.std.proofs.lemmas.Option.{same_Some}
use Rattle.leaky.specs.declared.verdict.Verdict.{Verdict}
use Rattle.leaky.specs.declared.verdict.Verdict.TheVariants.{Pass, Tag, Discard, Refuse}
use Rattle.line_record.specs.declared.tally.Tally.{Tally}
use Rattle.line_record.specs.declared.entry.Entry.{Entry}
use Rattle.line_record.specs.Tally.{nothing, counted, cells_in, tally_of, plus, total, FitsWords, IsPartTally}
use Rattle.line_record.specs.Laws.{TotalsCount, TotalsJoin, PartsAreWithin, VerdictsCount, EntriesCount}

tally_is : (one other : Tally) → one.passed ≡ other.passed → one.tagged ≡ other.tagged
    → one.discarded ≡ other.discarded → one.refused ≡ other.refused → one ≡ other
tally_is one other p t d r = λ i. record { passed = p i; tagged = t i; discarded = d i; refused = r i }

plus-counted_left : (one other : Tally) (verdict : Verdict) → plus (counted one verdict) other ≡ counted (plus one other) verdict
plus-counted_left one other Pass = tally_is (plus (counted one Pass) other) (counted (plus one other) Pass) (omega arith) refl refl refl
plus-counted_left one other Tag = tally_is (plus (counted one Tag) other) (counted (plus one other) Tag) refl (omega arith) refl refl
plus-counted_left one other Discard = tally_is (plus (counted one Discard) other) (counted (plus one other) Discard) refl refl (omega arith) refl
plus-counted_left one other Refuse = tally_is (plus (counted one Refuse) other) (counted (plus one other) Refuse) refl refl refl (omega arith)

plus-counted_right : (one other : Tally) (verdict : Verdict) → plus one (counted other verdict) ≡ counted (plus one other) verdict
plus-counted_right one other Pass = tally_is (plus one (counted other Pass)) (counted (plus one other) Pass) (omega arith) refl refl refl
plus-counted_right one other Tag = tally_is (plus one (counted other Tag)) (counted (plus one other) Tag) refl (omega arith) refl refl
plus-counted_right one other Discard = tally_is (plus one (counted other Discard)) (counted (plus one other) Discard) refl refl (omega arith) refl
plus-counted_right one other Refuse = tally_is (plus one (counted other Refuse)) (counted (plus one other) Refuse) refl refl refl (omega arith)

pub totals-count : TotalsCount
totals-count [] place tally verdict at = cc
totals-count (first ∷ later) zero tally verdict at =
    ap (λ (t : Tally). plus (counted t verdict) (total later)) (sym (same_Some first tally at))
    ∙ plus-counted_left first (total later) verdict
totals-count (first ∷ later) (suc place) tally verdict at =
    ap (plus first) (totals-count later place tally verdict at)
    ∙ plus-counted_right first (total later) verdict

-- Sums.

plus-nothing_left : (tally : Tally) → plus nothing tally ≡ tally
plus-nothing_left tally = tally_is (plus nothing tally) tally (omega arith) (omega arith) (omega arith) (omega arith)

pub plus-nothing_right : (tally : Tally) → plus tally nothing ≡ tally
plus-nothing_right tally = tally_is (plus tally nothing) tally (omega arith) (omega arith) (omega arith) (omega arith)

plus_assoc : (one other third : Tally) → plus (plus one other) third ≡ plus one (plus other third)
plus_assoc one other third =
    tally_is (plus (plus one other) third) (plus one (plus other third)) (omega arith) (omega arith) (omega arith) (omega arith)

pub totals-join : TotalsJoin
totals-join [] others = sym (plus-nothing_left (total others))
totals-join (first ∷ later) others =
    ap (plus first) (totals-join later others) ∙ sym (plus_assoc first (total later) (total others))

-- Parts.

IsPart-plus_left : (one other : Tally) → IsPartTally one (plus one other)
IsPart-plus_left one other = record {
  passed = omega arith;
  tagged = omega arith;
  discarded = omega arith;
  refused = omega arith;
}

IsPart-plus_right : (one other : Tally) → IsPartTally other (plus one other)
IsPart-plus_right one other = record {
  passed = omega arith;
  tagged = omega arith;
  discarded = omega arith;
  refused = omega arith;
}

IsPart-trans : (part whole larger : Tally) → IsPartTally part whole → IsPartTally whole larger → IsPartTally part larger
IsPart-trans part whole larger first second = record {
  passed = omega (arith, first.passed, second.passed);
  tagged = omega (arith, first.tagged, second.tagged);
  discarded = omega (arith, first.discarded, second.discarded);
  refused = omega (arith, first.refused, second.refused);
}

IsPart-total : (tallies : List Tally) (place : ℕ) (tally : Tally)
    → slice_get tallies place ≡ Some tally → IsPartTally tally (total tallies)
IsPart-total [] place tally at = cc
IsPart-total (first ∷ later) zero tally at =
    subst (λ (t : Tally). IsPartTally t (total (first ∷ later))) (same_Some first tally at)
    (IsPart-plus_left first (total later))
IsPart-total (first ∷ later) (suc place) tally at =
    IsPart-trans tally (total later) (total (first ∷ later)) (IsPart-total later place tally at)
    (IsPart-plus_right first (total later))

pub parts-within : PartsAreWithin
parts-within = record {
  plus = λ one other. (IsPart-plus_left one other, IsPart-plus_right one other);
  total = IsPart-total;
}

-- The sum so far, and the total of the rest.

pub total-from : (tallies : List Tally) (place : ℕ) (given sum : Tally) → place < length tallies
    → plus sum (total (drop place tallies))
    ≡ plus (plus sum (get_or tallies place given)) (total (drop (place + 1) tallies))
total-from tallies place given sum within =
    ap (λ rest. plus sum (total rest)) (drop_more tallies place given within)
    ∙ sym (plus_assoc sum (get_or tallies place given) (total (drop (place + 1) tallies)))

pub FitsWords-part : (part rest whole : Tally) → plus part rest ≡ whole → FitsWords whole → FitsWords part
FitsWords-part part rest whole is fits =
    let within : IsPartTally part whole = subst (IsPartTally part) is (IsPart-plus_left part rest) in
    record {
      passed = omega (arith, within.passed, fits.passed);
      tagged = omega (arith, within.tagged, fits.tagged);
      discarded = omega (arith, within.discarded, fits.discarded);
      refused = omega (arith, within.refused, fits.refused);
    }

-- Verdicts.

tally_of-append : (verdicts others : List Verdict)
    → tally_of (verdicts ++ others) ≡ plus (tally_of verdicts) (tally_of others)
tally_of-append [] others = sym (plus-nothing_left (tally_of others))
tally_of-append (verdict ∷ later) others =
    ap (λ (t : Tally). counted t verdict) (tally_of-append later others)
    ∙ sym (plus-counted_left (tally_of later) (tally_of others) verdict)

tally_of-next : (verdicts : List Verdict) (verdict : Verdict)
    → tally_of (verdicts ++ verdict ∷ []) ≡ counted (tally_of verdicts) verdict
tally_of-next verdicts verdict =
    tally_of-append verdicts (verdict ∷ [])
    ∙ plus-counted_right (tally_of verdicts) nothing verdict
    ∙ ap (λ (t : Tally). counted t verdict) (plus-nothing_right (tally_of verdicts))

cells_in-counted : (tally : Tally) (verdict : Verdict) → cells_in (counted tally verdict) ≡ suc (cells_in tally)
cells_in-counted tally Pass = omega arith
cells_in-counted tally Tag = omega arith
cells_in-counted tally Discard = omega arith
cells_in-counted tally Refuse = omega arith

cells_in-tally_of : (verdicts : List Verdict) → cells_in (tally_of verdicts) ≡ length verdicts
cells_in-tally_of [] = refl
cells_in-tally_of (verdict ∷ later) =
    cells_in-counted (tally_of later) verdict ∙ ap suc (cells_in-tally_of later)

pub verdicts-count : VerdictsCount
verdicts-count = record { join = tally_of-append; next = tally_of-next; cells = cells_in-tally_of }

pub entries-count : EntriesCount
entries-count counts [] = sym (plus-nothing_right counts)
entries-count counts (entry ∷ later) =
    entries-count (counted counts entry.verdict) later
    ∙ plus-counted_left counts (tally_of (map (λ (e : Entry). e.verdict) later)) entry.verdict
    ∙ sym (plus-counted_right counts (tally_of (map (λ (e : Entry). e.verdict) later)) entry.verdict)
