-- Which cells charge which bucket, and that each of them conformed.
use Rattle.std.proofs.Common.{◌≡◌, ◌≢◌, ℕ, Bool, true, false, cond, Option, Some, None, List, [], ◌∷◌, map, refl, ap, ◌+◌, arith}
use Rattle.leaky.specs.declared.gcra.Gcra.{Gcra}
use Rattle.leaky.specs.declared.contract.Contract.{Contract}
use Rattle.leaky.specs.declared.contract.Contract.TheVariants.{Cbr1, Vbr1, Vbr2, Vbr3}
use Rattle.leaky.specs.declared.verdict.Verdict.{Verdict}
use Rattle.leaky.specs.declared.verdict.Verdict.TheVariants.{Pass, Tag, Discard, Refuse}
use Rattle.leaky.specs.Moments.{GoesOn}
use Rattle.leaky.specs.Bucket.{level_at, conforms, filled}
use Rattle.leaky.specs.Bursts.{AllFill, Fills}
use Rattle.leaky.specs.Contract.{Buckets, peak_of, sustained_of, verdict_over_second, conforms_if_met, verdict_of, charged_under, buckets_after}
use Rattle.leaky.specs.Arrivals.{Arrival, charges_first, is_passed, charges_second, first_charges, second_charges}
use Rattle.leaky.specs.Laws.{IsBounded, ContractsBoundBursts, ChargesAreFillings, FillingsShow, TaggedCellsCameUntagged}
use Rattle.leaky.proofs.BurstLemmas.{fillings-bounded, GoesOn-some, AllFill-some}

-- Bucket 1.

-- A cell that charges bucket 1 conforms to it.
first-conforms : (b c : Bool) (excess : Verdict)
    → charges_first (cond b (cond c Pass excess) Discard) ≡ true → b ≡ true
first-conforms true c excess e = refl
first-conforms false c excess e = e

-- And fills it.
first-filled : (verdict : Verdict) (peak : Gcra) (sustained : Option Gcra) (buckets : Buckets) (moment : ℕ)
    → charges_first verdict ≡ true
    → (charged_under verdict peak sustained buckets moment).first ≡ filled peak buckets.first moment
first-filled Pass peak sustained buckets moment e = refl
first-filled Tag peak sustained buckets moment e = refl
first-filled Discard peak sustained buckets moment e = cc
first-filled Refuse peak sustained buckets moment e = cc

-- Any other leaves it unchanged.
first-left : (verdict : Verdict) (peak : Gcra) (sustained : Option Gcra) (buckets : Buckets) (moment : ℕ)
    → charges_first verdict ≡ false
    → (charged_under verdict peak sustained buckets moment).first ≡ buckets.first
first-left Pass peak sustained buckets moment e = cc
first-left Tag peak sustained buckets moment e = cc
first-left Discard peak sustained buckets moment e = refl
first-left Refuse peak sustained buckets moment e = refl

FillsFirst : (contract : Contract) (buckets : Buckets) (clp : Bool) (moment : ℕ)
    → Fills (peak_of contract) buckets.first (buckets_after contract buckets clp moment).first moment
    (charges_first (verdict_of contract buckets clp moment))
FillsFirst contract buckets clp moment =
    let peak = peak_of contract in
    let sustained = sustained_of contract clp in
    let verdict = verdict_of contract buckets clp moment in
    let admitted = conforms_if_met sustained buckets.second moment in
    record {
      fills = λ e. (
        first-conforms (conforms peak buckets.first moment) admitted (verdict_over_second contract) e,
        first-filled verdict peak sustained buckets moment e,
      );
      leaves = first-left verdict peak sustained buckets moment;
    }

first_charges-goes : (contract : Contract) (buckets : Buckets) (earliest : ℕ) (arrivals : List Arrival)
    → GoesOn earliest (map (λ a. a.moment) arrivals)
    → GoesOn earliest (first_charges contract buckets arrivals)
first_charges-goes contract buckets earliest [] goes = tt
first_charges-goes contract buckets earliest (arrival ∷ later) goes =
    let verdict = verdict_of contract buckets arrival.clp arrival.moment in
    let after = buckets_after contract buckets arrival.clp arrival.moment in
    let rest = first_charges contract after later in
    GoesOn-some (charges_first verdict) earliest arrival.moment rest goes.0
    (first_charges-goes contract after arrival.moment later goes.1)

first_charges-fill : (contract : Contract) (buckets : Buckets) (arrivals : List Arrival)
    → AllFill (peak_of contract) buckets.first (first_charges contract buckets arrivals)
first_charges-fill contract buckets [] = tt
first_charges-fill contract buckets (arrival ∷ later) =
    let verdict = verdict_of contract buckets arrival.clp arrival.moment in
    let after = buckets_after contract buckets arrival.clp arrival.moment in
    let rest = first_charges contract after later in
    AllFill-some (peak_of contract) buckets.first after.first arrival.moment rest (charges_first verdict)
    (FillsFirst contract buckets arrival.clp arrival.moment) (first_charges-fill contract after later)

first-bounded : (contract : Contract) (buckets : Buckets) (earliest : ℕ) (arrivals : List Arrival)
    → GoesOn earliest (map (λ a. a.moment) arrivals) → (first span : ℕ)
    → IsBounded first span (first_charges contract buckets arrivals) (peak_of contract)
first-bounded contract buckets earliest arrivals goes first span =
    let goes_on = first_charges-goes contract buckets earliest arrivals goes in
    let fill = first_charges-fill contract buckets arrivals in
    fillings-bounded (peak_of contract) buckets.first earliest (first_charges contract buckets arrivals)
    goes_on fill first span

-- Bucket 2.

-- A cell that meets bucket 2 and passes conforms to it and fills it; any other leaves it unchanged.
met : (b c : Bool) (excess : Verdict) → excess ≢ Pass → (peak sustained : Gcra) (buckets : Buckets) (moment : ℕ)
    → conforms sustained buckets.second moment ≡ c
    → let verdict = cond b (cond c Pass excess) Discard in
    Fills sustained buckets.second (charged_under verdict peak (Some sustained) buckets moment).second moment (is_passed verdict)
met true true excess other peak sustained buckets moment is = record {
  fills = λ e. (is, refl);
  leaves = λ e. cc;
}
met true false Pass other peak sustained buckets moment is = absurd (other refl)
met true false Tag other peak sustained buckets moment is = record {
  fills = λ e. cc;
  leaves = λ e. refl;
}
met true false Discard other peak sustained buckets moment is = record {
  fills = λ e. cc;
  leaves = λ e. refl;
}
met true false Refuse other peak sustained buckets moment is = record {
  fills = λ e. cc;
  leaves = λ e. refl;
}
met false c excess other peak sustained buckets moment is = record {
  fills = λ e. cc;
  leaves = λ e. refl;
}

-- A cell that doesn't meet bucket 2 leaves it unchanged.
unmet : (b : Bool) (peak sustained : Gcra) (buckets : Buckets) (moment : ℕ)
    → Fills sustained buckets.second (charged_under (cond b Pass Discard) peak None buckets moment).second moment false
unmet true peak sustained buckets moment = record { fills = λ e. cc; leaves = λ e. refl }
unmet false peak sustained buckets moment = record { fills = λ e. cc; leaves = λ e. refl }

-- So does any cell of a contract without bucket 2.
second-kept : (b : Bool) (peak : Gcra) (buckets : Buckets) (moment : ℕ)
    → (charged_under (cond b Pass Discard) peak None buckets moment).second ≡ buckets.second
second-kept true peak buckets moment = refl
second-kept false peak buckets moment = refl

-- What a contract does to bucket 2 with this rate.
abbrev FillsSecond : Contract → Gcra → Type 0
FillsSecond contract sustained = (buckets : Buckets) (clp : Bool) (moment : ℕ)
    → Fills sustained buckets.second (buckets_after contract buckets clp moment).second moment
    (charges_second (verdict_of contract buckets clp moment) contract clp)

vbr1-FillsSecond : (peak sustained : Gcra) → FillsSecond (Vbr1 peak sustained) sustained
vbr1-FillsSecond peak sustained buckets clp moment =
    let admitted = conforms peak buckets.first moment in
    met admitted (conforms sustained buckets.second moment) Discard (λ e. cc) peak sustained buckets moment refl

vbr2-FillsSecond : (peak sustained : Gcra) → FillsSecond (Vbr2 peak sustained) sustained
vbr2-FillsSecond peak sustained buckets true moment =
    unmet (conforms peak buckets.first moment) peak sustained buckets moment
vbr2-FillsSecond peak sustained buckets false moment =
    let admitted = conforms peak buckets.first moment in
    met admitted (conforms sustained buckets.second moment) Discard (λ e. cc) peak sustained buckets moment refl

vbr3-FillsSecond : (peak sustained : Gcra) → FillsSecond (Vbr3 peak sustained) sustained
vbr3-FillsSecond peak sustained buckets true moment =
    unmet (conforms peak buckets.first moment) peak sustained buckets moment
vbr3-FillsSecond peak sustained buckets false moment =
    let admitted = conforms peak buckets.first moment in
    met admitted (conforms sustained buckets.second moment) Tag (λ e. cc) peak sustained buckets moment refl

second_charges-goes : (contract : Contract) (buckets : Buckets) (earliest : ℕ) (arrivals : List Arrival)
    → GoesOn earliest (map (λ a. a.moment) arrivals)
    → GoesOn earliest (second_charges contract buckets arrivals)
second_charges-goes contract buckets earliest [] goes = tt
second_charges-goes contract buckets earliest (arrival ∷ later) goes =
    let verdict = verdict_of contract buckets arrival.clp arrival.moment in
    let after = buckets_after contract buckets arrival.clp arrival.moment in
    let rest = second_charges contract after later in
    GoesOn-some (charges_second verdict contract arrival.clp) earliest arrival.moment rest goes.0
    (second_charges-goes contract after arrival.moment later goes.1)

second_charges-fill : (contract : Contract) (sustained : Gcra) → FillsSecond contract sustained
    → (buckets : Buckets) (arrivals : List Arrival)
    → AllFill sustained buckets.second (second_charges contract buckets arrivals)
second_charges-fill contract sustained fills buckets [] = tt
second_charges-fill contract sustained fills buckets (arrival ∷ later) =
    let verdict = verdict_of contract buckets arrival.clp arrival.moment in
    let after = buckets_after contract buckets arrival.clp arrival.moment in
    let rest = second_charges contract after later in
    AllFill-some sustained buckets.second after.second arrival.moment rest (charges_second verdict contract arrival.clp)
    (fills buckets arrival.clp arrival.moment) (second_charges-fill contract sustained fills after later)

second-bounded : (contract : Contract) (sustained : Gcra) → FillsSecond contract sustained
    → (buckets : Buckets) (earliest : ℕ) (arrivals : List Arrival)
    → GoesOn earliest (map (λ a. a.moment) arrivals) → (first span : ℕ)
    → IsBounded first span (second_charges contract buckets arrivals) sustained
second-bounded contract sustained fills buckets earliest arrivals goes first span =
    let goes_on = second_charges-goes contract buckets earliest arrivals goes in
    let fill = second_charges-fill contract sustained fills buckets arrivals in
    fillings-bounded sustained buckets.second earliest (second_charges contract buckets arrivals)
    goes_on fill first span

-- Both.

pub contracts-bound : ContractsBoundBursts
contracts-bound (Cbr1 peak) buckets earliest arrivals goes first span =
    (first-bounded (Cbr1 peak) buckets earliest arrivals goes first span, tt)
contracts-bound (Vbr1 peak sustained) buckets earliest arrivals goes first span =
    let contract = Vbr1 peak sustained in
    let second = vbr1-FillsSecond peak sustained in (
      first-bounded contract buckets earliest arrivals goes first span,
      second-bounded contract sustained second buckets earliest arrivals goes first span,
    )
contracts-bound (Vbr2 peak sustained) buckets earliest arrivals goes first span =
    let contract = Vbr2 peak sustained in
    let second = vbr2-FillsSecond peak sustained in (
      first-bounded contract buckets earliest arrivals goes first span,
      second-bounded contract sustained second buckets earliest arrivals goes first span,
    )
contracts-bound (Vbr3 peak sustained) buckets earliest arrivals goes first span =
    let contract = Vbr3 peak sustained in
    let second = vbr3-FillsSecond peak sustained in (
      first-bounded contract buckets earliest arrivals goes first span,
      second-bounded contract sustained second buckets earliest arrivals goes first span,
    )

-- Either bucket, cell by cell.

pub charges-fill : ChargesAreFillings
charges-fill (Cbr1 peak) buckets clp moment = record {
  first = FillsFirst (Cbr1 peak) buckets clp moment;
  second = tt;
  without = λ e. second-kept (conforms peak buckets.first moment) peak buckets moment;
}
charges-fill (Vbr1 peak sustained) buckets clp moment = record {
  first = FillsFirst (Vbr1 peak sustained) buckets clp moment;
  second = vbr1-FillsSecond peak sustained buckets clp moment;
  without = λ e. cc;
}
charges-fill (Vbr2 peak sustained) buckets clp moment = record {
  first = FillsFirst (Vbr2 peak sustained) buckets clp moment;
  second = vbr2-FillsSecond peak sustained buckets clp moment;
  without = λ e. cc;
}
charges-fill (Vbr3 peak sustained) buckets clp moment = record {
  first = FillsFirst (Vbr3 peak sustained) buckets clp moment;
  second = vbr3-FillsSecond peak sustained buckets clp moment;
  without = λ e. cc;
}

pub fillings-show : FillingsShow
fillings-show gcra bucket moment same =
    let moments : moment ≡ bucket.charged = ap (λ b. b.charged) same in
    let levels : level_at bucket moment + gcra.increment ≡ bucket.level = ap (λ b. b.level) same in
    omega (arith, gcra.increment_above_zero)

-- Tagging.

-- If the excess verdict isn't Tag, no cell is tagged.
never-tagged : (b c : Bool) (excess : Verdict) → excess ≢ Tag → cond b (cond c Pass excess) Discard ≢ Tag
never-tagged true true excess other = λ e. cc
never-tagged true false excess other = other
never-tagged false c excess other = λ e. cc

pub tagged-untagged : TaggedCellsCameUntagged
tagged-untagged (Cbr1 peak) buckets clp moment e =
    absurd (never-tagged (conforms peak buckets.first moment) true Discard (λ e. cc) e)
tagged-untagged (Vbr1 peak sustained) buckets clp moment e =
    absurd (never-tagged (conforms peak buckets.first moment) (conforms sustained buckets.second moment) Discard (λ e. cc) e)
tagged-untagged (Vbr2 peak sustained) buckets clp moment e =
    absurd (never-tagged (conforms peak buckets.first moment) (conforms_if_met (sustained_of (Vbr2 peak sustained) clp) buckets.second moment) Discard (λ e. cc) e)
tagged-untagged (Vbr3 peak sustained) buckets true moment e =
    absurd (never-tagged (conforms peak buckets.first moment) true Discard (λ e. cc) e)
tagged-untagged (Vbr3 peak sustained) buckets false moment e = refl
