-- What goes on conforms.
use Rattle.std.proofs.Common.{◌≡◌, ℕ, Bool, true, false, if◌then◌else◌, List, [], ◌∷◌, ◌++◌, Some, None, refl, sym, ap, ◌∙◌, subst}
use Rattle.leaky.specs.Arrivals.{Arrival}
use Rattle.leaky.specs.Bucket.{conforms}
use Rattle.leaky.specs.Contract.{Buckets, buckets_after, charged_under, conforms_if_met, opening_buckets, peak_of, sustained_of, verdict_of}
use Rattle.leaky.specs.declared.contract.Contract.{Contract}
use Rattle.leaky.specs.declared.contract.Contract.TheVariants.{Cbr1, Vbr1, Vbr2, Vbr3}
use Rattle.leaky.specs.declared.gcra.Gcra.{Gcra}
use Rattle.leaky.specs.declared.verdict.Verdict.{Verdict}
use Rattle.leaky.specs.declared.verdict.Verdict.TheVariants.{Pass, Tag, Discard, Refuse}
use Rattle.cmd_forward.specs.ForwardLaws.{AllPass, WhatWasForwardedConforms, all_leaving, leaving}

-- A cell that is tagged passes with cell loss priority 1, and then charges the same buckets.
abbrev PassesAlike : Contract → Buckets → Bool → ℕ → Type 0
PassesAlike contract buckets clp moment =
    (verdict_of contract buckets true moment ≡ Pass) × (buckets_after contract buckets true moment ≡ buckets_after contract buckets clp moment)

-- The verdict by whether the cell conforms to bucket 1, and to bucket 2 if it meets it.
abbrev verdict_by : Bool → Bool → Verdict → Verdict
verdict_by first second excess = if first then (if second then Pass else excess) else Discard

not_tagged : (first second : Bool) → verdict_by first second Discard ≡ Tag → ⊥
not_tagged true true is = cc
not_tagged true false is = cc
not_tagged false second is = cc

-- Only a cell that conforms to bucket 1 and not to bucket 2 is tagged.
tagged_by : (first second : Bool) → verdict_by first second Tag ≡ Tag → (first ≡ true) × (second ≡ false)
tagged_by true true is = cc
tagged_by true false is = (refl, refl)
tagged_by false second is = cc

vbr3_alike : (peak sustained : Gcra) (buckets : Buckets) (clp : Bool) (moment : ℕ)
    → verdict_of (Vbr3 peak sustained) buckets clp moment ≡ Tag → PassesAlike (Vbr3 peak sustained) buckets clp moment
vbr3_alike peak sustained buckets true moment is =
    let by = tagged_by (conforms peak buckets.first moment) true is in cc
vbr3_alike peak sustained buckets false moment is =
    let by = tagged_by (conforms peak buckets.first moment) (conforms sustained buckets.second moment) is in
    let passes : verdict_of (Vbr3 peak sustained) buckets true moment ≡ Pass = ap (λ b. verdict_by b true Tag) by.0 in (
      passes,
      ap (λ (verdict : Verdict). charged_under verdict peak None buckets moment) passes
          ∙ sym (ap (λ (verdict : Verdict). charged_under verdict peak (Some sustained) buckets moment) is),
    )

tagged_alike : (contract : Contract) (buckets : Buckets) (clp : Bool) (moment : ℕ) → verdict_of contract buckets clp moment ≡ Tag
    → PassesAlike contract buckets clp moment
tagged_alike (Cbr1 peak) buckets clp moment is =
    absurd (not_tagged (conforms peak buckets.first moment) (conforms_if_met (sustained_of (Cbr1 peak) clp) buckets.second moment) is)
tagged_alike (Vbr1 peak sustained) buckets clp moment is =
    absurd (not_tagged (conforms peak buckets.first moment) (conforms_if_met (sustained_of (Vbr1 peak sustained) clp) buckets.second moment) is)
tagged_alike (Vbr2 peak sustained) buckets clp moment is =
    absurd (not_tagged (conforms peak buckets.first moment) (conforms_if_met (sustained_of (Vbr2 peak sustained) clp) buckets.second moment) is)
tagged_alike (Vbr3 peak sustained) buckets clp moment is = vbr3_alike peak sustained buckets clp moment is

-- A cell with this verdict, and those that go on after it.
one_passes : (contract : Contract) (buckets : Buckets) (arrival : Arrival) (later : List Arrival) (verdict : Verdict)
    → verdict_of contract buckets arrival.clp arrival.moment ≡ verdict
    → AllPass contract (buckets_after contract buckets arrival.clp arrival.moment) later
    → AllPass contract buckets (leaving verdict arrival ++ later)
one_passes contract buckets arrival later Pass is on = (is, on)
one_passes contract buckets arrival later Tag is on =
    let alike = tagged_alike contract buckets arrival.clp arrival.moment is in
    (alike.0, subst (λ (after : Buckets). AllPass contract after later) (sym alike.1) on)
one_passes contract buckets arrival later Discard is on =
    subst (λ (after : Buckets). AllPass contract after later)
    (ap (λ (verdict : Verdict). charged_under verdict (peak_of contract) (sustained_of contract arrival.clp) buckets arrival.moment) is) on
one_passes contract buckets arrival later Refuse is on =
    subst (λ (after : Buckets). AllPass contract after later)
    (ap (λ (verdict : Verdict). charged_under verdict (peak_of contract) (sustained_of contract arrival.clp) buckets arrival.moment) is) on

all_pass : (contract : Contract) (buckets : Buckets) (arrivals : List Arrival) → AllPass contract buckets (all_leaving contract buckets arrivals)
all_pass contract buckets [] = tt
all_pass contract buckets (arrival ∷ later) =
    one_passes contract buckets arrival (all_leaving contract (buckets_after contract buckets arrival.clp arrival.moment) later)
    (verdict_of contract buckets arrival.clp arrival.moment) refl
    (all_pass contract (buckets_after contract buckets arrival.clp arrival.moment) later)

pub forwarded_conforms : WhatWasForwardedConforms
forwarded_conforms contract arrivals = all_pass contract opening_buckets arrivals
