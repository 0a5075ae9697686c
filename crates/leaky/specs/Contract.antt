-- The four kinds of contract: which buckets a cell meets, its verdict, and which buckets it charges. The kinds have
-- the names of ATM Forum AF-TM-0121; the rules are this project's own.
use Rattle.std.specs.Prelude.{◌≡◌, ℕ, Bool, true, false, not, if◌then◌else◌, Option, None, Some}
use Rattle.leaky.specs.declared.gcra.Gcra.{Gcra}
use Rattle.leaky.specs.declared.contract.Contract.{Contract}
use Rattle.leaky.specs.declared.contract.Contract.TheVariants.{Cbr1, Vbr1, Vbr2, Vbr3}
use Rattle.leaky.specs.declared.verdict.Verdict.{Verdict}
use Rattle.leaky.specs.declared.verdict.Verdict.TheVariants.{Pass, Tag, Discard, Refuse}
use Rattle.leaky.specs.Bucket.{Bucket, opening, conforms, filled}

-- The two buckets of one contract.
pub record Buckets : Type 0 where
  pub first : Bucket
  pub second : Bucket

-- The initial buckets: both empty.
abbrev pub opening_buckets : Buckets
opening_buckets = record { first = opening; second = opening }

-- Bucket 1 has the peak cell rate. Every cell (CLP=0+1) meets it.
abbrev pub peak_of : Contract → Gcra
peak_of (Cbr1 peak) = peak
peak_of (Vbr1 peak sustained) = peak
peak_of (Vbr2 peak sustained) = peak
peak_of (Vbr3 peak sustained) = peak

-- Bucket 2 has the sustainable cell rate. CBR.1 has no bucket 2.
abbrev pub second_of : Contract → Option Gcra
second_of (Cbr1 peak) = None
second_of (Vbr1 peak sustained) = Some sustained
second_of (Vbr2 peak sustained) = Some sustained
second_of (Vbr3 peak sustained) = Some sustained

-- Whether a cell meets bucket 2. The four kinds in order: no cell does, CLP=0+1, CLP=0, CLP=0.
abbrev pub meets_second : Contract → Bool → Bool
meets_second (Cbr1 peak) clp = false
meets_second (Vbr1 peak sustained) clp = true
meets_second (Vbr2 peak sustained) clp = not clp
meets_second (Vbr3 peak sustained) clp = not clp

-- The verdict on a cell that conforms to bucket 1 and not to bucket 2.
abbrev pub verdict_over_second : Contract → Verdict
verdict_over_second (Cbr1 peak) = Discard
verdict_over_second (Vbr1 peak sustained) = Discard
verdict_over_second (Vbr2 peak sustained) = Discard
verdict_over_second (Vbr3 peak sustained) = Tag

-- The rate of bucket 2, if a cell of this CLP meets it.
abbrev pub sustained_of : Contract → Bool → Option Gcra
sustained_of contract clp = if meets_second contract clp then second_of contract else None

-- Whether the cell conforms to the bucket. A cell that doesn't meet the bucket counts as conforming.
abbrev pub conforms_if_met : Option Gcra → Bucket → ℕ → Bool
conforms_if_met None bucket moment = true
conforms_if_met (Some gcra) bucket moment = conforms gcra bucket moment

-- The bucket filled by the cell. A cell that doesn't meet the bucket leaves it unchanged.
abbrev pub filled_if_met : Option Gcra → Bucket → ℕ → Bucket
filled_if_met None bucket moment = bucket
filled_if_met (Some gcra) bucket moment = filled gcra bucket moment

-- A cell passes if it conforms to each bucket that it meets. If it conforms to bucket 1 and not to bucket 2, it has the
-- verdict `excess`. Otherwise it is discarded.
abbrev pub verdict_under : Gcra → Option Gcra → Verdict → Buckets → ℕ → Verdict
verdict_under peak sustained excess buckets moment =
    if conforms peak buckets.first moment then
    (if conforms_if_met sustained buckets.second moment then Pass else excess)
    else Discard

-- A passed cell charges each bucket that it meets, a tagged cell only bucket 1, any other cell none.
abbrev pub charged_under : Verdict → Gcra → Option Gcra → Buckets → ℕ → Buckets
charged_under Pass peak sustained buckets moment = record {
  first = filled peak buckets.first moment;
  second = filled_if_met sustained buckets.second moment;
}
charged_under Tag peak sustained buckets moment = record {
  first = filled peak buckets.first moment;
  second = buckets.second;
}
charged_under Discard peak sustained buckets moment = buckets
charged_under Refuse peak sustained buckets moment = buckets

-- The verdict of a contract on a cell of this CLP at this moment.
abbrev pub verdict_of : Contract → Buckets → Bool → ℕ → Verdict
verdict_of contract buckets clp moment =
    verdict_under (peak_of contract) (sustained_of contract clp) (verdict_over_second contract) buckets moment

-- The buckets of the contract after this cell.
abbrev pub buckets_after : Contract → Buckets → Bool → ℕ → Buckets
buckets_after contract buckets clp moment =
    let verdict = verdict_of contract buckets clp moment in
    charged_under verdict (peak_of contract) (sustained_of contract clp) buckets moment

-- CBR.1 with increment 1 and limit 0.
abbrev pub IsDefault : Contract → Type 0
IsDefault (Cbr1 peak) = (peak.increment ≡ 1) × (peak.limit ≡ 0)
IsDefault (Vbr1 peak sustained) = ⊥
IsDefault (Vbr2 peak sustained) = ⊥
IsDefault (Vbr3 peak sustained) = ⊥
