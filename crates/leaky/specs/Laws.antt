-- Laws that relate the definitions to the standard and to each other.
use Rattle.std.specs.Prelude.{◌≡◌, ◌≢◌, ℕ, ◌+◌, ◌^◌, ◌≤◌, ◌↔◌, Bool, false, Some, None, IfSome, List, map, All}
use Rattle.leaky.specs.declared.gcra.Gcra.{Gcra}
use Rattle.leaky.specs.declared.levels.Levels.{Levels}
use Rattle.leaky.specs.declared.contract.Contract.{Contract}
use Rattle.leaky.specs.declared.verdict.Verdict.TheVariants.{Pass, Tag}
use Rattle.leaky.specs.declared.excess.Excess.{Excess}
use Rattle.leaky.specs.Moments.{GoesOn}
use Rattle.leaky.specs.Bucket.{Bucket, opening, filled, conformances, conforming}
use Rattle.leaky.specs.Scheduling.{scheduled}
use Rattle.leaky.specs.Tolerance.{tolerance_of, spaced}
use Rattle.leaky.specs.Bursts.{count_within, burst_bound, AllFill, Fills}
use Rattle.leaky.specs.Contract.{Buckets, peak_of, second_of, verdict_of, buckets_after}
use Rattle.leaky.specs.Arrivals.{Arrival, buckets_left, charges_first, charges_second, first_charges, second_charges}
use Rattle.leaky.specs.KeptState.{Agrees, IsChargedBy}
use Rattle.leaky.specs.Excess.{excess_at, rate_met, bucket_among, IsLeastDelay}

-- Virtual scheduling that starts at TAT = X + LCT gives the verdicts of the leaky bucket. This holds for every list
-- of moments that starts at or after LCT and never goes back.
abbrev pub SchedulingGivesTheBucketsVerdicts : Type 0
SchedulingGivesTheBucketsVerdicts = (gcra : Gcra) (bucket : Bucket) (moments : List ℕ)
    → GoesOn bucket.charged moments
    → scheduled gcra (bucket.level + bucket.charged) moments ≡ conformances gcra bucket moments

-- At most 1 + (d + tau) div T conforming cells have moments within any span of d ticks. This holds for any initial
-- bucket and any moments that never go back.
abbrev pub BurstsAreBounded : Type 0
BurstsAreBounded = (gcra : Gcra) (bucket : Bucket) (earliest : ℕ) (moments : List ℕ)
    → GoesOn earliest moments
    → (first span : ℕ)
    → count_within first span (conforming gcra bucket moments) ≤ burst_bound gcra span

-- The same bound for any cells that all fill one bucket, even if other conforming cells don't fill it.
abbrev pub FillingsAreBounded : Type 0
FillingsAreBounded = (gcra : Gcra) (bucket : Bucket) (earliest : ℕ) (moments : List ℕ)
    → GoesOn earliest moments
    → AllFill gcra bucket moments
    → (first span : ℕ)
    → count_within first span moments ≤ burst_bound gcra span

-- The number of these charges within the span is at most the burst bound of the rate.
abbrev pub IsBounded : ℕ → ℕ → List ℕ → Gcra → Type 0
IsBounded first span charges gcra = count_within first span charges ≤ burst_bound gcra span

-- The same bound for the cells that charge bucket 1 and for those that charge bucket 2 of a contract.
abbrev pub ContractsBoundBursts : Type 0
ContractsBoundBursts = (contract : Contract) (buckets : Buckets)
    → (earliest : ℕ) (arrivals : List Arrival)
    → GoesOn earliest (map (λ a. a.moment) arrivals)
    → (first span : ℕ)
    → IsBounded first span (first_charges contract buckets arrivals) (peak_of contract)
    × IfSome (second_of contract) (IsBounded first span (second_charges contract buckets arrivals))

-- A cell fills exactly the buckets that `charges_first` and `charges_second` name. It conforms to those, and leaves
-- the others unchanged.
pub record ChargesByVerdict (contract : Contract) (buckets : Buckets) (clp : Bool) (moment : ℕ) (after : Buckets) : Type 0 where
  pub first : Fills (peak_of contract) buckets.first after.first moment
      (charges_first (verdict_of contract buckets clp moment))
  pub second : IfSome (second_of contract) (λ sustained. Fills sustained buckets.second after.second moment
      (charges_second (verdict_of contract buckets clp moment) contract clp))
  pub without : second_of contract ≡ None → after.second ≡ buckets.second

-- ChargesByVerdict holds for every cell.
abbrev pub ChargesAreFillings : Type 0
ChargesAreFillings = (contract : Contract) (buckets : Buckets) (clp : Bool) (moment : ℕ)
    → ChargesByVerdict contract buckets clp moment (buckets_after contract buckets clp moment)

-- A filled bucket differs from the bucket before.
abbrev pub FillingsShow : Type 0
FillingsShow = (gcra : Gcra) (bucket : Bucket) (moment : ℕ) → filled gcra bucket moment ≢ bucket

-- A tagged cell had cell loss priority 0.
abbrev pub TaggedCellsCameUntagged : Type 0
TaggedCellsCameUntagged = (contract : Contract) (buckets : Buckets) (clp : Bool) (moment : ℕ)
    → verdict_of contract buckets clp moment ≡ Tag → clp ≡ false

-- Any levels represent some buckets that were charged no later than 0.
abbrev pub LevelsStandForBuckets : Type 0
LevelsStandForBuckets = (levels : Levels)
    → (buckets : Buckets) × Agrees levels buckets × IsChargedBy buckets 0

-- After cells with moments up to 2^62, some levels represent the buckets, if some did before.
abbrev pub LevelsFollowBuckets : Type 0
LevelsFollowBuckets = (contract : Contract) (levels : Levels) (buckets : Buckets)
    → (arrivals : List Arrival)
    → Agrees levels buckets
    → All (λ a. a.moment ≤ 2 ^ 62) arrivals
    → (after : Levels) × Agrees after (buckets_left contract buckets arrivals)

-- Take buckets of which none was charged later than the moment of a cell. After this cell, too, none was charged later than that
-- moment.
abbrev pub ChargesKeepUp : Type 0
ChargesKeepUp = (contract : Contract) (buckets : Buckets) (clp : Bool) (moment : ℕ)
    → IsChargedBy buckets moment
    → IsChargedBy (buckets_after contract buckets clp moment) moment

-- A burst of `mbs` cells at the peak rate conforms, from an empty bucket of the sustainable rate, exactly if the
-- burst tolerance for `mbs` is at most the bucket's limit. The peak rate is at least the sustainable rate.
abbrev pub TolerancesAreExact : Type 0
TolerancesAreExact = (gcra : Gcra) (mbs tp first : ℕ)
    → tp ≤ gcra.increment
    → AllFill gcra opening (spaced mbs tp first) ↔ (tolerance_of mbs gcra.increment tp ≤ gcra.limit)

-- A cell has no excess exactly if it passes.
abbrev pub PassedCellsHaveNoExcess : Type 0
PassedCellsHaveNoExcess = (contract : Contract) (buckets : Buckets) (clp : Bool) (moment : ℕ)
    → (excess_at contract buckets clp moment ≡ None) ↔ (verdict_of contract buckets clp moment ≡ Pass)

-- The ticks of an excess are the least delay after which a cell conforms to the bucket that it names. The cell meets
-- that bucket.
abbrev pub ExcessesAreLeastDelays : Type 0
ExcessesAreLeastDelays = (contract : Contract) (buckets : Buckets) (clp : Bool) (moment : ℕ)
    → IsChargedBy buckets moment
    → (excess : Excess) → excess_at contract buckets clp moment ≡ Some excess
    → (gcra : Gcra) × (rate_met contract clp excess.bucket ≡ Some gcra)
    × IsLeastDelay gcra (bucket_among buckets excess.bucket) moment excess.ticks
