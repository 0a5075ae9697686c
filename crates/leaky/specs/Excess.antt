-- By how much a cell comes too early for a bucket.
use Rattle.std.specs.Prelude.{◌≡◌, ℕ, ◌+◌, ◌-◌, ◌<◌, Bool, true, false, if◌then◌else◌, Option, None, Some}
use Rattle.leaky.specs.declared.gcra.Gcra.{Gcra}
use Rattle.leaky.specs.declared.contract.Contract.{Contract}
use Rattle.leaky.specs.declared.excess.WhichBucket.{WhichBucket}
use Rattle.leaky.specs.declared.excess.WhichBucket.TheVariants.{Peak, Sustained}
use Rattle.leaky.specs.declared.excess.Excess.{Excess}
use Rattle.leaky.specs.Bucket.{Bucket, level_at, conforms}
use Rattle.leaky.specs.Contract.{Buckets, peak_of, sustained_of, conforms_if_met}

-- The numbers of the buckets: 1 and 2.
abbrev pub bucket_number : WhichBucket → ℕ
bucket_number Peak = 1
bucket_number Sustained = 2

-- The ticks by which the level at the moment is above the limit. They are 0 if a cell at the moment conforms.
abbrev pub over_limit : Gcra → Bucket → ℕ → ℕ
over_limit gcra bucket moment = level_at bucket moment - gcra.limit

-- The ticks by which a bucket is above the limit, or 0 if the cell doesn't meet the bucket.
abbrev pub over_limit_if_met : Option Gcra → Bucket → ℕ → ℕ
over_limit_if_met None bucket moment = 0
over_limit_if_met (Some gcra) bucket moment = over_limit gcra bucket moment

-- The first bucket that the cell meets and doesn't conform to, and the ticks by which it is over its limit.
abbrev pub excess_under : Gcra → Option Gcra → Buckets → ℕ → Option Excess
excess_under peak sustained buckets moment =
    if conforms peak buckets.first moment then
    (if conforms_if_met sustained buckets.second moment then None
    else Some (record { bucket = Sustained; ticks = over_limit_if_met sustained buckets.second moment }))
    else Some (record { bucket = Peak; ticks = over_limit peak buckets.first moment })

-- The excess of a cell of this CLP at this moment. There is none if it conforms to each bucket that it meets.
abbrev pub excess_at : Contract → Buckets → Bool → ℕ → Option Excess
excess_at contract buckets clp moment =
    excess_under (peak_of contract) (sustained_of contract clp) buckets moment

-- The rate of this bucket, if a cell of this CLP meets the bucket.
abbrev pub rate_met : Contract → Bool → WhichBucket → Option Gcra
rate_met contract clp Peak = Some (peak_of contract)
rate_met contract clp Sustained = sustained_of contract clp

-- The bucket that is named, of the two.
abbrev pub bucket_among : Buckets → WhichBucket → Bucket
bucket_among buckets Peak = buckets.first
bucket_among buckets Sustained = buckets.second

-- A cell that comes this many ticks after the moment conforms, and one that comes fewer ticks after it doesn't. The ticks
-- aren't 0, so a cell at the moment doesn't conform.
pub record IsLeastDelay (gcra : Gcra) (bucket : Bucket) (moment ticks : ℕ) : Type 0 where
  pub some : 0 < ticks
  pub enough : conforms gcra bucket (moment + ticks) ≡ true
  pub least : (fewer : ℕ) → fewer < ticks → conforms gcra bucket (moment + fewer) ≡ false
