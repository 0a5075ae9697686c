-- The verdict on a cell, from the levels that C stores.
use Rattle.std.specs.Prelude.{◌≡◌, ◌⊎◌, ◌+◌, ◌^◌, ◌<◌, ◌≤◌, ℕ, Bool}
use Rattle.leaky.specs.Contract.{Buckets, verdict_of, buckets_after}
use Rattle.leaky.specs.KeptState.{IsChargedBy}
use Rattle.leaky.specs.declared.contract.Contract.{Contract}
use Rattle.leaky.specs.declared.verdict.Verdict.{Verdict}
use Rattle.leaky.specs.declared.verdict.Verdict.TheVariants.{Pass, Tag, Discard, Refuse}
use Rattle.upc_c.specs.GivenContract.{AreAContract, IsContractFault}
use Rattle.upc_c.specs.Faults.{levels_too_late, moment_too_late}
use Rattle.upc_c.specs.declared.contract.UpcContract.{UpcContract}
use Rattle.upc_c.specs.declared.fault.UpcFault.{UpcFault}
use Rattle.upc_c.specs.declared.meter.UpcLevels.{UpcLevels}

-- The number of a verdict in C.
abbrev pub number_of_verdict : Verdict → ℕ
number_of_verdict Pass = 0
number_of_verdict Tag = 1
number_of_verdict Discard = 2
number_of_verdict Refuse = 3

-- Theoretical arrival times that can occur: each is at most 2^62 + 2^49.
pub record AreLevels (levels : UpcLevels) : Type 0 where
  pub first : levels.first ≤ 2 ^ 62 + 2 ^ 49
  pub second : levels.second ≤ 2 ^ 62 + 2 ^ 49

-- Each theoretical arrival time is X + LCT of its bucket.
pub record Shows (levels : UpcLevels) (buckets : Buckets) : Type 0 where
  pub first : levels.first ≡ buckets.first.level + buckets.first.charged
  pub second : levels.second ≡ buckets.second.level + buckets.second.charged

-- For any buckets that have these levels and weren't charged after this moment, the verdict is the contract's, and the
-- new levels are those of the buckets after the cell. The new levels are within their limits.
pub record IsJudged (contract : Contract) (levels : UpcLevels) (clp : Bool) (moment number : ℕ) (left : UpcLevels) : Type 0 where
  pub verdict : (buckets : Buckets) → Shows levels buckets → IsChargedBy buckets moment
      → number ≡ number_of_verdict (verdict_of contract buckets clp moment)
  pub after : (buckets : Buckets) → Shows levels buckets → IsChargedBy buckets moment
      → Shows left (buckets_after contract buckets clp moment)
  pub kept : AreLevels left

-- The error if a cell can't be judged: that of the contract; else of the levels; else of the moment.
abbrev pub IsMeterFault : UpcContract → UpcLevels → ℕ → UpcFault → Type 0
IsMeterFault given levels moment fault =
    IsContractFault given fault
    ⊎ (AreAContract given
    × ((2 ^ 62 + 2 ^ 49 < levels.first) ⊎ (2 ^ 62 + 2 ^ 49 < levels.second)) × (fault ≡ levels_too_late))
    ⊎ (AreAContract given × AreLevels levels × (2 ^ 62 < moment) × (fault ≡ moment_too_late))
