-- How the policer's state, two theoretical arrival times, represents two leaky buckets.
use Rattle.std.specs.Prelude.{◌≡◌, ℕ, ◌+◌, ◌≤◌}
use Rattle.leaky.specs.declared.levels.Levels.{Levels}
use Rattle.leaky.specs.Contract.{Buckets}

-- Each theoretical arrival time is X + LCT of its bucket.
pub record Agrees (levels : Levels) (buckets : Buckets) : Type 0 where
  pub first : levels.first ≡ buckets.first.level + buckets.first.charged
  pub second : levels.second ≡ buckets.second.level + buckets.second.charged

-- Neither bucket was charged after this moment.
pub record IsChargedBy (buckets : Buckets) (moment : ℕ) : Type 0 where
  pub first : buckets.first.charged ≤ moment
  pub second : buckets.second.charged ≤ moment
