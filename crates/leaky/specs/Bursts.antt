-- The number of cells that a bucket admits in a span of time.
use Rattle.std.specs.Prelude.{◌≡◌, ℕ, ◌+◌, ◌/◌, nat_le, Bool, true, false, ◌&&◌, IsTrue, List, [], ◌∷◌, length, filter, ⊤}
use Rattle.leaky.specs.declared.gcra.Gcra.{Gcra}
use Rattle.leaky.specs.Bucket.{Bucket, conforms, filled}

-- Whether the moment is between `first` and `first + span`, both included.
abbrev pub is_within : ℕ → ℕ → ℕ → Bool
is_within first span moment = nat_le first moment && nat_le moment (first + span)

-- The number of these moments that are in the span.
abbrev pub count_within : ℕ → ℕ → List ℕ → ℕ
count_within first span moments = length (filter (is_within first span) moments)

-- The burst bound 1 + (d + tau) div T, for a span of d ticks.
abbrev pub burst_bound : Gcra → ℕ → ℕ
burst_bound gcra span = 1 + (span + gcra.limit) / gcra.increment

-- Each cell, in order, conforms and fills the bucket.
abbrev pub AllFill : Gcra → Bucket → List ℕ → Type 0
AllFill gcra bucket [] = ⊤
AllFill gcra bucket (moment ∷ moments) =
    IsTrue (conforms gcra bucket moment) × AllFill gcra (filled gcra bucket moment) moments

-- The truth value says whether the cell filled the bucket. If true, the cell conforms and the bucket after it is the
-- filled one; if false, the bucket is unchanged.
pub record Fills (gcra : Gcra) (bucket after : Bucket) (moment : ℕ) (test : Bool) : Type 0 where
  pub fills : test ≡ true
      → (conforms gcra bucket moment ≡ true) × (after ≡ filled gcra bucket moment)
  pub leaves : test ≡ false → after ≡ bucket
