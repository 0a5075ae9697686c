-- The continuous-state leaky bucket of ITU-T I.371, annex A, with increment T and limit tau. The bucket drains by one
-- unit a tick, and each conforming cell adds T.
use Rattle.std.specs.Prelude.{ℕ, ◌+◌, ◌-◌, nat_le, Bool, if◌then◌else◌, List, [], ◌∷◌}
use Rattle.leaky.specs.declared.gcra.Gcra.{Gcra}

-- The level X after the last charge, and the moment of that charge (LCT, the last conformance time).
pub record Bucket : Type 0 where
  pub level : ℕ
  pub charged : ℕ

-- The initial bucket: empty, at moment 0.
abbrev pub opening : Bucket
opening = record { level = 0; charged = 0 }

-- X' = max(0, X - (ta - LCT)): the level that is left at moment ta.
abbrev pub level_at : Bucket → ℕ → ℕ
level_at bucket moment = bucket.level - (moment - bucket.charged)

-- Whether a cell at moment ta conforms: it does if X' is at most tau.
abbrev pub conforms : Gcra → Bucket → ℕ → Bool
conforms gcra bucket moment = nat_le (level_at bucket moment) gcra.limit

-- The bucket after a conforming cell: the level is X' + T, and the last conformance time is ta.
abbrev pub filled : Gcra → Bucket → ℕ → Bucket
filled gcra bucket moment = record {
  level = level_at bucket moment + gcra.increment;
  charged = moment;
}

-- The bucket after a cell: a conforming cell fills it, any other leaves it unchanged.
abbrev pub bucket_after : Gcra → Bucket → ℕ → Bucket
bucket_after gcra bucket moment =
    if conforms gcra bucket moment then filled gcra bucket moment else bucket

-- For cells at these moments, in order: whether each conforms.
abbrev pub conformances : Gcra → Bucket → List ℕ → List Bool
conformances gcra bucket [] = []
conformances gcra bucket (moment ∷ moments) =
    conforms gcra bucket moment ∷ conformances gcra (bucket_after gcra bucket moment) moments

-- The moments of the cells that conform.
abbrev pub conforming : Gcra → Bucket → List ℕ → List ℕ
conforming gcra bucket [] = []
conforming gcra bucket (moment ∷ moments) =
    let later = conforming gcra (bucket_after gcra bucket moment) moments in
    if conforms gcra bucket moment then moment ∷ later else later
