-- Levels continue to represent the buckets.
use Rattle.std.proofs.Common.{ℕ, ◌+◌, ◌^◌, ◌≤◌, Bool, true, false, List, [], ◌∷◌, All, refl, arith}
use Rattle.std.proofs.lemmas.Bool.Decides.{nat_tests}
use Rattle.std.proofs.lemmas.List.Elements.{All-head, All-tail}
use Rattle.leaky.specs.declared.contract.Contract.{Contract}
use Rattle.leaky.specs.declared.contract.Contract.TheVariants.{Cbr1, Vbr1, Vbr2, Vbr3}
use Rattle.leaky.specs.Contract.{Buckets, buckets_after}
use Rattle.leaky.specs.Arrivals.{Arrival, buckets_left}
use Rattle.leaky.specs.Laws.{LevelsStandForBuckets, LevelsFollowBuckets, ChargesKeepUp}

-- The full level of each bucket, as a moment, is at most the largest theoretical arrival time.
record AreBounded (buckets : Buckets) : Type 0 where
  first : buckets.first.level + buckets.first.charged ≤ 2 ^ 62 + 2 ^ 49
  second : buckets.second.level + buckets.second.charged ≤ 2 ^ 62 + 2 ^ 49

-- After one cell.
AreBounded-after : (contract : Contract) (buckets : Buckets) (clp : Bool) (moment : ℕ)
    → moment ≤ 2 ^ 62 → AreBounded buckets → AreBounded (buckets_after contract buckets clp moment)
AreBounded-after (Cbr1 peak) buckets clp moment h bounded = record {
  first = grind (arith, nat_tests);
  second = grind (arith, nat_tests);
}
AreBounded-after (Vbr1 peak sustained) buckets clp moment h bounded = record {
  first = grind (arith, nat_tests);
  second = grind (arith, nat_tests);
}
AreBounded-after (Vbr2 peak sustained) buckets true moment h bounded = record {
  first = grind (arith, nat_tests);
  second = grind (arith, nat_tests);
}
AreBounded-after (Vbr2 peak sustained) buckets false moment h bounded = record {
  first = grind (arith, nat_tests);
  second = grind (arith, nat_tests);
}
AreBounded-after (Vbr3 peak sustained) buckets true moment h bounded = record {
  first = grind (arith, nat_tests);
  second = grind (arith, nat_tests);
}
AreBounded-after (Vbr3 peak sustained) buckets false moment h bounded = record {
  first = grind (arith, nat_tests);
  second = grind (arith, nat_tests);
}

-- After any cells.
AreBounded-left : (contract : Contract) (buckets : Buckets) (arrivals : List Arrival)
    → AreBounded buckets → All (λ a. a.moment ≤ 2 ^ 62) arrivals
    → AreBounded (buckets_left contract buckets arrivals)
AreBounded-left contract buckets [] bounded moments = bounded
AreBounded-left contract buckets (arrival ∷ later) bounded moments =
    AreBounded-left contract (buckets_after contract buckets arrival.clp arrival.moment) later
    (AreBounded-after contract buckets arrival.clp arrival.moment (All-head (λ a. a.moment ≤ 2 ^ 62) arrival later moments) bounded)
    (All-tail (λ a. a.moment ≤ 2 ^ 62) arrival later moments)

-- So levels follow the buckets.
pub levels-follow : LevelsFollowBuckets
levels-follow contract levels buckets arrivals agrees moments =
    let left = buckets_left contract buckets arrivals in
    let bounded = AreBounded-left contract buckets arrivals (record { first = omega arith; second = omega arith }) moments in (
      record {
        first = left.first.level + left.first.charged;
        second = left.second.level + left.second.charged;
        first_bounded = bounded.first;
        second_bounded = bounded.second;
      },
      record { first = refl; second = refl },
    )

-- A theoretical arrival time is the level of a bucket charged at 0.
pub levels-stand : LevelsStandForBuckets
levels-stand levels = (
  record {
    first = record { level = levels.first; charged = 0 };
    second = record { level = levels.second; charged = 0 };
  },
  record { first = omega arith; second = omega arith },
  record { first = omega arith; second = omega arith },
)

-- A cell charges a bucket at its own moment or not at all.
pub charges-keep_up : ChargesKeepUp
charges-keep_up (Cbr1 peak) buckets clp moment h = record {
  first = grind (arith, nat_tests);
  second = grind (arith, nat_tests);
}
charges-keep_up (Vbr1 peak sustained) buckets clp moment h = record {
  first = grind (arith, nat_tests);
  second = grind (arith, nat_tests);
}
charges-keep_up (Vbr2 peak sustained) buckets true moment h = record {
  first = grind (arith, nat_tests);
  second = grind (arith, nat_tests);
}
charges-keep_up (Vbr2 peak sustained) buckets false moment h = record {
  first = grind (arith, nat_tests);
  second = grind (arith, nat_tests);
}
charges-keep_up (Vbr3 peak sustained) buckets true moment h = record {
  first = grind (arith, nat_tests);
  second = grind (arith, nat_tests);
}
charges-keep_up (Vbr3 peak sustained) buckets false moment h = record {
  first = grind (arith, nat_tests);
  second = grind (arith, nat_tests);
}
