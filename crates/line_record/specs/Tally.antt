-- Counts of verdicts.
use Rattle.std.specs.Prelude.{ℕ, ◌+◌, ◌^◌, ◌<◌, ◌≤◌, List, [], ◌∷◌}
use Rattle.leaky.specs.declared.verdict.Verdict.{Verdict}
use Rattle.leaky.specs.declared.verdict.Verdict.TheVariants.{Pass, Tag, Discard, Refuse}
use Rattle.line_record.specs.declared.tally.Tally.{Tally}

-- No cell was judged.
abbrev pub nothing : Tally
nothing = record { passed = 0; tagged = 0; discarded = 0; refused = 0 }

-- The counts with one more cell of this verdict.
abbrev pub counted : Tally → Verdict → Tally
counted tally Pass = record tally { passed = tally.passed + 1 }
counted tally Tag = record tally { tagged = tally.tagged + 1 }
counted tally Discard = record tally { discarded = tally.discarded + 1 }
counted tally Refuse = record tally { refused = tally.refused + 1 }

-- The counts of these verdicts.
abbrev pub tally_of : List Verdict → Tally
tally_of [] = nothing
tally_of (verdict ∷ later) = counted (tally_of later) verdict

-- The number of the cells with this verdict.
abbrev pub count_of : Tally → Verdict → ℕ
count_of tally Pass = tally.passed
count_of tally Tag = tally.tagged
count_of tally Discard = tally.discarded
count_of tally Refuse = tally.refused

-- The number of all cells.
abbrev pub cells_in : Tally → ℕ
cells_in tally = tally.passed + tally.tagged + tally.discarded + tally.refused

-- Each number is below 2^62.
pub record HasRoom (tally : Tally) : Type 0 where
  pub passed : tally.passed < 2 ^ 62
  pub tagged : tally.tagged < 2 ^ 62
  pub discarded : tally.discarded < 2 ^ 62
  pub refused : tally.refused < 2 ^ 62

-- The sum of two tallies.
abbrev pub plus : Tally → Tally → Tally
plus one other = record {
  passed = one.passed + other.passed;
  tagged = one.tagged + other.tagged;
  discarded = one.discarded + other.discarded;
  refused = one.refused + other.refused;
}

-- The sum of all tallies of a list.
abbrev pub total : List Tally → Tally
total [] = nothing
total (tally ∷ later) = plus tally (total later)

-- Each number is below 2^64, so it fits in a machine word.
pub record FitsWords (tally : Tally) : Type 0 where
  pub passed : tally.passed < 2 ^ 64
  pub tagged : tally.tagged < 2 ^ 64
  pub discarded : tally.discarded < 2 ^ 64
  pub refused : tally.refused < 2 ^ 64

-- For each verdict, the part has at most as many cells as the whole.
pub record IsPartTally (part whole : Tally) : Type 0 where
  pub passed : part.passed ≤ whole.passed
  pub tagged : part.tagged ≤ whole.tagged
  pub discarded : part.discarded ≤ whole.discarded
  pub refused : part.refused ≤ whole.refused
