-- Shares of a card's ledgers, as contracts see them.
use Rattle.std.specs.Prelude.{ℕ, ◌+◌, ◌≤◌, ◌^◌}
use Rattle.leaky.specs.declared.verdict.Verdict.{Verdict}
use Rattle.line_record.specs.declared.tally.Tally.{Tally}
use Rattle.line_record.specs.Tally.{nothing, counted, plus}

-- Shares of four ledgers, one for each verdict: the number of parts of each, and their amounts.
pub record SharesView : Type 0 where
  pub parts : ℕ
  pub tally : Tally

-- `parts` parts that have counted no cell.
abbrev pub unused_shares : ℕ → SharesView
unused_shares parts = record { parts = parts; tally = nothing }

-- The shares after they count one cell with this verdict.
abbrev pub counted_share : SharesView → Verdict → SharesView
counted_share shares verdict = record shares { tally = counted shares.tally verdict }

-- The sum of both shares.
abbrev pub both_shares : SharesView → SharesView → SharesView
both_shares one other = record { parts = one.parts + other.parts; tally = plus one.tally other.tally }

-- Each count is at most 2^62.
pub record IsBoundedCount (tally : Tally) : Type 0 where
  pub passed : tally.passed ≤ 2 ^ 62
  pub tagged : tally.tagged ≤ 2 ^ 62
  pub discarded : tally.discarded ≤ 2 ^ 62
  pub refused : tally.refused ≤ 2 ^ 62
