-- The sums of the counts of lines.
use Rattle.std.specs.Prelude.{ℕ, ◌≤◌, List}
use Rattle.std.specs.List.{sum_by}
use Rattle.line_record.specs.Line.{LineView}
use Rattle.card_core.specs.declared.sums.Totals.{Totals}

-- For each verdict, the sum of the counts of these lines.
abbrev pub totals_of : List LineView → Totals
totals_of lines = record {
  passed = sum_by (λ line. line.state.counts.passed) lines;
  tagged = sum_by (λ line. line.state.counts.tagged) lines;
  discarded = sum_by (λ line. line.state.counts.discarded) lines;
  refused = sum_by (λ line. line.state.counts.refused) lines;
}

-- Each sum is at most this number.
pub record AreAtMost (totals : Totals) (most : ℕ) : Type 0 where
  pub passed : totals.passed ≤ most
  pub tagged : totals.tagged ≤ most
  pub discarded : totals.discarded ≤ most
  pub refused : totals.refused ≤ most
