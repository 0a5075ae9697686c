-- What is proved of the counts in spans of time.
use Rattle.std.specs.Prelude.{◌≡◌, ◌<◌, ℕ, ◌+◌, ◌-◌, ◌^◌, min, if◌then◌else◌, All, List, [], ◌∷◌, Option, Some, None}
use Rattle.std.specs.BTreeMap.{is_at}
use Rattle.std.specs.Map.{lookup}
use Rattle.std.specs.Ordering.{nat_cmp}
use Rattle.card_core.specs.World.{Connection, connection_in}
use Rattle.captures_text.specs.CaptureText.{RunsThrough}
use Rattle.captures_text.specs.declared.captured_cell.CapturedCell.{CapturedCell}
use Rattle.leaky.specs.declared.verdict.Verdict.{Verdict}
use Rattle.line_record.specs.Tally.{count_of, tally_of}
use Rattle.line_record.specs.declared.tally.Tally.{Tally}
use Rattle.upc_cell.specs.Connection.{is_same_vc}
use Rattle.upc_cell.specs.declared.vc.Vc.{Vc}
use Rattle.cmd_run.specs.RunText.{Card, IsLed}
use Rattle.cmd_setups.specs.ConnectionCounts.{own_counts}
use Rattle.cmd_setups.specs.OrderNumber.{order_number}
use Rattle.cmd_police.specs.PoliceText.{PoliceWorld, police_rules, police_start}
use Rattle.cmd_police.specs.RuleColumn.{ShownRules}
use Rattle.cmd_setups.specs.SpanCounts.{JudgedCell, SpansWorld, TimeSpan, span_rows}
use Rattle.cmd_police.specs.declared.scope.PoliceScope.{PoliceScope}

-- The verdicts on the cells of this connection among these.
abbrev pub verdicts_of : Vc → List JudgedCell → List Verdict
verdicts_of vc [] = []
verdicts_of vc (cell ∷ earlier) = if is_same_vc vc cell.vc then cell.verdict ∷ verdicts_of vc earlier else verdicts_of vc earlier

-- How many cells of this connection have this verdict in these spans.
abbrev pub count_in_spans : Vc → Verdict → List TimeSpan → ℕ
count_in_spans vc verdict [] = 0
count_in_spans vc verdict (span ∷ spans) = count_of (tally_of (verdicts_of vc span.cells)) verdict + count_in_spans vc verdict spans

-- All spans of a run so far.
abbrev pub all_spans : SpansWorld → List TimeSpan
all_spans spans = spans.present ∷ spans.ended

-- The spans of a run without commands add up: the counts of a connection after the run are those before, and those of
-- all spans.
abbrev pub SpansAddUp : Type 0
SpansAddUp = (scope : PoliceScope) (nanoseconds tick : ℕ) (rules : ShownRules) (card : Card) (cells : List CapturedCell) (last : PoliceWorld) → scope.every ≡ Some nanoseconds
    → IsLed card → RunsThrough police_rules (police_start scope tick rules card []) cells last
    → (vc : Vc) (connection : Connection) → connection_in last.card.world.connections vc ≡ Some connection
    → (before : Connection) × (connection_in card.world.connections vc ≡ Some before)
    × ((verdict : Verdict) → count_of (own_counts connection) verdict ≡ count_of (own_counts before) verdict + count_in_spans vc verdict (all_spans last.spans))

-- A count as it is written: a number of 64 bits at most.
abbrev pub in_a_word : ℕ → ℕ
in_a_word count = min count (2 ^ 64 - 1)

-- The counts as they are written.
abbrev pub in_words : Tally → Tally
in_words tally = record {
  passed = in_a_word tally.passed;
  tagged = in_a_word tally.tagged;
  discarded = in_a_word tally.discarded;
  refused = in_a_word tally.refused;
}

-- The row of a connection with these verdicts. Without a verdict there is none.
abbrev pub row_of : Vc → List Verdict → Option (Vc × Tally)
row_of vc [] = None
row_of vc (verdict ∷ earlier) = Some (vc, in_words (tally_of (verdict ∷ earlier)))

-- The rows of a span have, for each connection, the counts of its cells in the span, and none for a connection without
-- cells. A channel has 16 bits.
abbrev pub RowsCountCells : Type 0
RowsCountCells = (cells : List JudgedCell) → All (λ cell. cell.vc.vci < 2 ^ 16) cells → (vc : Vc) → vc.vci < 2 ^ 16
    → lookup (is_at (nat_cmp (order_number vc))) (span_rows cells) ≡ row_of vc (verdicts_of vc cells)
