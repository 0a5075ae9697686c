-- The cells that were judged in a span of time, and the counts of each connection in it.
use Rattle.std.specs.Prelude.{ℕ, ◌+◌, ◌-◌, ◌/◌, ◌%◌, ◌^◌, max, min, nat_lt, Bool, true, false, ◌||◌, if◌then◌else◌, List, [], ◌∷◌, ◌++◌, codes, decimal, flat_map, Option, Some, None, is_some}
use Rattle.std.specs.BTreeMap.{insert_entry, is_at}
use Rattle.std.specs.Map.{lookup, values_of}
use Rattle.std.specs.Ordering.{nat_cmp}
use Rattle.card_core.specs.declared.answer.Answer.{Answer}
use Rattle.leaky.specs.declared.verdict.Verdict.{Verdict}
use Rattle.leaky.specs.declared.verdict.Verdict.TheVariants.{Pass, Tag, Discard, Refuse}
use Rattle.line_record.specs.Tally.{nothing}
use Rattle.line_record.specs.declared.tally.Tally.{Tally}
use Rattle.upc_cell.specs.declared.side.Side.{Side}
use Rattle.upc_cell.specs.declared.vc.Vc.{Vc}
use Rattle.cmd_setups.specs.ConnectionCounts.{counts_line}
use Rattle.cmd_setups.specs.OrderNumber.{order_number}
use Rattle.cmd_setups.specs.Columns.{in_column, verdict_given}

-- A judged cell: its connection and its verdict.
pub record JudgedCell : Type 0 where
  pub vc : Vc
  pub verdict : Verdict

-- A span of time: the moment at which it begins, and the cells that were judged in it, the latest first.
pub record TimeSpan : Type 0 where
  pub begin : ℕ
  pub cells : List JudgedCell

-- The ticks of a span that was asked for, in nanoseconds, where a tick has this many: whole ticks only, and at least one.
abbrev pub ticks_of_span : ℕ → ℕ → ℕ
ticks_of_span nanoseconds tick = max (nanoseconds / tick) 1

-- The moment at which the span of this moment begins. Spans follow one another from moment 0 on.
abbrev pub begin_of_span : ℕ → ℕ → ℕ
begin_of_span ticks moment = moment - moment % ticks

-- One cell more, up to the largest number of 64 bits.
abbrev pub one_more_judged : ℕ → ℕ
one_more_judged count = min (count + 1) (2 ^ 64 - 1)

-- The counts with one more cell of this verdict.
abbrev pub with_judged : Tally → Verdict → Tally
with_judged tally Pass = record tally { passed = one_more_judged tally.passed }
with_judged tally Tag = record tally { tagged = one_more_judged tally.tagged }
with_judged tally Discard = record tally { discarded = one_more_judged tally.discarded }
with_judged tally Refuse = record tally { refused = one_more_judged tally.refused }

-- The counts in a row, if there is one.
abbrev pub counts_of_row : Option (Vc × Tally) → Tally
counts_of_row None = nothing
counts_of_row (Some row) = row.1

-- The rows of connections, by their numbers in the order of path and channel, with one more cell counted in the row of its connection.
abbrev pub with_judged_row : List (ℕ × (Vc × Tally)) → JudgedCell → List (ℕ × (Vc × Tally))
with_judged_row rows cell =
    insert_entry nat_cmp rows (order_number cell.vc)
    (cell.vc, with_judged (counts_of_row (lookup (is_at (nat_cmp (order_number cell.vc))) rows)) cell.verdict)

-- The rows of the connections of these cells, in order of path and channel.
abbrev pub span_rows : List JudgedCell → List (ℕ × (Vc × Tally))
span_rows [] = []
span_rows (cell ∷ earlier) = with_judged_row (span_rows earlier) cell

-- The heading of the lines about spans.
abbrev pub span_heading : List ℕ
span_heading = codes "span\tmoment\tvpi\tvci\tpassed\ttagged\tdiscarded\trefused\n"

-- The line of a connection of a card of this side, in a span that begins at this moment.
abbrev pub span_line : Side → ℕ → Vc × Tally → List ℕ
span_line side begin row = codes "span\t" ++ (in_column (decimal begin) ++ counts_line side row.0 row.1)

-- Whether a span with these rows has lines.
abbrev pub has_rows : List (ℕ × (Vc × Tally)) → Bool
has_rows [] = false
has_rows (row ∷ rows) = true

-- The text about a span that begins at this moment and has these rows: a line for each, and before the first line of all the heading.
abbrev pub rows_text : Side → Bool → ℕ → List (ℕ × (Vc × Tally)) → List ℕ
rows_text side begun begin rows =
    if has_rows rows then (if begun then [] else span_heading) ++ flat_map (span_line side begin) (values_of rows) else []

-- The spans of a run: the side of its card, how many ticks each has, if they are written, the present one, those
-- before, the latest first, and whether the heading was written.
pub record SpansWorld : Type 0 where
  pub side : Side
  pub ticks : Option ℕ
  pub present : TimeSpan
  pub ended : List TimeSpan
  pub begun : Bool

-- The spans at first.
abbrev pub spans_start : Side → Option ℕ → SpansWorld
spans_start side ticks = record { side = side; ticks = ticks; present = record { begin = 0; cells = [] }; ended = []; begun = false }

-- The text about the present span.
abbrev pub present_text : SpansWorld → List ℕ
present_text spans = rows_text spans.side spans.begun spans.present.begin (span_rows spans.present.cells)

-- Whether the heading is written after the present span.
abbrev pub is_begun_after : SpansWorld → Bool
is_begun_after spans = spans.begun || has_rows (span_rows spans.present.cells)

-- The spans after the end of the present one. The next one begins at this moment.
abbrev pub next_span : SpansWorld → ℕ → SpansWorld
next_span spans begin = record {
  side = spans.side;
  ticks = spans.ticks;
  present = record { begin = begin; cells = [] };
  ended = spans.present ∷ spans.ended;
  begun = is_begun_after spans;
}

-- The moment at which the span of this moment begins, if spans are written.
abbrev pub span_begin : Option ℕ → ℕ → ℕ
span_begin None moment = 0
span_begin (Some ticks) moment = begin_of_span ticks moment

-- Whether a cell at this moment ends the present span.
abbrev pub ends_span : SpansWorld → ℕ → Bool
ends_span spans moment = nat_lt spans.present.begin (span_begin spans.ticks moment)

-- The text about the present span, if a cell at this moment ends it.
abbrev pub ended_text : SpansWorld → ℕ → List ℕ
ended_text spans moment = if ends_span spans moment then present_text spans else []

-- The spans at this moment.
abbrev pub spans_at : SpansWorld → ℕ → SpansWorld
spans_at spans moment = if ends_span spans moment then next_span spans (span_begin spans.ticks moment) else spans

-- The judged cells with one more, if it was judged.
abbrev pub judged_after : List JudgedCell → Vc → Option Verdict → List JudgedCell
judged_after cells vc None = cells
judged_after cells vc (Some verdict) = (record { vc = vc; verdict = verdict }) ∷ cells

-- The spans after a cell of this connection with this answer. Its moment lies in the present span.
abbrev pub spans_after : SpansWorld → Vc → Answer → SpansWorld
spans_after spans vc given = record spans {
  present = record spans.present {
    cells = if is_some spans.ticks then judged_after spans.present.cells vc (verdict_given given) else spans.present.cells;
  };
}
