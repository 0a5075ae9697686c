-- The spans of a run as the code stores them, and the states that they show.
use Rattle.std.specs.Prelude.{◌≡◌, ◌||◌, ℕ, nat_lt, Bool, if◌then◌else◌, List, [], Option, option_map}
use Rattle.cmd_setups.specs.SpanCounts.{SpansWorld, span_begin, has_rows, rows_text, span_rows}
use Rattle.cmd_setups.specs.declared.span_length.SpanLength.{SpanLength}
use Rattle.cmd_setups.specs.declared.spans.Spans.{Spans}

-- The ticks of a span, if spans are written.
abbrev pub length_ticks : Option SpanLength → Option ℕ
length_ticks length = option_map (λ it. it.ticks) length

-- The spans have what the state has.
pub record ShowsSpans (spans : Spans) (world : SpansWorld) : Type 0 where
  pub side : spans.side ≡ world.side
  pub length : length_ticks spans.length ≡ world.ticks
  pub begin : spans.begin ≡ world.present.begin
  pub rows : spans.rows.entries ≡ span_rows world.present.cells
  pub begun : spans.begun ≡ world.begun

-- The text about the present span, as it is stored.
abbrev pub own_text : Spans → List ℕ
own_text spans = rows_text spans.side spans.begun spans.begin spans.rows.entries

-- The same if a cell at this moment ends the span.
abbrev pub own_ended_text : Spans → ℕ → List ℕ
own_ended_text spans moment = if nat_lt spans.begin (span_begin (length_ticks spans.length) moment) then own_text spans else []

-- Whether the heading is written after the present span, as it is stored.
abbrev pub own_begun_after : Spans → Bool
own_begun_after spans = spans.begun || has_rows spans.rows.entries
