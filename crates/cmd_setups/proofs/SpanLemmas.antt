-- The stored spans and the state that they show.
use Rattle.std.proofs.Common.{◌≡◌, ◌||◌, ℕ, nat_lt, Bool, true, false, if◌then◌else◌, List, [], refl, sym, ap, ◌∙◌, Option, Some, None, is_some}
use Rattle.card_core.specs.declared.answer.Answer.{Answer}
use Rattle.leaky.specs.declared.verdict.Verdict.{Verdict}
use Rattle.line_record.specs.declared.tally.Tally.{Tally}
use Rattle.upc_cell.specs.declared.vc.Vc.{Vc}
use Rattle.cmd_setups.specs.Columns.{verdict_given}
use Rattle.cmd_setups.specs.SpanCounts.{SpansWorld, span_begin, ended_text, ends_span, has_rows, is_begun_after, judged_after, next_span, present_text, rows_text, span_rows, spans_after, spans_at, with_judged_row}
use Rattle.cmd_setups.specs.declared.span_length.SpanLength.{SpanLength}
use Rattle.cmd_setups.specs.declared.spans.Spans.{Spans}
use Rattle.cmd_setups.specs.SpansShown.{ShowsSpans, length_ticks, own_begun_after, own_ended_text, own_text}
use Rattle.cmd_setups.specs.inner.SpansShown.{judged_cell}

-- The text about the present span is that of its rows.
pub text_same : (spans : Spans) (world : SpansWorld) → ShowsSpans spans world → own_text spans ≡ present_text world
text_same spans world shown =
    ap (λ side. rows_text side spans.begun spans.begin spans.rows.entries) shown.side
    ∙ ap (λ b. rows_text world.side b spans.begin spans.rows.entries) shown.begun ∙ ap (λ n. rows_text world.side world.begun n spans.rows.entries) shown.begin
    ∙ ap (λ rows. rows_text world.side world.begun world.present.begin rows) shown.rows

pub begun_same : (spans : Spans) (world : SpansWorld) → ShowsSpans spans world → own_begun_after spans ≡ is_begun_after world
begun_same spans world shown = ap (λ b. b || has_rows spans.rows.entries) shown.begun ∙ ap (λ rows. world.begun || has_rows rows) shown.rows

-- A moment ends the one if it ends the other.
pub ends_same : (spans : Spans) (world : SpansWorld) (moment : ℕ) → ShowsSpans spans world
    → nat_lt spans.begin (span_begin (length_ticks spans.length) moment) ≡ ends_span world moment
ends_same spans world moment shown =
    ap (λ n. nat_lt n (span_begin (length_ticks spans.length) moment)) shown.begin
    ∙ ap (λ ticks. nat_lt world.present.begin (span_begin ticks moment)) shown.length

pub ended_same : (spans : Spans) (world : SpansWorld) (moment : ℕ) → ShowsSpans spans world → own_ended_text spans moment ≡ ended_text world moment
ended_same spans world moment shown =
    ap (λ b. if b then own_text spans else []) (ends_same spans world moment shown)
    ∙ ap (λ text. if ends_span world moment then text else []) (text_same spans world shown)

-- Spans are written, if they are in the state that is shown.
pub ticks_given : (spans : Spans) (world : SpansWorld) → ShowsSpans spans world → is_some spans.length ≡ true → is_some world.ticks ≡ true
ticks_given spans world shown wanted = ap (λ (ticks : Option ℕ). is_some ticks) (sym shown.length) ∙ is_given spans.length wanted
  where
    is_given : (length : Option SpanLength) → is_some length ≡ true → is_some (length_ticks length) ≡ true
    is_given (Some length) wanted = refl
    is_given None wanted = cc

-- The rows after a cell of this connection with this verdict.
pub rows_counted : (world : SpansWorld) (given : Answer) (vc : Vc) (verdict : Verdict) (read : Vc) (old new : List (ℕ × (Vc × Tally)))
    → is_some world.ticks ≡ true → verdict_given given ≡ Some verdict → old ≡ span_rows world.present.cells → read ≡ vc
    → new ≡ with_judged_row old (judged_cell read verdict) → new ≡ span_rows (spans_after world vc given).present.cells
rows_counted world given vc verdict read old new wanted judged shown read_is counted =
    let cells = world.present.cells in
    counted ∙ ap (λ rows. with_judged_row rows (judged_cell read verdict)) shown ∙ ap (λ (v : Vc). with_judged_row (span_rows cells) (judged_cell v verdict)) read_is
    ∙ ap (λ (o : Option Verdict). span_rows (judged_after cells vc o)) (sym judged)
    ∙ ap (λ b. span_rows (if b then judged_after cells vc (verdict_given given) else cells)) (sym wanted)
