-- Programs that ask for verdicts cell by cell get the same ones from cards that are alike.
use Rattle.std.proofs.Common.{◌≡◌, ℕ, ◌+◌, ◌≤◌, ◌<◌, ◌^◌, List, ◌++◌, length, Option, refl, sym, ap, ◌∙◌, subst, arith}
use Rattle.captures.specs.declared.fault.Fault.{Fault}
use Rattle.captures_text.specs.RunLines.{closing_lines}
use Rattle.captures_text.specs.declared.captured_cell.CapturedCell.{CapturedCell}
use Rattle.captures_text.specs.declared.reading_summary.ReadingSummary.{ReadingSummary}
use Rattle.gen_arena.specs.Slot.{greatest_generation}
use Rattle.leaky.specs.declared.verdict.Verdict.{Verdict}
use Rattle.text_io.specs.Lines.{lines_of}
use Rattle.text_io.specs.Words.{is_filled}
use Rattle.cmd_run.proofs.alike.LinesAlike.{CardsAlike}
use Rattle.cmd_run.specs.RunText.{Card}
use Rattle.cmd_setups.specs.CommandsUnderTraffic.{CarriesOutWaiting, waiting_comment}
use Rattle.cmd_setups.specs.ConnectionCounts.{counts_heading, counts_lines}
use Rattle.cmd_setups.specs.NotJudgedCells.{not_judged_after, not_judged_lines}
use Rattle.cmd_setups.specs.SetUpScripts.{IsSetUpAtTimes}
use Rattle.cmd_police.specs.PoliceText.{police_gap}
use Rattle.cmd_police.specs.PolicedCards.{PolicedWorld, PolicesOneCell, policed_report, policed_start}
use Rattle.cmd_setups.specs.RunComments.{run_comments}
use Rattle.cmd_setups.specs.TimedLines.{WaitingCommand, waiting_at}
use Rattle.cmd_setups.specs.declared.not_judged.NotJudged.{NotJudged}
use Rattle.cmd_police.proofs.one_text.AnswersShown.{not_judged_alike, table_alike, verdicts_alike}
use Rattle.cmd_police.proofs.one_text.CellAlike.{room_alike}
use Rattle.cmd_police.proofs.one_text.CommandsAlike.{carried_alike}
use Rattle.cmd_police.proofs.one_text.OneText.{script_few, set_up_alike, waiting_few}

-- This state with another card.
abbrev pub with_card : Card → PolicedWorld → PolicedWorld
with_card card world = record world { card = card }

-- Before this many cells: the states differ only in their cards, and those are alike. There are fewer commands than a slot has generations,
-- and fewer cells than a line has verdicts.
pub record PolicedAlike (left : ℕ) (one other : PolicedWorld) : Type 0 where
  pub met : ℕ
  pub most : ℕ
  pub cards : CardsAlike met most one.card other.card
  pub lines_left : met + length one.waiting ≤ 2000000
  pub counts_left : most + length one.waiting + left ≤ 2 ^ 61 + 2000000
  pub rest : with_card other.card one ≡ other

-- The states at first.
pub starts_alike : (tick : ℕ) (script : List ℕ) (times : List (Option ℕ)) (one other : Card) → IsSetUpAtTimes script times one → IsSetUpAtTimes script times other
    → (left : ℕ) → left < 2 ^ 61
    → PolicedAlike left (policed_start tick one (waiting_at tick times (lines_of script))) (policed_start tick other (waiting_at tick times (lines_of script)))
starts_alike tick script times one other set_up set_up' left few =
    let waiting = waiting_few tick times (lines_of script) in
    let lines = script_few script times one set_up in
    let both = set_up_alike script times one other set_up set_up' in
    let most = both.most in
    record {
      met = both.met;
      most = both.met;
      cards = both.cards;
      lines_left = omega (arith, waiting, lines, most);
      counts_left = omega (arith, waiting, lines, most, few);
      rest = refl;
    }

-- The verdicts on a cell are equal, and the states after it are alike.
pub record JudgedAlike (left : ℕ) (verdict verdict' : Option Verdict) (after after' : PolicedWorld) : Type 0 where
  pub verdicts : verdict ≡ verdict'
  pub states : PolicedAlike left after after'

pub cell_judged_alike : (left : ℕ) (one other : PolicedWorld) (captured : CapturedCell) (verdict verdict' : Option Verdict) (after after' : PolicedWorld)
    → PolicedAlike (left + 1) one other → PolicesOneCell one captured verdict after → PolicesOneCell other captured verdict' after'
    → JudgedAlike left verdict verdict' after after'
cell_judged_alike left one other captured verdict verdict' after after' alike p q =
    let few : 2000000 < greatest_generation = omega arith in
    let counts_left = alike.counts_left in
    let total = alike.most + length one.waiting in
    let unworn : total < 2 ^ 62 = omega (arith, counts_left) in
    let whole : alike.most + length one.waiting ≤ total = omega arith in
    let carries : CarriesOutWaiting one.waiting captured.moment other.card q.lines q.ready after'.waiting =
    subst (λ (waiting : List WaitingCommand). CarriesOutWaiting waiting captured.moment other.card q.lines q.ready after'.waiting)
    (sym (ap (λ (w : PolicedWorld). w.waiting) alike.rest)) q.carried in
    let carried = carried_alike 2000000 total captured.moment few unworn one.waiting alike.met alike.most one.card other.card alike.cards
    alike.cards.first.led alike.cards.second.led alike.lines_left whole p.lines q.lines p.ready q.ready after.waiting after'.waiting p.carried carries in
    let now = carried.counts_left in
    let unworn_here : carried.most < 2 ^ 62 = omega (arith, unworn, now) in
    let cell = room_alike carried.met carried.most unworn_here p.ready q.ready after.card after'.card carried.cards captured.cell captured.moment p.given q.given p.taken q.taken in
    let waiting = carried.waiting in
    let texts = carried.texts in
    let answers : after.answers ≡ after'.answers = p.answered ∙ (λ i. (alike.rest i).answers ++ texts i) ∙ sym q.answered in
    let ticks : after.tick ≡ after'.tick = p.same ∙ ap (λ (w : PolicedWorld). w.tick) alike.rest ∙ sym q.same in
    let not_judged : after.not_judged ≡ after'.not_judged =
    p.counts ∙ ap (λ (cells : NotJudged). not_judged_after cells captured.number p.given) (ap (λ (w : PolicedWorld). w.not_judged) alike.rest)
    ∙ not_judged_alike p.given q.given cell.answers other.not_judged captured.number ∙ sym q.counts in
    record {
      verdicts = p.verdict_is ∙ verdicts_alike p.given q.given cell.answers ∙ sym q.verdict_is;
      states = record {
        met = carried.met;
        most = carried.most + 1;
        cards = cell.cards;
        lines_left = carried.lines_left;
        counts_left = omega (arith, now, counts_left);
        rest = λ i. record { card = after'.card; waiting = waiting i; answers = answers i; tick = ticks i; not_judged = not_judged i };
      };
    }

-- The reports at the end are equal.
pub reports_alike : (left : ℕ) (one other : PolicedWorld) → PolicedAlike left one other → (summary : ReadingSummary) (ending : Option Fault)
    → policed_report one summary ending ≡ policed_report other summary ending
reports_alike left one other alike summary ending =
    let table : counts_lines one.card.world ≡ counts_lines other.card.world = table_alike one.card other.card alike.cards.views (2 ^ 28) in
    ap (λ xs. one.answers ++ (police_gap (is_filled one.answers) ++ (counts_heading ++ (xs ++ (not_judged_lines one.not_judged
    ++ (waiting_comment one.waiting ++ (run_comments one.tick summary ++ closing_lines summary ending))))))) table
    ∙ ap (λ (w : PolicedWorld). policed_report w summary ending) alike.rest
