-- Runs of `police` over the same cells, from cards that are alike, have the same text.
use Rattle.std.proofs.Common.{◌≡◌, ℕ, ◌+◌, ◌≤◌, ◌<◌, ◌^◌, ◌||◌, if◌then◌else◌, List, [], ◌∷◌, ◌++◌, length, decimal, Option, Some, None, is_some, refl, sym, ap, ◌∙◌, subst, arith}
use Rattle.std.specs.Option.{MatchOption}
use Rattle.captures.specs.declared.fault.Fault.{Fault}
use Rattle.card_core.specs.declared.answer.Answer.{Answer}
use Rattle.captures_text.specs.CaptureText.{IsTextOfCells, text_at_end}
use Rattle.captures_text.specs.CellFilter.{CellsEnd, Closes, Crosses}
use Rattle.captures_text.specs.RunLines.{closing_lines}
use Rattle.captures_text.specs.declared.captured_cell.CapturedCell.{CapturedCell}
use Rattle.captures_text.specs.declared.reading_summary.ReadingSummary.{ReadingSummary}
use Rattle.gen_arena.specs.Slot.{greatest_generation}
use Rattle.leaky.specs.declared.excess.Excess.{Excess}
use Rattle.text_io.specs.Words.{is_filled}
use Rattle.text_io.specs.declared.ending.Done.{Done}
use Rattle.text_io.specs.declared.ending.Done.TheVariants.{Ended}
use Rattle.text_io.specs.inner.Alike.{LeadAlike}
use Rattle.text_card.specs.Replies.{number_of_judging}
use Rattle.text_script.specs.ReplyTexts.{channel_name}
use Rattle.upc_cell.specs.Connection.{vc_of}
use Rattle.upc_cell.specs.Header.{has_low_priority}
use Rattle.upc_cell.specs.declared.vc.Vc.{Vc}
use Rattle.cmd_run.proofs.alike.LinesAlike.{CardsAlike}
use Rattle.cmd_run.specs.RunText.{Card}
use Rattle.cmd_setups.specs.CommandsUnderTraffic.{waiting_comment}
use Rattle.cmd_setups.specs.ConnectionCounts.{counts_heading, counts_lines}
use Rattle.cmd_setups.specs.NotJudgedCells.{not_judged_lines}
use Rattle.cmd_police.specs.PoliceLines.{cell_columns, excess_of_answer, has_line, priority_digit, verdict_heading}
use Rattle.cmd_setups.specs.Columns.{in_column}
use Rattle.cmd_police.specs.RuleColumn.{line_end}
use Rattle.cmd_police.specs.PoliceText.{PoliceWorld, PolicesArrived, PolicesCaptured, after_cell, has_lines_before, police_closes, police_gap, police_rules, policed_text}
use Rattle.cmd_setups.specs.CellsTaken.{connection_of_cell}
use Rattle.cmd_setups.specs.RunComments.{run_comments}
use Rattle.cmd_setups.specs.SpanCounts.{ended_text, judged_after, present_text, spans_after, spans_at}
use Rattle.cmd_police.proofs.one_text.AnswersShown.{columns_alike, excess_alike, lines_alike, not_judged_alike, table_alike, verdicts_alike}
use Rattle.cmd_police.proofs.one_text.CellAlike.{room_alike}
use Rattle.cmd_police.proofs.one_text.CommandsAlike.{carried_alike}

-- This state with another card.
abbrev pub with_card : Card → PoliceWorld → PoliceWorld
with_card card world = record world { card = card }

-- Before this many cells: the states differ only in their cards, and those are alike. There are fewer commands than a slot has generations,
-- and fewer cells than a line has verdicts.
pub record StatesAlike (lines counts left : ℕ) (one other : PoliceWorld) : Type 0 where
  pub met : ℕ
  pub most : ℕ
  pub cards : CardsAlike met most one.card other.card
  pub lines_left : met + length one.waiting ≤ lines
  pub counts_left : most + length one.waiting + left ≤ counts
  pub rest : with_card other.card one ≡ other

-- ---- a cell that arrives

-- The text for a cell.
text_alike : (world : PoliceWorld) (card : Card) (captured : CapturedCell) (given given' : Answer) → world.card.world.shape.side ≡ card.world.shape.side
    → connection_of_cell world.card captured.cell ≡ connection_of_cell card captured.cell
    → has_line world.lines given ≡ has_line world.lines given'
    → excess_of_answer world.card.world (connection_of_cell world.card captured.cell) (has_low_priority captured.cell) given
    ≡ excess_of_answer card.world (connection_of_cell card captured.cell) (has_low_priority captured.cell) given'
    → ((excess : Option Excess) → cell_columns world.card.world.shape.side captured.number captured.moment (connection_of_cell world.card captured.cell) (has_low_priority captured.cell) given excess
    ≡ cell_columns world.card.world.shape.side captured.number captured.moment (connection_of_cell world.card captured.cell) (has_low_priority captured.cell) given' excess)
    → number_of_judging world.card.names given ≡ number_of_judging card.names given'
    → policed_text world captured given ≡ policed_text (with_card card world) captured given'
text_alike world card captured given given' sides named wanted excess line number =
    let clp = has_low_priority captured.cell in
    let own = excess_of_answer world.card.world (connection_of_cell world.card captured.cell) clp given in
    (λ i. if wanted i
    then (if world.has_heading then [] else verdict_heading world.rules) ++ (line own i ++ line_end world.rules (number i) captured.cell)
    else [])
    ∙ (λ i. if has_line world.lines given'
    then (if world.has_heading then [] else verdict_heading world.rules)
    ++ (cell_columns (sides i) captured.number captured.moment (named i) clp given' (excess i) ++ line_end world.rules (number_of_judging card.names given') captured.cell)
    else [])

module _ (lines counts : ℕ) (few : lines < greatest_generation) (unworn : counts < 2 ^ 62) (left : ℕ) where
  arrived_alike : (world : PoliceWorld) (card : Card) (met most : ℕ) → CardsAlike met most world.card card → met + length world.waiting ≤ lines
      → most + length world.waiting + (left + 1) ≤ counts → (captured : CapturedCell) (here here' : List ℕ) (next next' : Option PoliceWorld)
      → PolicesArrived world captured here next → PolicesArrived (with_card card world) captured here' next'
      → (here ≡ here') × LeadAlike (StatesAlike lines counts left) next next'
  arrived_alike world card met most cards lines_left counts_left captured here here' next next' p q =
      let unworn_here : most < 2 ^ 62 = omega (arith, unworn, counts_left) in
      let done = room_alike met most unworn_here world.card card p.card q.card cards captured.cell captured.moment p.given q.given p.taken q.taken in
      let sides : world.card.world.shape.side ≡ card.world.shape.side = λ i. (cards.views.rest i).shape.side in
      let named : connection_of_cell world.card captured.cell ≡ connection_of_cell card captured.cell = λ i. vc_of (sides i) captured.cell in
      let clp = has_low_priority captured.cell in
      let wanted = lines_alike p.given q.given done.answers world.lines in
      let excess = excess_alike world.card card cards.views (connection_of_cell world.card captured.cell) clp p.given q.given done.answers
      ∙ (λ i. excess_of_answer card.world (named i) clp q.given) in
      let columns = columns_alike p.given q.given done.answers in
      let vc = connection_of_cell world.card captured.cell in
      let text = text_alike world card captured p.given q.given sides named wanted excess
      (λ excess. ap (λ xs. in_column (decimal captured.number) ++ (in_column (decimal captured.moment) ++ (in_column (decimal vc.vpi) ++ (in_column (channel_name world.card.world.shape.side vc.vci)
      ++ (in_column (decimal (priority_digit clp)) ++ xs))))) (columns excess)) done.numbers in
      let verdicts = verdicts_alike p.given q.given done.answers in
      let not_judged = not_judged_alike p.given q.given done.answers world.not_judged captured.number in
      let at_moment = spans_at world.spans captured.moment in
      let spans : spans_after at_moment (connection_of_cell world.card captured.cell) p.given ≡ spans_after at_moment (connection_of_cell card captured.cell) q.given =
      λ i. record at_moment {
        present = record at_moment.present {
          cells = if is_some at_moment.ticks then judged_after at_moment.present.cells (named i) (verdicts i) else at_moment.present.cells;
        };
      } in
      let states : StatesAlike lines counts left (after_cell world captured p.given p.card) (after_cell (with_card card world) captured q.given q.card) = record {
        met = met;
        most = most + 1;
        cards = done.cards;
        lines_left = lines_left;
        counts_left = omega (arith, counts_left);
        rest = λ i. record world { card = q.card; has_heading = world.has_heading || wanted i; spans = spans i; not_judged = not_judged i };
      } in (
        p.written ∙ ap (λ xs. ended_text world.spans captured.moment ++ xs) text ∙ sym q.written,
        subst (λ (n : Option PoliceWorld). LeadAlike (StatesAlike lines counts left) n next') (sym p.after)
            (subst (λ (n : Option PoliceWorld). LeadAlike (StatesAlike lines counts left) (Some (after_cell world captured p.given p.card)) n) (sym q.after) states),
      )

  -- A cell, after the commands whose moment has come.
  captured_alike : (world : PoliceWorld) (card : Card) (met most : ℕ) → CardsAlike met most world.card card → met + length world.waiting ≤ lines
      → most + length world.waiting + (left + 1) ≤ counts → (captured : CapturedCell) (here here' : List ℕ) (next next' : Option PoliceWorld)
      → PolicesCaptured world captured here next → PolicesCaptured (with_card card world) captured here' next'
      → (here ≡ here') × LeadAlike (StatesAlike lines counts left) next next'
  captured_alike world card met most cards lines_left counts_left captured here here' next next' p q =
      let total = most + length world.waiting in
      let unworn_here : total < 2 ^ 62 = omega (arith, unworn, counts_left) in
      let same : most + length world.waiting ≤ total = omega arith in
      let carried = carried_alike lines total captured.moment few unworn_here world.waiting met most world.card card cards cards.first.led cards.second.led lines_left same
      p.first q.first p.commands.card q.commands.card p.commands.left q.commands.left p.commands.carried q.commands.carried in
      let ready : PoliceWorld = record world { card = p.commands.card; waiting = p.commands.left; commanded = world.commanded || is_filled p.first } in
      let waiting = carried.waiting in
      let texts = carried.texts in
      let own : q.ready ≡ with_card q.commands.card ready =
      q.commands.is ∙ (λ i. record world { card = q.commands.card; waiting = sym waiting i; commanded = world.commanded || is_filled (sym texts i) }) in
      let counts_after : carried.most + length p.commands.left + (left + 1) ≤ counts = let now = carried.counts_left in omega (arith, now, counts_left) in
      let done = arrived_alike ready q.commands.card carried.met carried.most carried.cards carried.lines_left counts_after captured p.rest q.rest next next'
      (subst (λ (w : PoliceWorld). PolicesArrived w captured p.rest next) p.commands.is p.policed)
      (subst (λ (w : PoliceWorld). PolicesArrived w captured q.rest next') own q.policed) in
      let rest = done.0 in
      (p.whole ∙ (λ i. texts i ++ rest i) ∙ sym q.whole, done.1)

-- ---- a run

-- The end of a run.
closes_alike : (world : PoliceWorld) (card : Card) (met most : ℕ) → CardsAlike met most world.card card → (summary : ReadingSummary) (ending : Option Fault)
    → police_closes world summary ending ≡ police_closes (with_card card world) summary ending
closes_alike world card met most cards summary ending =
    let table : counts_lines world.card.world ≡ counts_lines card.world = table_alike world.card card cards.views (2 ^ 28) in
    ap (λ xs. present_text world.spans ++ (police_gap (has_lines_before world) ++ (counts_heading ++ (xs
    ++ (not_judged_lines world.not_judged ++ (waiting_comment world.waiting ++ (run_comments world.tick summary ++ closing_lines summary ending))))))) table

module _ (lines counts : ℕ) (few : lines < greatest_generation) (unworn : counts < 2 ^ 62) where
  end_alike : (end : CellsEnd) (one other : PoliceWorld) → StatesAlike lines counts 0 one other → text_at_end police_rules one end ≡ text_at_end police_rules other end
  end_alike (Closes summary ending) one other states =
      closes_alike one other.card states.met states.most states.cards summary ending
      ∙ ap (λ (w : PoliceWorld). police_closes w summary ending) states.rest
  end_alike (Crosses link link') one other states = refl

  pub texts_alike : (cells : List CapturedCell) (end : CellsEnd) (one other : PoliceWorld) (text text' : List ℕ) (done done' : Done)
      → StatesAlike lines counts (length cells) one other → IsTextOfCells police_rules one cells end text done → IsTextOfCells police_rules other cells end text' done'
      → (text ≡ text') × (done ≡ done')
  texts_alike [] end one other text text' done done' states p q = (p.0 ∙ end_alike end one other states ∙ sym q.0, p.1 ∙ sym q.1)
  texts_alike (captured ∷ cells) end one other text text' done done' states p q =
      let steps : PolicesCaptured (with_card other.card one) captured q.0 q.2 = subst (λ (w : PoliceWorld). PolicesCaptured w captured q.0 q.2) (sym states.rest) q.4 in
      let counts_left : states.most + length one.waiting + (length cells + 1) ≤ counts = let now = states.counts_left in omega (arith, now) in
      let here = captured_alike lines counts few unworn (length cells) one other.card states.met states.most states.cards states.lines_left counts_left captured p.0 q.0 p.2 q.2 p.4 steps in
      let rest = later (λ v w more more' is a b. texts_alike cells end v w more more' done done' is a b) p.2 q.2 p.1 q.1 here.1 p.5 q.5 in
      (p.3 ∙ ap (λ xs. xs ++ p.1) here.0 ∙ ap (λ xs. q.0 ++ xs) rest.0 ∙ sym q.3, rest.1)
    where
      Later : Type 0
      Later = (v w : PoliceWorld) (more more' : List ℕ) → StatesAlike lines counts (length cells) v w → IsTextOfCells police_rules v cells end more done
          → IsTextOfCells police_rules w cells end more' done' → (more ≡ more') × (done ≡ done')

      later : Later → (next next' : Option PoliceWorld) (more more' : List ℕ) → LeadAlike (StatesAlike lines counts (length cells)) next next'
          → MatchOption next ((more ≡ []) × (done ≡ Ended)) (λ w. IsTextOfCells police_rules w cells end more done)
          → MatchOption next' ((more' ≡ []) × (done' ≡ Ended)) (λ w. IsTextOfCells police_rules w cells end more' done')
          → (more ≡ more') × (done ≡ done')
      later go None None more more' states a b = (a.0 ∙ sym b.0, a.1 ∙ sym b.1)
      later go None (Some w) more more' states a b = absurd states
      later go (Some v) None more more' states a b = absurd states
      later go (Some v) (Some w) more more' states a b = go v w more more' states a b
