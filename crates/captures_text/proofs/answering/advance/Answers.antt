-- Each way through a step: the cells that were read wait, or are answered too, or the run ends.
use Rattle.std.proofs.Common.{List, sym, subst}
use Rattle.std.proofs.lemmas.Result.{IfOk-weaker}
use Rattle.captures_text.specs.inner.Ahead.{ReadsCells}
use Rattle.captures_text.specs.declared.answering.StepOutcome.TheVariants as outcome
use Rattle.captures_text.specs.declared.captured_cell.CapturedCell.{CapturedCell}
use Rattle.captures_text.proofs.AdvanceLemmas.{advances_answered, advances_read, advances_to_end, ends_before}
use Rattle.captures_text.proofs.CellTexts.{answers_same, answers_turn}
use Rattle.captures_text.proofs.Progresses.{if_both}
use Rattle.captures_text.proofs.answering.advance.Goals as goal
use Rattle.text_io.specs.declared.machine.Turn.TheVariants.{GoesOn, Ends}

pub returns-in-Ends-clause-ends : goal.returns-in-Ends-clause-ends
returns-in-Ends-clause-ends g c = λ end.
    let f = g.F.CellFollower in
    let shown = f.shows c.args.follower.now in
    let shown' = f.shows c.answer_cells.new.follower in
    let cells = c.args.queue.now.cells.items in
    let old = c.args.answers.now.items in
    let new = c.answer_cells.new.answers.items in
    ends_before f.rules shown shown' c.args.reading.now cells old new
    (answers_same f.rules shown shown' c.deref.result.now cells Ends old new c.deref.ensures.value
    (answers_turn f.rules shown shown' c.deref.result.now c.in_ok-answer_cells.field-0 Ends old new c.in-Ends.is c.in_ok-answer_cells.ensures))

pub returns-in-NeedsOctets-clause-goes_on : goal.returns-in-NeedsOctets-clause-goes_on
returns-in-NeedsOctets-clause-goes_on g c = λ on.
    let f = g.F.CellFollower in
    let shown = f.shows c.args.follower.now in
    let shown' = f.shows c.answer_cells.new.follower in
    let first = c.args.reading.now in
    let last = c.read.new.self in
    let cells = c.args.queue.now.cells.items in
    let spare = c.args.queue.now.spare.items in
    let fresh = c.take_next_cells.new.self.cells.items in
    let old = c.args.answers.now.items in
    let between = c.answer_cells.new.answers.items in
    let answers = answers_same f.rules shown shown' c.deref.result.now cells GoesOn old between c.deref.ensures.value
    (answers_turn f.rules shown shown' c.deref.result.now c.in_ok-answer_cells.field-0 GoesOn old between c.in-GoesOn.is c.in_ok-answer_cells.ensures) in
    let reads = subst (λ (cells : List CapturedCell). ReadsCells first c.in_ok-stop.stop last spare cells) (sym c.take_next_cells.ensures.cells) c.in_ok-stop.ensures in
    advances_read f.rules shown shown' first last outcome.NeedsOctets c.in_ok-stop.stop cells spare fresh old between answers reads c.requires (λ e. cc) c.in-NeedsOctets.is

pub returns-clause-goes_on : goal.returns-clause-goes_on
returns-clause-goes_on g c =
    let f = g.F.CellFollower in
    let shown = f.shows c.args.follower.now in
    let shown' = f.shows c.answer_cells.new.follower in
    let shown'' = f.shows c.answer_read.new.follower in
    let first = c.args.reading.now in
    let last = c.read.new.self in
    let cells = c.args.queue.now.cells.items in
    let spare = c.args.queue.now.spare.items in
    let fresh = c.take_next_cells.new.self.cells.items in
    let old = c.args.answers.now.items in
    let between = c.answer_cells.new.answers.items in
    let answers = answers_same f.rules shown shown' c.deref.result.now cells GoesOn old between c.deref.ensures.value
    (answers_turn f.rules shown shown' c.deref.result.now c.in_ok-answer_cells.field-0 GoesOn old between c.in-GoesOn.is c.in_ok-answer_cells.ensures) in
    let reads = subst (λ (cells : List CapturedCell). ReadsCells first c.in_ok-stop.stop last spare cells) (sym c.take_next_cells.ensures.cells) c.in_ok-stop.ensures in
    let how = if_both c.answer_read.result _ _ c.answer_read.ensures.goes_on (if_both c.answer_read.result _ _ c.answer_read.ensures.none c.answer_read.ensures.by) in
    IfOk-weaker c.answer_read.result _ _
    (λ how all on.
    advances_answered f.rules shown shown' shown'' first last cells fresh c.answer_read.new.cells.items old between c.answer_read.new.answers.items
    (advances_read f.rules shown shown' first last how c.in_ok-stop.stop cells spare fresh old between answers reads c.requires on all.1.1)
    (all.0 on) (all.1.0 on))
    how

pub returns-clause-ends : goal.returns-clause-ends
returns-clause-ends g c =
    let f = g.F.CellFollower in
    let shown = f.shows c.args.follower.now in
    let shown' = f.shows c.answer_cells.new.follower in
    let first = c.args.reading.now in
    let last = c.read.new.self in
    let cells = c.args.queue.now.cells.items in
    let spare = c.args.queue.now.spare.items in
    let fresh = c.take_next_cells.new.self.cells.items in
    let old = c.args.answers.now.items in
    let between = c.answer_cells.new.answers.items in
    let answers = answers_same f.rules shown shown' c.deref.result.now cells GoesOn old between c.deref.ensures.value
    (answers_turn f.rules shown shown' c.deref.result.now c.in_ok-answer_cells.field-0 GoesOn old between c.in-GoesOn.is c.in_ok-answer_cells.ensures) in
    let reads = subst (λ (cells : List CapturedCell). ReadsCells first c.in_ok-stop.stop last spare cells) (sym c.take_next_cells.ensures.cells) c.in_ok-stop.ensures in
    IfOk-weaker c.answer_read.result _ _
    (λ how ends end.
    advances_to_end f.rules shown shown' first last c.in_ok-stop.stop cells spare fresh old between c.answer_read.new.answers.items
    answers reads c.requires (ends end))
    c.answer_read.ensures.ends
