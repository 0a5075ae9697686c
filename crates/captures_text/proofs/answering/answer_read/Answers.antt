-- A cell ends the run, or the run goes on, or what comes after the cells ends it.
use Rattle.std.proofs.Common.{Some, refl, subst, sym}
use Rattle.captures_text.specs.CellFilter.{Closes, Crosses}
use Rattle.captures_text.specs.CellFollowing.{OfEachWorld}
use Rattle.captures_text.specs.inner.Ahead.{EndsAfter}
use Rattle.captures_text.specs.declared.reading_ahead.StopReason.{StopReason}
use Rattle.captures_text.specs.declared.reading_ahead.StopReason.TheVariants as stop
use Rattle.captures_text.proofs.AdvanceLemmas.{ends_after, ends_at_cell}
use Rattle.captures_text.proofs.CellTexts.{answers_same, answers_turn}
use Rattle.captures_text.proofs.answering.answer_read.Goals as goal
use Rattle.text_io.specs.declared.machine.Turn.TheVariants.{GoesOn, Ends}

pub returns-in-Ends-clause-ends : goal.returns-in-Ends-clause-ends
returns-in-Ends-clause-ends g c = λ end.
    let f = g.F.CellFollower in
    let shown = f.shows c.args.follower.now in
    let shown' = f.shows c.answer_cells.new.follower in
    let cells = c.args.cells.now.items in
    let old = c.args.answers.now.items in
    let new = c.answer_cells.new.answers.items in
    ends_at_cell f.rules shown shown' c.args.reading.now c.args.stop cells old new
    (answers_same f.rules shown shown' c.deref.result.now cells Ends old new c.deref.ensures.value
    (answers_turn f.rules shown shown' c.deref.result.now c.in_ok-answer_cells.field-0 Ends old new c.in-Ends.is c.in_ok-answer_cells.ensures))

pub returns-in-NeedsOctets-clause-goes_on : goal.returns-in-NeedsOctets-clause-goes_on
returns-in-NeedsOctets-clause-goes_on g c = λ on.
    let f = g.F.CellFollower in
    let shown = f.shows c.args.follower.now in
    let shown' = f.shows c.answer_cells.new.follower in
    let cells = c.args.cells.now.items in
    let old = c.args.answers.now.items in
    let new = c.answer_cells.new.answers.items in
    answers_same f.rules shown shown' c.deref.result.now cells GoesOn old new c.deref.ensures.value
    (answers_turn f.rules shown shown' c.deref.result.now c.in_ok-answer_cells.field-0 GoesOn old new c.in-GoesOn.is c.in_ok-answer_cells.ensures)

pub returns-in-Enough-clause-goes_on : goal.returns-in-Enough-clause-goes_on
returns-in-Enough-clause-goes_on g c = λ on.
    let f = g.F.CellFollower in
    let shown = f.shows c.args.follower.now in
    let shown' = f.shows c.answer_cells.new.follower in
    let cells = c.args.cells.now.items in
    let old = c.args.answers.now.items in
    let new = c.answer_cells.new.answers.items in
    answers_same f.rules shown shown' c.deref.result.now cells GoesOn old new c.deref.ensures.value
    (answers_turn f.rules shown shown' c.deref.result.now c.in_ok-answer_cells.field-0 GoesOn old new c.in-GoesOn.is c.in_ok-answer_cells.ensures)

pub returns-in_ok-add_several-in-SecondLink-clause-ends : goal.returns-in_ok-add_several-in-SecondLink-clause-ends
returns-in_ok-add_several-in-SecondLink-clause-ends g c = λ end.
    let f = g.F.CellFollower in
    let shown = f.shows c.args.follower.now in
    let shown' = f.shows c.answer_cells.new.follower in
    let cells = c.args.cells.now.items in
    let old = c.args.answers.now.items in
    let between = c.answer_cells.new.answers.items in
    let new = c.add_several.new.answers.items in
    let answers = answers_same f.rules shown shown' c.deref.result.now cells GoesOn old between c.deref.ensures.value
    (answers_turn f.rules shown shown' c.deref.result.now c.in_ok-answer_cells.field-0 GoesOn old between c.in-GoesOn.is c.in_ok-answer_cells.ensures) in
    subst (λ (how : StopReason). OfEachWorld f.rules shown (λ world. EndsAfter f.rules c.args.reading.now how cells world old new)) (sym c.in-SecondLink.is)
    (ends_after f.rules shown shown' c.args.reading.now (stop.SecondLink c.in-SecondLink.one c.in-SecondLink.other) cells (Crosses c.in-SecondLink.one c.in-SecondLink.other)
    old between new answers (λ more later end comes. comes) refl (λ world sound is_shown. c.in_ok-add_several-in-SecondLink.ensures))

pub returns-in_ok-close_at-in-Broken-clause-ends : goal.returns-in_ok-close_at-in-Broken-clause-ends
returns-in_ok-close_at-in-Broken-clause-ends g c = λ end.
    let f = g.F.CellFollower in
    let reading = c.args.reading.now in
    let shown = f.shows c.args.follower.now in
    let shown' = f.shows c.answer_cells.new.follower in
    let cells = c.args.cells.now.items in
    let old = c.args.answers.now.items in
    let between = c.answer_cells.new.answers.items in
    let new = c.close_at.new.answers.items in
    let answers = answers_same f.rules shown shown' c.deref.result.now cells GoesOn old between c.deref.ensures.value
    (answers_turn f.rules shown shown' c.deref.result.now c.in_ok-answer_cells.field-0 GoesOn old between c.in-GoesOn.is c.in_ok-answer_cells.ensures) in
    subst (λ (how : StopReason). OfEachWorld f.rules shown (λ world. EndsAfter f.rules reading how cells world old new)) (sym c.in-Broken.is)
    (ends_after f.rules shown shown' reading (stop.Broken c.in-Broken.fault) cells (Closes reading.filter.summary (Some c.in-Broken.fault))
    old between new answers (λ more later end comes. comes) refl c.in_ok-close_at-in-Broken.ensures)
