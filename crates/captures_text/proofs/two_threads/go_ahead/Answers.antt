-- Each way through a step on two threads.
use Rattle.std.proofs.Common.{List, Option, inl, inr, subst, sym}
use Rattle.captures_text.specs.inner.Ahead.{FillsAndReads}
use Rattle.captures_text.specs.declared.captured_cell.CapturedCell.{CapturedCell}
use Rattle.captures_text.specs.declared.reading_ahead.StopReason.{StopReason}
use Rattle.captures_text.proofs.CellTexts.{answers_same, answers_turn}
use Rattle.captures_text.proofs.FillsAheadLemmas.{ahead_at_cell, ahead_ended, ahead_on, ahead_to_end, ends_by}
use Rattle.captures_text.proofs.two_threads.go_ahead.Goals as goal
use Rattle.text_io.specs.declared.machine.Turn.TheVariants.{GoesOn, Ends}

pub returns-in-Ends-clause-ahead : goal.returns-in-Ends-clause-ahead
returns-in-Ends-clause-ahead g c =
    let f = g.F.CellFollower in
    let known = g.I.Input.is_known in
    let shown = f.shows c.args.follower.now in
    let shown' = f.shows c.read_beside.new.follower in
    let first = c.args.reading.now in
    let last = c.read_beside.new.reading in
    let cells = c.args.queue.now.cells.items in
    let spare = c.args.queue.now.spare.items in
    let fresh = c.take_next_cells.new.self.cells.items in
    let rest = g.I.Input.rest c.args.input.now in
    let rest' = g.I.Input.rest c.read_beside.new.input in
    let old = c.args.answers.now.items in
    let new = c.read_beside.new.answers.items in
    let answers = answers_same f.rules shown shown' c.deref.result.now cells Ends old new c.deref.ensures.value
    (answers_turn f.rules shown shown' c.deref.result.now c.in_ok-stop.turn Ends old new c.in-Ends.is c.in_ok-stop.ensures.answered) in
    let all = subst (λ (cells : List CapturedCell). FillsAndReads known rest rest' first c.in_ok-stop.stop last spare cells)
    (sym c.take_next_cells.ensures.cells) c.in_ok-stop.ensures.filled in
    ahead_at_cell f.rules shown shown' shown' known rest rest' first last c.in_ok-stop.stop cells spare fresh fresh old new answers all

pub returns-in_default-clause-ahead : goal.returns-in_default-clause-ahead
returns-in_default-clause-ahead g c =
    let f = g.F.CellFollower in
    let known = g.I.Input.is_known in
    let shown = f.shows c.args.follower.now in
    let shown' = f.shows c.read_beside.new.follower in
    let first = c.args.reading.now in
    let last = c.read_beside.new.reading in
    let cells = c.args.queue.now.cells.items in
    let spare = c.args.queue.now.spare.items in
    let fresh = c.take_next_cells.new.self.cells.items in
    let rest = g.I.Input.rest c.args.input.now in
    let rest' = g.I.Input.rest c.read_beside.new.input in
    let old = c.args.answers.now.items in
    let new = c.read_beside.new.answers.items in
    let answers = answers_same f.rules shown shown' c.deref.result.now cells GoesOn old new c.deref.ensures.value
    (answers_turn f.rules shown shown' c.deref.result.now c.in_ok-stop.turn GoesOn old new c.in-GoesOn.is c.in_ok-stop.ensures.answered) in
    let all = subst (λ (cells : List CapturedCell). FillsAndReads known rest rest' first c.in_ok-stop.stop last spare cells)
    (sym c.take_next_cells.ensures.cells) c.in_ok-stop.ensures.filled in
    let filled = subst (λ (stop : Option StopReason). FillsAndReads known rest rest' first stop last spare fresh) c.in_default.is all in
    ahead_ended f.rules shown shown' known rest rest' first last cells spare fresh old new answers filled c.requires.spare

pub returns-in-NeedsOctets-clause-ahead : goal.returns-in-NeedsOctets-clause-ahead
returns-in-NeedsOctets-clause-ahead g c =
    let f = g.F.CellFollower in
    let known = g.I.Input.is_known in
    let shown = f.shows c.args.follower.now in
    let shown' = f.shows c.read_beside.new.follower in
    let first = c.args.reading.now in
    let last = c.read_beside.new.reading in
    let cells = c.args.queue.now.cells.items in
    let spare = c.args.queue.now.spare.items in
    let fresh = c.take_next_cells.new.self.cells.items in
    let rest = g.I.Input.rest c.args.input.now in
    let rest' = g.I.Input.rest c.read_beside.new.input in
    let old = c.args.answers.now.items in
    let new = c.read_beside.new.answers.items in
    let answers = answers_same f.rules shown shown' c.deref.result.now cells GoesOn old new c.deref.ensures.value
    (answers_turn f.rules shown shown' c.deref.result.now c.in_ok-stop.turn GoesOn old new c.in-GoesOn.is c.in_ok-stop.ensures.answered) in
    let all = subst (λ (cells : List CapturedCell). FillsAndReads known rest rest' first c.in_ok-stop.stop last spare cells)
    (sym c.take_next_cells.ensures.cells) c.in_ok-stop.ensures.filled in
    let filled = subst (λ (stop : Option StopReason). FillsAndReads known rest rest' first stop last spare fresh) c.in-Some.is all in
    ahead_on f.rules shown shown' known rest rest' filled.0 first last c.in-Some.stop cells spare fresh old new answers filled.1 filled.2 c.requires.spare
    (inl c.in-NeedsOctets.is)

pub returns-in-Enough-clause-ahead : goal.returns-in-Enough-clause-ahead
returns-in-Enough-clause-ahead g c =
    let f = g.F.CellFollower in
    let known = g.I.Input.is_known in
    let shown = f.shows c.args.follower.now in
    let shown' = f.shows c.read_beside.new.follower in
    let first = c.args.reading.now in
    let last = c.read_beside.new.reading in
    let cells = c.args.queue.now.cells.items in
    let spare = c.args.queue.now.spare.items in
    let fresh = c.take_next_cells.new.self.cells.items in
    let rest = g.I.Input.rest c.args.input.now in
    let rest' = g.I.Input.rest c.read_beside.new.input in
    let old = c.args.answers.now.items in
    let new = c.read_beside.new.answers.items in
    let answers = answers_same f.rules shown shown' c.deref.result.now cells GoesOn old new c.deref.ensures.value
    (answers_turn f.rules shown shown' c.deref.result.now c.in_ok-stop.turn GoesOn old new c.in-GoesOn.is c.in_ok-stop.ensures.answered) in
    let all = subst (λ (cells : List CapturedCell). FillsAndReads known rest rest' first c.in_ok-stop.stop last spare cells)
    (sym c.take_next_cells.ensures.cells) c.in_ok-stop.ensures.filled in
    let filled = subst (λ (stop : Option StopReason). FillsAndReads known rest rest' first stop last spare fresh) c.in-Some.is all in
    ahead_on f.rules shown shown' known rest rest' filled.0 first last c.in-Some.stop cells spare fresh old new answers filled.1 filled.2 c.requires.spare
    (inr c.in-Enough.is)

pub returns-in-Ok-clause-ahead : goal.returns-in-Ok-clause-ahead
returns-in-Ok-clause-ahead g c =
    let f = g.F.CellFollower in
    let known = g.I.Input.is_known in
    let shown = f.shows c.args.follower.now in
    let shown' = f.shows c.read_beside.new.follower in
    let first = c.args.reading.now in
    let last = c.read_beside.new.reading in
    let cells = c.args.queue.now.cells.items in
    let spare = c.args.queue.now.spare.items in
    let fresh = c.take_next_cells.new.self.cells.items in
    let rest = g.I.Input.rest c.args.input.now in
    let rest' = g.I.Input.rest c.read_beside.new.input in
    let old = c.args.answers.now.items in
    let new = c.read_beside.new.answers.items in
    let answers = answers_same f.rules shown shown' c.deref.result.now cells GoesOn old new c.deref.ensures.value
    (answers_turn f.rules shown shown' c.deref.result.now c.in_ok-stop.turn GoesOn old new c.in-GoesOn.is c.in_ok-stop.ensures.answered) in
    let all = subst (λ (cells : List CapturedCell). FillsAndReads known rest rest' first c.in_ok-stop.stop last spare cells)
    (sym c.take_next_cells.ensures.cells) c.in_ok-stop.ensures.filled in
    let filled = subst (λ (stop : Option StopReason). FillsAndReads known rest rest' first stop last spare fresh) c.in-Some.is all in
    let ended = ends_by c.in-Ok.field-0 c.in-Some.stop c.in-SecondLink.is c.in-Ok.ensures.by in
    ahead_to_end f.rules shown shown' (f.shows c.answer_read.new.follower) known rest rest' first last c.in-Some.stop cells spare fresh
    c.answer_read.new.cells.items old new c.answer_read.new.answers.items answers filled c.requires.spare (c.in-Ok.ensures.ends ended)
