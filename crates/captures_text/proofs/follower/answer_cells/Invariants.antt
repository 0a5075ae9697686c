-- Loop invariant: the cells so far are answered.
use Rattle.std.proofs.Common.{take}
use Rattle.captures_text.specs.inner.Answered.{AnswersCells}
use Rattle.captures_text.proofs.follower.answer_cells.Given as goal
use Rattle.text_io.specs.declared.machine.Turn.TheVariants.{GoesOn}

abbrev pub invariant-loop-captured : goal.invariant-loop-captured
invariant-loop-captured g l =
    let f = g.F.CellFollower in
    AnswersCells f.rules (f.shows l.fn.follower) (take l.captured-index l.cells) GoesOn (f.shows l.follower) l.fn.answers.items l.answers.items
