-- A line changes the card.
use Rattle.std.proofs.Common.{Some, subst, sym}
use Rattle.text_io.specs.Answering.{Answers}
use Rattle.text_io.specs.declared.machine.Turn.TheVariants.{GoesOn}
use Rattle.cmd_run.specs.RunText.{run_rules}
use Rattle.cmd_run.specs.ShownCard.{ShowsRun}
use Rattle.cmd_run.proofs.PolicingLemmas.{turn-moved}
use Rattle.cmd_run.proofs.run.PolicingMachine.answer.Goals as goal

pub returns-in_ok-answer-in-Some : goal.returns-in_ok-answer-in-Some
returns-in_ok-answer-in-Some c =
    subst (λ card. Answers run_rules (ShowsRun card) c.args.line.now GoesOn (ShowsRun (Some c.answer.new.self)) c.args.answers.now.items c.answer.new.answers.items)
    (sym c.in-Some.is)
    (turn-moved c.args.line.now c.args.answers.now.items c.answer.new.answers.items c.in-Some.card c.answer.new.self c.in_ok-answer-in-Some.ensures)
