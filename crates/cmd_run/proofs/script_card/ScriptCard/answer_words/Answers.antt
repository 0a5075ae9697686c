-- A line with words is a command.
use Rattle.std.proofs.Common.{subst, sym}
use Rattle.cmd_run.specs.RunText.{CommandLine}
use Rattle.cmd_run.specs.ShownCard.{Moves}
use Rattle.cmd_run.proofs.LineLemmas.{moves-asked, moves-silent}
use Rattle.cmd_run.proofs.MovesLemmas.{on-ok}
use Rattle.cmd_run.proofs.script_card.ScriptCard.answer_words.Goals as goal

pub returns-in-None : goal.returns-in-None
returns-in-None c = moves-silent c.args.line.now c.args.answers.now.items c.args.self.now c.in-None.ensures.silent

pub returns-in-Some : goal.returns-in-Some
returns-in-Some c =
    on-ok c.answer_command.result c.answer_command.ensures (λ moves.
    moves-asked c.args.line.now _ _ _ _ c.in-Some.ensures.asks
    (subst (λ words. Moves (λ before. CommandLine before words) c.args.self.now c.answer_command.new.self c.args.answers.now.items c.answer_command.new.answers.items)
    (sym c.in-Some.ensures.words) moves))
