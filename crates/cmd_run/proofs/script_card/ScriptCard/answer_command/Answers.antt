-- The command that the words spell is carried out.
use Rattle.std.proofs.Common.{◌∷◌, ap, sym, ◌∙◌}
use Rattle.text_io.specs.Words.{words_of}
use Rattle.text_script.specs.CommandSeen.{command_seen}
use Rattle.cmd_run.proofs.MovesLemmas.{moves-seen, on-ok}
use Rattle.cmd_run.proofs.script_card.ScriptCard.answer_command.Goals as goal

pub returns-in-Some : goal.returns-in-Some
returns-in-Some c =
    on-ok c.obey.result c.obey.ensures (λ moves.
    moves-seen c.shape.result.side (c.args.name.now ∷ words_of c.args.rest.now) (command_seen c.in-Some.command) c.args.self.now c.obey.new.self _ _
    (ap (λ held. held.core.shape.side) (sym c.self.view_is) ∙ ap (λ shape. shape.side) (sym c.shape.ensures)) c.in-Some.ensures moves)
