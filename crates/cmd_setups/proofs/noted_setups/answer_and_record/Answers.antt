-- The line is carried out as in `run`, and the start of a new connection's line is noted.
use Rattle.std.proofs.Common.{subst}
use Rattle.card_core.specs.Agreement.{CoreAgrees, CoreView}
use Rattle.card_core.specs.World.{World}
use Rattle.captures_text.proofs.Public.{on_done}
use Rattle.text_io.specs.Words.{words_of}
use Rattle.text_script.specs.ScriptCommands.{command_of}
use Rattle.cmd_setups.specs.inner.NotedSetups.{IsNewIn, NotesSetup}
use Rattle.cmd_setups.proofs.NotingLemmas.{noting_moves}
use Rattle.cmd_setups.proofs.noted_setups.answer_and_record.Goals as goal

pub returns : goal.returns
returns c =
    on_done c.record_setup.result _ _ c.record_setup.ensures
    (λ noted. noting_moves c.args.line.now c.args.card.now c.answer.new.self c.args.at_setup.now.counts.items c.record_setup.new.self.counts.items c.connection_to_set_up-vc.result
    c.args.answers.now.items c.answer.new.answers.items c.in_ok-answer.ensures
    (subst (λ (core : CoreView). (world : World) → CoreAgrees core world → IsNewIn world (command_of world.shape.side (words_of c.args.line.now)) c.connection_to_set_up-vc.result)
    c.core.ensures c.connection_to_set_up-vc.ensures)
    (subst (λ (core : CoreView). (world : World) → CoreAgrees core world → NotesSetup world c.connection_to_set_up-vc.result c.args.at_setup.now.counts.items c.record_setup.new.self.counts.items)
    c.core-2.ensures noted))
