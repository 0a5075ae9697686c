-- A function carries out each command.
use Rattle.std.proofs.Common.{OnOk, subst, sym}
use Rattle.text_script.specs.CommandSeen.{command_seen}
use Rattle.cmd_ports.specs.inner.DeskTexts.{AddsReply, MayObeySeen}
use Rattle.cmd_ports.proofs.script_desk.ScriptDesk.obey.Goals as goal

pub returns-in-Setup : goal.returns-in-Setup
returns-in-Setup g c =
    subst (λ command. OnOk c.setup_from_words.result (AddsReply (MayObeySeen c.args.card.now.side (command_seen command)) c.args.self.now.names c.setup_from_words.new.self.names c.args.answers.now.items c.setup_from_words.new.answers.items))
    (sym c.in-Setup.is) c.setup_from_words.ensures
