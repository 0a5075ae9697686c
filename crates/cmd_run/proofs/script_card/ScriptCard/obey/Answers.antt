-- A function carries out each command.
use Rattle.std.proofs.Common.{OnOk, subst, sym}
use Rattle.text_script.specs.CommandSeen.{command_seen}
use Rattle.cmd_run.specs.ShownCard.{Moves}
use Rattle.cmd_run.specs.inner.Policing.{ObeysSeen}
use Rattle.cmd_run.proofs.script_card.ScriptCard.obey.Goals as goal

pub returns-in-Cell : goal.returns-in-Cell
returns-in-Cell c =
    subst (λ command. OnOk c.cell.result (Moves (λ before. ObeysSeen before (command_seen command)) c.args.self.now c.cell.new.self c.args.answers.now.items c.cell.new.answers.items))
    (sym c.in-Cell.is) c.cell.ensures

pub returns-in-Load : goal.returns-in-Load
returns-in-Load c =
    subst (λ command. OnOk c.load.result (Moves (λ before. ObeysSeen before (command_seen command)) c.args.self.now c.load.new.self c.args.answers.now.items c.load.new.answers.items))
    (sym c.in-Load.is) c.load.ensures

pub returns-in-Retire : goal.returns-in-Retire
returns-in-Retire c =
    subst (λ command. OnOk c.retire.result (Moves (λ before. ObeysSeen before (command_seen command)) c.args.self.now c.retire.new.self c.args.answers.now.items c.retire.new.answers.items))
    (sym c.in-Retire.is) c.retire.ensures

pub returns-in-Setup : goal.returns-in-Setup
returns-in-Setup c =
    subst (λ command. OnOk c.setup_from_words.result (Moves (λ before. ObeysSeen before (command_seen command)) c.args.self.now c.setup_from_words.new.self c.args.answers.now.items c.setup_from_words.new.answers.items))
    (sym c.in-Setup.is) c.setup_from_words.ensures

pub returns-in-Reload : goal.returns-in-Reload
returns-in-Reload c =
    subst (λ command. OnOk c.reload.result (Moves (λ before. ObeysSeen before (command_seen command)) c.args.self.now c.reload.new.self c.args.answers.now.items c.reload.new.answers.items))
    (sym c.in-Reload.is) c.reload.ensures

pub returns-in-Release : goal.returns-in-Release
returns-in-Release c =
    subst (λ command. OnOk c.release.result (Moves (λ before. ObeysSeen before (command_seen command)) c.args.self.now c.release.new.self c.args.answers.now.items c.release.new.answers.items))
    (sym c.in-Release.is) c.release.ensures

pub returns-in-Cut : goal.returns-in-Cut
returns-in-Cut c =
    subst (λ command. OnOk c.cut.result (Moves (λ before. ObeysSeen before (command_seen command)) c.args.self.now c.cut.new.self c.args.answers.now.items c.cut.new.answers.items))
    (sym c.in-Cut.is) c.cut.ensures
