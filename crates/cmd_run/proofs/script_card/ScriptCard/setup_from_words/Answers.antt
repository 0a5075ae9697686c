-- The words spell these contracts.
use Rattle.std.proofs.Common.{List, Option, OnOk, option_map, subst}
use Rattle.text_script.specs.ScriptCommands.{setup}
use Rattle.text_script.specs.declared.script_words.Wanted.{Wanted}
use Rattle.cmd_run.specs.ShownCard.{Moves}
use Rattle.cmd_run.specs.inner.Policing.{ObeysSeen}
use Rattle.cmd_run.proofs.script_card.ScriptCard.setup_from_words.Goals as goal

pub returns : goal.returns
returns c =
    subst (λ (read : Option (List Wanted)). OnOk c.setup.result
    (Moves (λ before. ObeysSeen before (option_map (λ wanted. setup c.args.vc c.args.number wanted) read)) c.args.self.now c.setup.new.self c.args.answers.now.items c.setup.new.answers.items))
    c.in-Some.ensures c.setup.ensures
