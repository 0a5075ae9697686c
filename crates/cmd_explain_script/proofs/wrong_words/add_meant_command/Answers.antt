use Rattle.std.proofs.Common.{◌≡◌, ◌++◌, ℕ, List, Option, OnOk, codes, subst}
use Rattle.cmd_explain_script.specs.WrongWords.{meant_command, meant_or}
use Rattle.cmd_explain_script.proofs.wrong_words.add_meant_command.Goals as goal

pub returns : goal.returns
unfolding meant_command
returns c =
    let text = codes "; the commands are cell, load, retire, setup, reload, release and cut" in
    subst (λ (meant : Option (List ℕ)). OnOk c.add_meant.result (c.add_meant.new.answers.items ≡ c.args.answers.now.items ++ meant_or meant text))
    c.near_among.ensures c.add_meant.ensures
