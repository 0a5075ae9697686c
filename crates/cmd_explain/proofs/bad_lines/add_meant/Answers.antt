use Rattle.std.proofs.Common.{◌≡◌, ◌++◌, ℕ, List, Option, OnOk, subst}
use Rattle.cmd_explain_script.specs.Meant.{perhaps_text}
use Rattle.cmd_explain.proofs.bad_lines.add_meant.Goals as goal

pub returns : goal.returns
returns c =
    subst (λ (meant : Option (List ℕ)). OnOk c.add_perhaps.result (c.add_perhaps.new.answers.items ≡ c.args.answers.now.items ++ perhaps_text meant))
    c.near.ensures c.add_perhaps.ensures
