use Rattle.std.proofs.Common.{codes}
use Rattle.cmd_explain_script.specs.Places.{quoted}
use Rattle.cmd_explain_rules.proofs.Joined.{joined_three}
use Rattle.cmd_explain_rules.proofs.meant_words.add_unknown.Goals as goal

pub returns : goal.returns
returns c =
    joined_three c.args.answers.now.items (quoted c.args.word.now) (codes " is no word of rules, and no line before gives it as a name") _ _ _ _
    c.in_ok-add_quoted.ensures c.in_ok-add_text.ensures c.in_ok-add_near.ensures
