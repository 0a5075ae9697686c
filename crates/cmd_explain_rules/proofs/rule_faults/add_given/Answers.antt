use Rattle.std.proofs.Common.{codes, decimal}
use Rattle.cmd_explain_script.specs.Places.{quoted}
use Rattle.cmd_explain_rules.proofs.Joined.{joined_four}
use Rattle.cmd_explain_rules.proofs.rule_faults.add_given.Goals as goal

pub returns : goal.returns
returns c =
    joined_four c.args.answers.now.items (quoted c.args.name.now) (codes " is given by line ") (decimal c.args.number) (codes "; a name is given once") _ _ _ _
    c.in_ok-add_quoted.ensures c.in_ok-add_text.ensures c.in_ok-add_number.ensures c.in_ok-add_text-2.ensures
