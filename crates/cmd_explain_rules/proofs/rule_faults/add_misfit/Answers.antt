use Rattle.std.proofs.Common.{codes}
use Rattle.cmd_explain_script.specs.Places.{quoted}
use Rattle.cmd_explain_rules.proofs.Joined.{joined_three}
use Rattle.cmd_explain_rules.proofs.rule_faults.add_misfit.Goals as goal

pub returns : goal.returns
returns c =
    joined_three c.args.answers.now.items (quoted c.args.octets.now) (codes " doesn't fit here; ") c.args.why.now _ _ _ c.in_ok-add_quoted.ensures
    c.in_ok-add_text.ensures c.in_ok-add_text-2.ensures
