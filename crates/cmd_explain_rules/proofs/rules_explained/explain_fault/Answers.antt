-- The fault, and its explanation.
use Rattle.std.proofs.Common.{◌++◌, ◌∙◌, ap, append_assoc, inr, refl}
use Rattle.cmd_rules.specs.RuleFaults.{rule_fault}
use Rattle.cmd_explain_rules.specs.RuleReasons.{rule_explanation}
use Rattle.cmd_explain_rules.specs.RulesExplained.{fault_answer}
use Rattle.cmd_explain_rules.proofs.rules_explained.explain_fault.Goals as goal

pub returns : goal.returns
returns c =
    let before = c.args.answers.now.items in
    let found = rule_fault c.args.fault in
    let explained = rule_explanation c.args.text.now c.args.fault in (
      fault_answer c.args.text.now c.args.fault,
      c.in_ok-add_rule_explanation.ensures ∙ ap (λ xs. xs ++ explained) c.in_ok-add_rule_fault.ensures ∙ append_assoc before found explained,
      inr (c.args.fault, c.requires, refl, refl),
    )
