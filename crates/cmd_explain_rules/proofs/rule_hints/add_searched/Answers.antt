-- The hints are about all rules that decide no cell.
use Rattle.std.proofs.Common.{◌++◌, ◌∙◌, ap, refl}
use Rattle.cmd_explain_rules.specs.RuleHints.{rule_hints}
use Rattle.cmd_explain_rules.proofs.rule_hints.add_searched.Goals as goal

pub returns : goal.returns
returns c = (
  rule_hints c.args.front.now c.args.placed_rules.now.begins.items c.args.unused.now,
  c.in_ok-add_all_hints.ensures ∙ ap (λ xs. c.args.answers.now.items ++ rule_hints c.args.front.now xs c.args.unused.now) c.deref.ensures.value,
  record {
    rules = c.args.placed_rules.now.rules;
    read = refl;
    unused = c.args.unused.now;
    are_unused = c.requires;
    hints = refl;
  },
)
