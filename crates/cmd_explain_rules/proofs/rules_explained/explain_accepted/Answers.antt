-- The hints come after the line that says that there is no fault.
use Rattle.std.proofs.Common.{◌++◌, inl, refl}
use Rattle.rules_text.specs.RulesInMemory.{placed_rules_read}
use Rattle.cmd_explain_rules.specs.RulesExplained.{no_fault_text}
use Rattle.cmd_explain_rules.proofs.Joined.{joined_two}
use Rattle.cmd_explain_rules.proofs.rules_explained.explain_accepted.Goals as goal

pub returns : goal.returns
returns c =
    let placed_rules = placed_rules_read c.args.placed_rules.now in
    let hints = c.in_ok-add_rule_hints.ensures in (
      no_fault_text placed_rules ++ hints.0,
      joined_two c.args.answers.now.items (no_fault_text placed_rules) hints.0 _ _ c.in_ok-add_no_fault.ensures hints.1,
      inl (placed_rules, c.requires, (hints.0, hints.2, refl), refl),
    )
