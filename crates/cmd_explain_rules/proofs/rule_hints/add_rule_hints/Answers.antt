-- The hints about all rules that decide no cell are hints.
use Rattle.std.proofs.Common.{inl}
use Rattle.std.proofs.lemmas.Result.{on_ok_weaker}
use Rattle.rules_text.specs.RulesInMemory.{placed_rules_read}
use Rattle.text_io.specs.Devices.{Adds}
use Rattle.cmd_explain_rules.specs.RuleHints.{AreAllHints}
use Rattle.cmd_explain_rules.proofs.rule_hints.add_rule_hints.Goals as goal

pub returns-in-Ok : goal.returns-in-Ok
returns-in-Ok c =
    on_ok_weaker c.add_searched.result
    (λ (added : Adds (AreAllHints c.args.front.now (placed_rules_read c.args.placed_rules.now)) c.args.answers.now.items c.add_searched.new.answers.items). (added.0, added.1, inl added.2))
    c.add_searched.ensures
