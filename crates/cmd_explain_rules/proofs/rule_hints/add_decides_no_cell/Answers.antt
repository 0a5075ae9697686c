use Rattle.std.proofs.Common.{ℕ, List, ◌++◌, ◌∙◌, ap, codes}
use Rattle.cmd_explain_rules.specs.RuleHints.{rule_list, takes_words}
use Rattle.cmd_explain_rules.proofs.Joined.{joined_three}
use Rattle.cmd_explain_rules.proofs.rule_hints.add_decides_no_cell.Goals as goal

pub returns : goal.returns
returns c =
    joined_three c.args.answers.now.items (codes "this rule decides no cell; ") (rule_list c.args.begins.now c.args.first c.args.more.now) (takes_words c.args.more.now) _ _ _
    c.in_ok-add_text.ensures c.in_ok-add_rule_list.ensures (c.in_ok-add_text-2.ensures ∙ ap (λ (text : List ℕ). c.add_rule_list.new.answers.items ++ text) c.takes_words.ensures)
