-- The texts of the steps, in order.
use Rattle.std.proofs.Common.{◌++◌, ◌∙◌, ap, append_assoc, codes}
use Rattle.cmd_differ.specs.UnusedText.{more_rules_text, rule_text}
use Rattle.cmd_differ.proofs.unused_lines.add_taken_by.Goals as goal

pub returns : goal.returns
returns c =
    let before = c.args.answers.now.items in
    let text = codes " decides no cell: taken by " in
    let first = rule_text c.args.begins.now c.args.first in
    let more = more_rules_text c.args.begins.now c.args.more.now in
    c.in_ok-add_more_rules.ensures
    ∙ ap (λ xs. xs ++ more) (c.in_ok-add_rule.ensures ∙ ap (λ xs. xs ++ first) c.in_ok-add_text.ensures ∙ append_assoc before text first)
    ∙ append_assoc before (text ++ first) more
    ∙ ap (λ xs. before ++ xs) (append_assoc text first more)
