use Rattle.std.proofs.Common.{◌<◌, length, arith, length-drop}
use Rattle.std.proofs.lemmas.List.{take_rest}
use Rattle.rules_text.proofs.RuleLineCuts.{has_some, has_none, line_some, rule_cut, rule_none}
use Rattle.rules_text.proofs.continued_lines.next_rule_line.Goals as goal

pub returns-then-is_empty-clause-lines : goal.returns-then-is_empty-clause-lines
returns-then-is_empty-clause-lines c = rule_none c.args.text.now (has_none _ c.is_empty.result c.is_empty.ensures c.if-is_empty.true)

pub returns-clause-lines : goal.returns-clause-lines
returns-clause-lines c =
    rw take_rest (rule_cut c.args.text.now c.rule_line_len-at.result c.rule_line_len-at.ensures.size (has_some _ c.is_empty.result c.is_empty.ensures c.if-is_empty.false))

pub returns-clause-shorter : goal.returns-clause-shorter
returns-clause-shorter c =
    let text = c.args.text.now in
    let whole : 0 < length text = has_some _ c.is_empty.result c.is_empty.ensures c.if-is_empty.false in
    let some = line_some text c.rule_line_len-at.result c.rule_line_len-at.ensures.size whole in
    rw take_rest (omega (arith, some, whole, length-drop c.rule_line_len-at.result text))
