use Rattle.std.proofs.Common.{◌≡◌, [], false, rules, subst, sym, take, true, List, ℕ}
use Rattle.cmd_rules.specs.inner.RulesTaken.{HasRulesBefore}
use Rattle.cmd_rules.proofs.RulesTaken.{looked_at, rules_front, rules_whole}
use Rattle.cmd_rules.proofs.before_cells.text_at_end.Goals as goal

pub returns-then-is_last_cells_line : goal.returns-then-is_last_cells_line
returns-then-is_last_cells_line c =
    let text = c.args.text.items in
    let kept : c.truncate.new.self.items ≡ take c.args.start text = search rules in
    subst (λ (t : List ℕ). HasRulesBefore text t []) (sym kept)
    (rules_front text c.args.start c.requires
    (looked_at false text c.deref.result.now c.args.start c.is_last_cells_line.result true c.deref.ensures.value c.is_last_cells_line.ensures c.if-is_last_cells_line.true))

pub returns : goal.returns
returns c =
    let text = c.args.text.items in
    rules_whole text c.args.start c.requires
    (looked_at false text c.deref.result.now c.args.start c.is_last_cells_line.result false c.deref.ensures.value c.is_last_cells_line.ensures c.if-is_last_cells_line.false)
