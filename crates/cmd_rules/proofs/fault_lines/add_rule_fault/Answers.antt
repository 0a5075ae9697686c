-- The three parts of a fault line.
use Rattle.std.proofs.Common.{ap, codes, ◌∙◌, ◌++◌}
use Rattle.cmd_rules.specs.RuleFaults.{place_text, rule_name}
use Rattle.cmd_rules.proofs.FaultLineText.{three_parts}
use Rattle.cmd_rules.proofs.fault_lines.add_rule_fault.Goals as goal

pub returns : goal.returns
returns c =
    three_parts c.args.answers.now.items (codes "fault rules ") (rule_name c.args.fault.kind) (place_text c.args.fault.line c.args.fault.column) _ _ _
    c.in_ok-extend_from_slice.ensures.items
    (c.in_ok-extend_from_slice-2.ensures.items ∙ ap (λ name. c.extend_from_slice.new.self.items ++ name) c.name_of.ensures)
    c.in_ok-add_place.ensures
