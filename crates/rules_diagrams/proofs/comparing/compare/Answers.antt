use Rattle.std.proofs.Common.{List, map, ap, ◌∙◌}
use Rattle.rules_diagrams.specs.inner.CaseLists.{case_of}
use Rattle.rules_diagrams.specs.declared.compared.Compared.TheVariants.{Rules as OfRules}
use Rattle.rules_diagrams.specs.declared.meeting.Both.{Both}
use Rattle.rules_diagrams.specs.declared.meeting.Meeting.{Meeting}
use Rattle.rules_diagrams.proofs.CaseSteps.{cases_are}
use Rattle.rules_diagrams.proofs.comparing.compare.Goals as goal

pub returns : goal.returns
returns c =
    let both : Both = record { one = c.in_ok-deciding_lines.field-0; other = c.in_ok-deciding_lines-2.field-0 } in
    let old = OfRules c.args.old in
    let new = OfRules c.args.new in
    cases_are c.the_first_rule_decides.ensures old new c.deciding_lines.new.diagrams c.deciding_lines-2.new.diagrams both c.in_ok-deciding_lines.ensures.gives
    c.in_ok-deciding_lines-2.ensures.gives c.in_ok-met.met.items c.in_ok-cases.cases.items
    (c.in_ok-cases.ensures ∙ ap (λ (meetings : List Meeting). map (case_of old new) meetings) c.deref.ensures.value) c.in_ok-met.ensures
