use Rattle.std.proofs.Common.{List, map, ap, ◌∙◌}
use Rattle.rules_diagrams.specs.inner.CaseLists.{case_of, decisions}
use Rattle.rules_diagrams.specs.declared.meeting.Both.{Both}
use Rattle.rules_diagrams.specs.declared.meeting.Meeting.{Meeting}
use Rattle.rules_diagrams.proofs.CaseSteps.{cases_are, says}
use Rattle.rules_diagrams.proofs.comparing.compare_sides.Goals as goal

pub returns : goal.returns
returns c =
    let both : Both = record { one = c.in_ok-side_shown.field-0; other = c.in_ok-side_shown-2.field-0 } in
    record {
      was = decisions c.side_shown.new.diagrams both.one c.args.old;
      is = decisions c.side_shown-2.new.diagrams both.other c.args.new;
      old_says = says c.side_shown.new.diagrams c.args.old both.one c.in_ok-side_shown.ensures.shown;
      new_says = says c.side_shown-2.new.diagrams c.args.new both.other c.in_ok-side_shown-2.ensures.shown;
      are_cases =
          cases_are c.the_first_rule_decides.ensures c.args.old c.args.new c.side_shown.new.diagrams c.side_shown-2.new.diagrams both c.in_ok-side_shown.ensures.shown
          c.in_ok-side_shown-2.ensures.shown c.in_ok-met.met.items c.in_ok-cases.cases.items
          (c.in_ok-cases.ensures ∙ ap (λ (meetings : List Meeting). map (case_of c.args.old c.args.new) meetings) c.deref.ensures.value) c.in_ok-met.ensures;
    }
