-- The texts are the same exactly if each case has one value.
use Rattle.std.proofs.Common.{◌≡◌, ◌++◌, ◌∙◌, ap, true, refl, inl, inr, append_assoc}
use Rattle.rules_diagrams.specs.Cases.{GiveOneValue}
use Rattle.cmd_differ.specs.ChangeLines.{cases_text}
use Rattle.cmd_differ.specs.DifferText.{same_text}
use Rattle.cmd_differ.specs.inner.SidesRead.{side_read}
use Rattle.cmd_differ.proofs.SideSteps.{agree_from, one_value_from}
use Rattle.cmd_differ.proofs.comparing.add_decided.Goals as goal

pub returns-in_ok-add_cases : goal.returns-in_ok-add_cases
returns-in_ok-add_cases c =
    let old = side_read c.args.old.now in
    let new = side_read c.args.new.now in
    let are = c.requires in
    let lines = cases_text c.args.lines old new c.args.cases.now in
    let gives : GiveOneValue are.was are.is = (c.give_same.ensures.decisions are.was are.is are.are_cases).0 c.if-give_same.true in
    let same = agree_from old new are.was are.is are.old_says are.new_says gives in (
      same_text ++ lines,
      c.in_ok-add_cases.ensures ∙ ap (λ xs. xs ++ lines) c.in_ok-add_text.ensures ∙ append_assoc c.args.answers.now.items same_text lines,
      record { cases = c.args.cases.now; are_cases = are; prints = inl (same, refl, refl) },
    )

pub returns-in_ok-add_cases-2 : goal.returns-in_ok-add_cases-2
returns-in_ok-add_cases-2 c =
    let old = side_read c.args.old.now in
    let new = side_read c.args.new.now in
    let are = c.requires in
    let lines = cases_text c.args.lines old new c.args.cases.now in (
      lines,
      c.in_ok-add_cases-2.ensures,
      record {
        cases = c.args.cases.now;
        are_cases = are;
        prints = inr (
          λ same.
              let gives : GiveOneValue are.was are.is = one_value_from old new are.was are.is are.old_says are.new_says same in
              let yes : c.give_same.result ≡ true = (c.give_same.ensures.decisions are.was are.is are.are_cases).1 gives in
              let no = c.if-give_same.false in absurd (cc),
          refl,
          refl,
        );
      },
    )
