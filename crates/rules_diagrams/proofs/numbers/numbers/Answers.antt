use Rattle.std.proofs.Common.{List, refl, ap, ◌∙◌}
use Rattle.rules_diagrams.specs.inner.Numbers.{has_one}
use Rattle.rules_diagrams.specs.declared.meeting.Meeting.{Meeting}
use Rattle.rules_diagrams.specs.declared.diagram.Diagram.TheVariants.{Leaf}
use Rattle.rules_diagrams.specs.declared.meeting.Both.{Both}
use Rattle.rules_diagrams.proofs.NumberSets.{numbers_are}
use Rattle.rules_diagrams.proofs.numbers.numbers.Goals as goal

pub returns : goal.returns
returns c =
    let both : Both = record { one = c.args.diagram; other = Leaf 0 } in
    numbers_are c.args.diagrams.now c.args.diagram both c.in_ok-met.met.items c.in_ok-numbers.numbers refl c.in_ok-met.ensures
    (λ n. c.in_ok-numbers.ensures n ∙ ap (λ (ms : List Meeting). has_one ms n) c.deref.ensures.value)
