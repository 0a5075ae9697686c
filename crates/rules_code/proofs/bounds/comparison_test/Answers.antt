use Rattle.std.proofs.Common.{◌∙◌, List, ap, refl, sym}
use Rattle.rules_code.specs.Bounds.{bound_of}
use Rattle.rules_code.specs.declared.packet_part.Span.{Span}
use Rattle.rules_code.proofs.BoundTests.{among_is}
use Rattle.rules_code.proofs.bounds.comparison_test.Goals as goal

pub returns-in-None : goal.returns-in-None
returns-in-None c =
    let found = ap (λ (spans : List Span). bound_of c.args.part.size c.args.part.mask c.args.first spans) (sym c.deref.ensures.value) ∙ (sym c.bound_of.ensures ∙ c.in-None.is) in
    among_is c.args.part c.args.first c.args.others.items c.args.others found refl
