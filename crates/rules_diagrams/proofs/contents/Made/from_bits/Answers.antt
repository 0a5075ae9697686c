use Rattle.std.proofs.Common.{List, sym, subst, ◌∙◌}
use Rattle.rules_diagrams.specs.declared.word.Bit.{Bit}
use Rattle.rules_diagrams.specs.inner.Following.{PutsInto}
use Rattle.rules_diagrams.proofs.contents.Made.from_bits.Goals as goal

pub returns : goal.returns
returns c = λ register i contents puts.
    subst (λ (bits : List Bit). PutsInto register i contents bits) (sym (c.in-Some.ensures ∙ c.deref.ensures.value)) puts
