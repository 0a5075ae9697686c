use Rattle.std.proofs.Common.{◌++◌, ◌∷◌, [], ap, ◌∙◌}
use Rattle.rules_diagrams.specs.inner.Numbers.{places_of}
use Rattle.rules_diagrams.proofs.NumberSets.{places_yielded}
use Rattle.rules_diagrams.proofs.numbers.places_of.Goals as goal

pub loop-number-preserved : goal.loop-number-preserved
loop-number-preserved c =
    c.in_ok-add_place.ensures ∙ (ap (λ t. t ++ places_of (c.in-Some.number.now ∷ [])) c.loop-number.invariant ∙ places_yielded c.loop-number.yielded c.in-Some.number)
