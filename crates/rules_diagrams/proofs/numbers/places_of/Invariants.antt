use Rattle.std.proofs.Common.{◌≡◌, map}
use Rattle.rules_diagrams.specs.inner.Numbers.{places_of}
use Rattle.rules_diagrams.proofs.numbers.places_of.Given as goal

abbrev pub invariant-loop-number : goal.invariant-loop-number
invariant-loop-number l = l.places.items ≡ places_of (map (λ n. n.now) l.yielded)
