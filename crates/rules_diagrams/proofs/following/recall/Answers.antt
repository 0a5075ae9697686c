use Rattle.std.proofs.Common.{refl}
use Rattle.rules_diagrams.specs.CellNumbers.{octets_number}
use Rattle.rules_diagrams.specs.inner.Words.{word_number}
use Rattle.rules_diagrams.proofs.following.recall.Goals as goal

pub returns-in-Some-clause-a : goal.returns-in-Some-clause-a
returns-in-Some-clause-a c = λ place cell there a x m are. (
  word_number c.in-Some.word (octets_number cell),
  (c.in-Some.ensures.0, are.scratch c.args.k c.in-Some.word c.in-Some.ensures.1),
  refl,
)

pub returns-in-Some-clause-x : goal.returns-in-Some-clause-x
returns-in-Some-clause-x c = λ place cell there a x m are. (
  word_number c.in-Some.word (octets_number cell),
  (c.in-Some.ensures.0, are.scratch c.args.k c.in-Some.word c.in-Some.ensures.1),
  refl,
)
