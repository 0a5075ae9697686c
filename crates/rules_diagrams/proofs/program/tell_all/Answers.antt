use Rattle.std.proofs.Common.{arith}
use Rattle.rules_diagrams.proofs.Nodes.{keeps_both}
use Rattle.rules_diagrams.proofs.program.tell_all.Goals as goal

pub loop-left-preserved : goal.loop-left-preserved
loop-left-preserved c = (
  keeps_both c.args.diagrams.now c.loop-left.diagrams c.tell_place.new.diagrams c.loop-left.invariant.0 c.tell_place.ensures.keeps,
  c.in_ok-tell_place.ensures.told,
  omega (arith, c.loop-left.invariant.2),
)

pub returns-in_err-tell_place-clause-keeps : goal.returns-in_err-tell_place-clause-keeps
returns-in_err-tell_place-clause-keeps c = keeps_both c.args.diagrams.now c.loop-left.diagrams c.tell_place.new.diagrams c.loop-left.invariant.0 c.tell_place.ensures.keeps
