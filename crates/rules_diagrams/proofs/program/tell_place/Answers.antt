use Rattle.rules_diagrams.proofs.Nodes.{keeps_both}
use Rattle.rules_diagrams.proofs.program.tell_place.Goals as goal

pub loop-index-preserved : goal.loop-index-preserved
loop-index-preserved c = (
  keeps_both c.args.diagrams.now c.loop-index.diagrams c.tell.new.diagrams c.loop-index.invariant.0 c.tell.ensures.keeps,
  c.in_ok-tell.ensures.told,
)

pub returns-in_err-tell-clause-keeps : goal.returns-in_err-tell-clause-keeps
returns-in_err-tell-clause-keeps c = keeps_both c.args.diagrams.now c.loop-index.diagrams c.tell.new.diagrams c.loop-index.invariant.0 c.tell.ensures.keeps
