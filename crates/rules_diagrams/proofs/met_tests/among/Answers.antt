use Rattle.std.proofs.Common.{arith}
use Rattle.rules_cells.specs.Fields.{number_in}
use Rattle.rules_code.specs.PlainTests.{kept_bits}
use Rattle.rules_diagrams.proofs.Nodes.{keeps_both}
use Rattle.rules_diagrams.proofs.Telling.{among_step}
use Rattle.rules_diagrams.proofs.met_tests.among.Goals as goal

pub loop-place-preserved : goal.loop-place-preserved
loop-place-preserved c = (
  keeps_both c.reached.new.diagrams c.reached-in-loop-place.new.diagrams c.either.new.diagrams (keeps_both c.reached.new.diagrams c.loop-place.diagrams c.reached-in-loop-place.new.diagrams c.loop-place.invariant.0 c.reached-in-loop-place.ensures.keeps) c.either.ensures.keeps,
  among_step c.loop-place.diagrams c.reached-in-loop-place.new.diagrams c.either.new.diagrams c.loop-place.so_far c.in_ok-one.one c.in_ok-so_far-2.so_far c.reached-in-loop-place.ensures.keeps
      (λ cell. kept_bits c.args.mask (number_in c.args.side c.args.field cell)) c.args.first c.args.others.now c.loop-place.place c.span_at-span.result c.within-in-loop-place.result (omega arith) c.span_at-span.ensures
      c.within-in-loop-place.ensures.low c.within-in-loop-place.ensures.end c.loop-place.invariant.1 c.in_ok-one.ensures.tells c.in_ok-so_far-2.ensures.tells,
)
