use Rattle.std.proofs.Common.{◌-◌, length, arith}
use Rattle.rules_diagrams.proofs.LineSteps.{init_lined, step_lined, whole_lined}
use Rattle.rules_diagrams.proofs.Nodes.{keeps_itself, keeps_both}
use Rattle.rules_diagrams.proofs.lines.deciding_lines.Goals as goal

pub loop-left-init : goal.loop-left-init
loop-left-init c = (
  keeps_itself c.args.diagrams.now,
  init_lined c.args.diagrams.now c.args.rules.now.side c.as_slice-lines.result.now (length c.as_slice-lines.result.now) c.args.rules.now.otherwise c.new-outer.result.items (omega arith) c.new-outer.ensures.items,
  omega arith,
)

pub returns-in_err-so_far-clause-keeps : goal.returns-in_err-so_far-clause-keeps
returns-in_err-so_far-clause-keeps c = keeps_both c.args.diagrams.now c.loop-left.diagrams c.with_line.new.diagrams c.loop-left.invariant.0 c.with_line.ensures.keeps

pub loop-left-preserved : goal.loop-left-preserved
loop-left-preserved c = (
  keeps_both c.args.diagrams.now c.loop-left.diagrams c.with_line.new.diagrams c.loop-left.invariant.0 c.with_line.ensures.keeps,
  step_lined c.loop-left.diagrams c.with_line.new.diagrams c.args.rules.now.side c.as_slice-lines.result.now c.loop-left.left (c.loop-left.left - 1) c.args.rules.now.otherwise c.index-lines-left.result
      c.loop-left.so_far c.in_ok-so_far.so_far c.loop-left.outer.items c.with_line.new.outer.items (omega arith) c.loop-left.invariant.2 (omega arith) c.index-lines-left.is c.loop-left.invariant.1 c.in_ok-so_far.ensures.lined,
  omega (arith, c.loop-left.invariant.2),
)

pub returns-clause-gives : goal.returns-clause-gives
returns-clause-gives c =
    whole_lined c.loop-left.diagrams c.args.rules.now c.as_slice-lines.result.now c.loop-left.left c.loop-left.so_far c.loop-left.outer.items (omega arith) c.as_slice-lines.ensures.value c.loop-left.invariant.1
