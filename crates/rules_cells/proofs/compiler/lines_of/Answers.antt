use Rattle.std.proofs.Common.{arith}
use Rattle.rules_cells.proofs.Follows.{lines_more}
use Rattle.rules_cells.proofs.compiler.lines_of.Goals as goal

pub loop-line-preserved : goal.loop-line-preserved
loop-line-preserved c =
    lines_more c.args.side c.args.lines.now c.loop-line.line-index c.line-item.result c.loop-line.plain.items c.push.new.self.items c.in_ok-line_of.field-0 (omega arith) c.line-item.is c.loop-line.invariant c.in_ok-line_of.ensures c.in_ok-push.ensures.items
