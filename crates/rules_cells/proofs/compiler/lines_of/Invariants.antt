use Rattle.std.proofs.Common.{take}
use Rattle.rules_cells.specs.PlainOf.{ArePlainLines}
use Rattle.rules_cells.proofs.compiler.lines_of.Given as goal

abbrev pub invariant-loop-line : goal.invariant-loop-line
invariant-loop-line l = ArePlainLines l.side (take l.line-index l.lines) l.plain.items
