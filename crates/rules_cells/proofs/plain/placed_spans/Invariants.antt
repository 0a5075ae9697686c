use Rattle.std.proofs.Common.{◌≡◌, map, take}
use Rattle.rules_cells.specs.PlainOf.{placed_span}
use Rattle.rules_cells.proofs.plain.placed_spans.Given as goal

abbrev pub invariant-loop-span : goal.invariant-loop-span
invariant-loop-span l = l.placed.items ≡ map (placed_span l.most l.unit) (take l.span-index l.spans)
