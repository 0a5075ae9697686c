use Rattle.std.proofs.Common.{◌≡◌, drop}
use Rattle.rules_code.specs.PlainTests.{is_among}
use Rattle.rules_cells.proofs.deciding.is_among.Given as goal

abbrev pub invariant-loop-span : goal.invariant-loop-span
invariant-loop-span l = is_among (drop l.span-index l.spans) l.number ≡ is_among l.spans l.number
