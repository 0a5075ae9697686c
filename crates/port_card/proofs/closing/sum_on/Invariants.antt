use Rattle.std.proofs.Common.{◌≡◌, take}
use Rattle.port_card.specs.inner.Columns.{columns_on}
use Rattle.port_card.proofs.closing.sum_on.Given as goal

abbrev pub invariant-loop-column : goal.invariant-loop-column
invariant-loop-column l = l.sum ≡ columns_on (take l.column-index l.columns) l.line
