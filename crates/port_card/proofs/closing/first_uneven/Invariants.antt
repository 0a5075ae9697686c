use Rattle.std.proofs.Common.{ℕ, ◌<◌}
use Rattle.port_card.specs.Closing.{IsEven}
use Rattle.port_card.specs.inner.Columns.{columns_on}
use Rattle.port_card.proofs.closing.first_uneven.Given as goal

abbrev pub invariant-loop-number : goal.invariant-loop-number
invariant-loop-number l = (number : ℕ) → number < l.number → IsEven l.lines (columns_on l.columns) number
