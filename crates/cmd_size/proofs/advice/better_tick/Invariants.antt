-- The tick is looked for among those that remain.
use Rattle.std.proofs.Common.{◌≡◌, length}
use Rattle.std.specs.List.{find}
use Rattle.cmd_size.specs.Advice.{better_tick_of, is_fine_at}
use Rattle.cmd_size.proofs.advice.better_tick.Given as goal

abbrev pub invariant-loop-rest : goal.invariant-loop-rest
invariant-loop-rest l = find (is_fine_at l.figures) l.rest ≡ better_tick_of l.figures

abbrev pub decreases-loop-rest : goal.decreases-loop-rest
decreases-loop-rest l = length l.rest
