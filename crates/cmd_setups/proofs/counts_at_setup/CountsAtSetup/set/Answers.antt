-- The list is long enough, and only this place changes.
use Rattle.std.proofs.Common.{◌≡◌, ◌∙◌, ◌<◌, ap, arith, refl}
use Rattle.cmd_setups.specs.CountsAtSetup.{counts_of_line}
use Rattle.cmd_setups.proofs.counts_at_setup.CountsAtSetup.set.Goals as goal

pub index_mut-requires : goal.index_mut-requires
index_mut-requires c = let long = c.loop.invariant.long in let end = c.loop-test.false in omega (arith, long, end)
