-- Loop invariant: what is still carried out completes what was carried out.
use Rattle.std.proofs.Common.{◌≡◌, ◌≤◌, ◌-◌, length}
use Rattle.cmd_setups.specs.inner.CommandsShown.{CarriesSoFar}
use Rattle.cmd_setups.proofs.timed_card.TimedCard.carry_out_all.Given as goal

abbrev pub invariant-loop-command : goal.invariant-loop-command
invariant-loop-command l = record {
  so_far : CarriesSoFar l.fn.self l.moment l.carried l.self l.fn.answers.items l.answers.items;
}

abbrev pub decreases-loop-command : goal.decreases-loop-command
decreases-loop-command l = length l.self.commands.all.items - l.self.commands.next
