-- Nothing is due, or all that is due is carried out.
use Rattle.std.proofs.Common.{append-nil, refl, sym}
use Rattle.cmd_setups.proofs.CommandLemmas.{carried_none}
use Rattle.cmd_setups.proofs.timed_card.TimedCard.carry_out.Goals as goal

pub returns-in-None : goal.returns-in-None
returns-in-None c = carried_none c.args.self.now c.args.moment c.args.answers.now.items c.in-None.ensures.none
