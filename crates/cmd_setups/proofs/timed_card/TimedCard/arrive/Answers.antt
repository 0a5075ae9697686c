use Rattle.cmd_setups.proofs.CardLemmas.{arrives_with_room}
use Rattle.cmd_setups.proofs.timed_card.TimedCard.arrive.Goals as goal

pub returns-clause-arrives : goal.returns-clause-arrives
returns-clause-arrives c =
    arrives_with_room 64 c.args.self.now.card.core c.arrive_dropping.new.self.core c.args.cell.now c.args.moment c.arrive_dropping.result
    c.arrive_dropping.ensures.answered c.arrive_dropping.ensures.not_now c.arrive_dropping.ensures.full
