-- The line is answered as in `run`, and the start of a new connection's line is noted.
use Rattle.cmd_setups.proofs.NotingLemmas.{machine_notes}
use Rattle.cmd_setups.proofs.noted_setups.NotedSetupsMachine.answer.Goals as goal

pub returns : goal.returns
returns c =
    machine_notes c.args.line.now c.in_ok-turn.turn c.args.self.now.run.card c.record_setup.new.self.run.card c.args.self.now.at_setup.counts.items c.record_setup.new.self.at_setup.counts.items
    c.connection_to_set_up-vc.result c.args.answers.now.items c.answer.new.answers.items
    (rw c.record_setup.ensures.kept c.in_ok-turn.ensures) c.connection_to_set_up-vc.ensures (rw c.record_setup.ensures.kept c.in_ok-record_setup.ensures.noted)
