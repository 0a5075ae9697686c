-- The text of one more answerer was appended.
use Rattle.cmd_ports.proofs.InOrderLemmas.{next_rest, next_stored}
use Rattle.cmd_ports.specs.inner.Rest.{unprinted}
use Rattle.cmd_ports.proofs.in_order.add_in_order.Goals as goal

pub loop-answerer-preserved : goal.loop-answerer-preserved
loop-answerer-preserved c = record {
  added = next_stored c.args.side c.args.names.now (unprinted c.args.rest) (unprinted c.loop-answerer.rest) c.args.order.now c.loop-answerer.answerer-index _
      c.args.answers.now.items c.loop-answerer.answers.items c.add_from.new.answers.items c.loop-answerer-test.true c.loop-answerer.invariant.rest
      c.loop-answerer.invariant.added c.in_ok-add_from.ensures.text;
  rest = next_rest (unprinted c.args.rest) (unprinted c.loop-answerer.rest) (unprinted c.add_from.new.rest) c.args.order.now c.loop-answerer.answerer-index _
      c.loop-answerer-test.true c.loop-answerer.invariant.rest c.in_ok-add_from.ensures.rest;
}
