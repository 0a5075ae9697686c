-- One more line has its stored answer, or has no cell. At the end no line is left.
use Rattle.std.proofs.Common.{◌≤◌, length, arith}
use Rattle.std.proofs.lemmas.List.{take_all}
use Rattle.port_card.specs.Seats.{tally_of_seat}
use Rattle.cmd_ports.proofs.CountsLemmas.{port-counted}
use Rattle.cmd_ports.proofs.AnsweredLemmas.{port-step}
use Rattle.cmd_ports.proofs.port_arrivals.arrive_from_each.Goals as goal

pub loop-line-preserved : goal.loop-line-preserved
loop-line-preserved g c = record {
  stored = port-step (λ line. line.now) c.args.side c.args.job.lines.now c.loop-line.line-index _ c.loop-line.arrivals.items c.add_stored.new.arrivals.items _
      c.loop-line-test.true c.in_ok-add_stored.ensures c.loop-line.invariant.stored c.in_ok-stored.ensures.stored;
  counted = port-counted (tally_of_seat c.loop-line.seat) (tally_of_seat c.arrive_from.new.seat) c.loop-line.arrivals.items c.add_stored.new.arrivals.items _
      c.in_ok-add_stored.ensures c.loop-line.invariant.counted c.in_ok-stored.ensures.counted;
}

pub returns : goal.returns
returns g c =
    let past : length c.args.job.lines.now ≤ c.loop-line.line-index = omega (arith, c.loop-line-test.false) in
    rw (take_all c.loop-line.line-index c.args.job.lines.now past) at c.loop-line.invariant.stored
