-- The lines so far have their stored answers, and the seat has counted exactly their cells.
use Rattle.std.proofs.Common.{◌≡◌, map, take}
use Rattle.port_card.specs.Seats.{tally_of_seat}
use Rattle.cmd_ports.specs.inner.Arrivals.{AnswersPort}
use Rattle.cmd_ports.specs.inner.Answered.{cells_counts}
use Rattle.cmd_ports.proofs.port_arrivals.arrive_from_each.Given as goal

abbrev pub invariant-loop-line : goal.invariant-loop-line
invariant-loop-line g l = record {
  stored : AnswersPort l.side (map (λ line. line.now) (take l.line-index l.lines)) l.arrivals.items;
  counted : tally_of_seat l.seat ≡ cells_counts l.arrivals.items;
}
