-- The ports so far have their lines, and each port that is left has a seat that has counted no cell.
use Rattle.std.proofs.Common.{◌≡◌, ◌+◌, All, length, map, take}
use Rattle.std.specs.Vec.Iter.{into_iter_items, into_iter_len}
use Rattle.line_record.specs.Tally.{nothing}
use Rattle.port_card.specs.Seats.{SeatView, tally_of_seat}
use Rattle.cmd_ports.proofs.port_job.jobs_of.Given as goal

abbrev pub invariant-loop-own : goal.invariant-loop-own
invariant-loop-own g l = record {
  lines : map (λ job. map (λ line. line.now) job.lines.now) l.jobs.items ≡ map (λ own. map (λ line. line.now) own.items) (take l.own-index l.arrivals);
  seats : l.own-index + into_iter_len l.seats ≡ length l.arrivals;
  unused : All (λ (seat : SeatView). tally_of_seat seat ≡ nothing) (into_iter_items l.seats);
}
