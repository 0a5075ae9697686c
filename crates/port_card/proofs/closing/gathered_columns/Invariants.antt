use Rattle.std.proofs.Common.{◌≡◌, ◌≤◌, length, map, vec_capacity}
use Rattle.port_card.specs.Seats.{SeatView}
use Rattle.port_card.specs.inner.Columns.{columns_total}
use Rattle.port_card.proofs.closing.gathered_columns.Given as goal

abbrev pub invariant-loop-seat : goal.invariant-loop-seat
invariant-loop-seat g l = record {
  can : (goal.iterator-loop-seat g).can_next l.seat-iterator;
  ends : (goal.iterator-loop-seat g).is_finite l.seat-iterator;
  room : length l.fn.seats.items ≤ vec_capacity l.columns;
  columns : l.columns.items ≡ map (λ (seat : SeatView). seat.tallies) l.yielded;
  parts : l.shares.parts ≡ length l.yielded;
  most : l.shares.parts ≤ g.S.Ledgers.names.ports;
  tally : l.shares.tally ≡ columns_total l.columns.items;
}
