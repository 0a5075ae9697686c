use Rattle.std.proofs.Common.{◌≡◌, ◌+◌, vec_capacity}
use Rattle.line_record.specs.Tally.{nothing}
use Rattle.port_card.specs.Seats.{AreNewSeats}
use Rattle.port_card.proofs.card.new_seats.Given as goal

abbrev pub invariant-loop-port : goal.invariant-loop-port
invariant-loop-port g l =
    (l.rest.parts + l.port ≡ l.ports) × (l.rest.tally ≡ nothing)
    × (vec_capacity l.seats ≡ l.ports) × AreNewSeats l.seats.items l.port l.lines
