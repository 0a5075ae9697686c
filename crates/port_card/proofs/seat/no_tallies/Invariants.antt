use Rattle.std.proofs.Common.{◌≡◌, vec_len, vec_capacity, replicate}
use Rattle.line_record.specs.Tally.{nothing}
use Rattle.port_card.proofs.seat.no_tallies.Given as goal

abbrev pub invariant-loop : goal.invariant-loop
invariant-loop l =
    (vec_capacity l.tallies ≡ l.lines) × (vec_len l.tallies ≡ l.counter)
    × (l.tallies.items ≡ replicate l.counter nothing)
