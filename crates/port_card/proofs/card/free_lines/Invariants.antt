use Rattle.std.proofs.Common.{◌≡◌, ◌+◌, false, map, replicate, vec_len, vec_capacity}
use Rattle.line_record.specs.Line.{free_line}
use Rattle.line_record.specs.Tally.{nothing}
use Rattle.port_card.proofs.card.free_lines.Given as goal

abbrev pub invariant-loop : goal.invariant-loop
invariant-loop g l =
    (l.rest.parts + l.counter ≡ l.lines) × (l.rest.tally ≡ nothing)
    × (vec_capacity l.made ≡ l.lines) × (vec_len l.made ≡ l.counter)
    × (map (λ counted_line. counted_line.line) l.made.items ≡ replicate l.counter (free_line l.journal nothing false))
