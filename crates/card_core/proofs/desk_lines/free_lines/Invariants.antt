use Rattle.std.proofs.Common.{◌≡◌, vec_len, vec_capacity, replicate, false}
use Rattle.line_record.specs.Tally.{nothing}
use Rattle.line_record.specs.Line.{free_line}
use Rattle.card_core.proofs.desk_lines.free_lines.Given as goal

abbrev pub invariant-loop : goal.invariant-loop
invariant-loop l =
    (vec_capacity l.lines ≡ l.many) × (vec_len l.lines ≡ l.counter)
    × (l.lines.items ≡ replicate l.counter (free_line l.journal nothing false))
