-- Tallies of several seats, by line.
use Rattle.std.specs.Prelude.{ℕ, List, map, slice_get}
use Rattle.line_record.specs.declared.tally.Tally.{Tally}
use Rattle.line_record.specs.Tally.{total}
use Rattle.port_card.specs.Seats.{tally_or_nothing}

-- The tally of one seat for this line.
abbrev pub column_on : ℕ → List Tally → Tally
column_on line column = tally_or_nothing (slice_get column line)

-- The sum over the seats for this line.
abbrev pub columns_on : List (List Tally) → ℕ → Tally
columns_on columns line = total (map (column_on line) columns)

-- The sum over the seats and all lines.
abbrev pub columns_total : List (List Tally) → Tally
columns_total columns = total (map total columns)
