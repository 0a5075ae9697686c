-- Closing a card: the counts of the lines compared with the tallies of the seats.
use Rattle.std.specs.Prelude.{◌≡◌, ◌≢◌, ℕ, ◌<◌, ◌≤◌, List, length, map, Option, Some, None, slice_get}
use Rattle.line_record.specs.declared.tally.Tally.{Tally}
use Rattle.line_record.specs.Line.{LineView}
use Rattle.line_record.specs.Tally.{total}
use Rattle.card_core.specs.declared.shape.Shape.{Shape}
use Rattle.port_card.specs.Seats.{SeatView, tally_on, tally_of_seat}
use Rattle.port_card.specs.declared.closing.CloseFault.{CloseFault}
use Rattle.port_card.specs.declared.closing.CloseFault.TheVariants.{Missing, NoMemory}

-- The counts of the line since it was made.
abbrev pub line_counts : LineView → Tally
line_counts line = line.state.counts

-- The sum of the counts of all lines.
abbrev pub lines_total : List LineView → Tally
lines_total lines = total (map line_counts lines)

-- The sum of the tallies of all seats, over all lines.
abbrev pub seats_total : List SeatView → Tally
seats_total seats = total (map tally_of_seat seats)

-- The sum of the tallies of all seats for this line.
abbrev pub seats_on : List SeatView → ℕ → Tally
seats_on seats line = total (map (tally_on line) seats)

-- The counts of this line, if it exists, are those in `tallies`.
abbrev pub IsEven : List LineView → (ℕ → Tally) → ℕ → Type 0
IsEven lines tallies number = (line : LineView) → slice_get lines number ≡ Some line
    → line_counts line ≡ tallies number

-- This line exists, and its counts differ from those in `tallies`.
pub record IsUneven (lines : List LineView) (tallies : ℕ → Tally) (number : ℕ) : Type 0 where
  pub line : LineView
  pub there : slice_get lines number ≡ Some line
  pub differs : line_counts line ≢ tallies number

-- The first uneven line, or None if all lines are even.
abbrev pub IsFirstUneven : List LineView → (ℕ → Tally) → Option ℕ → Type 0
IsFirstUneven lines tallies None = (number : ℕ) → IsEven lines tallies number
IsFirstUneven lines tallies (Some first) =
    IsUneven lines tallies first × ((number : ℕ) → number < first → IsEven lines tallies number)

-- The errors of a close: Missing only if there are fewer seats than ports, NoMemory only if there are enough.
abbrev pub IsUnclosed : Shape → List SeatView → CloseFault → Type 0
IsUnclosed shape seats Missing = length seats < shape.ports
IsUnclosed shape seats NoMemory = shape.ports ≤ length seats
