-- The counts of a port's seat.
use Rattle.std.specs.Prelude.{◌≡◌, ℕ, List, length, replicate, Option, Some, None, slice_get, slice_set}
use Rattle.leaky.specs.declared.verdict.Verdict.{Verdict}
use Rattle.line_record.specs.declared.tally.Tally.{Tally}
use Rattle.line_record.specs.Tally.{nothing, counted, total}
use Rattle.card_core.specs.Sections.{JudgedView}

-- The number of the port, and for each line the tally of the cells that arrived at the port and were judged on that
-- line.
pub record SeatView : Type 0 where
  pub port : ℕ
  pub tallies : List Tally

-- A seat that has counted no cell.
abbrev pub new_seat : ℕ → ℕ → SeatView
new_seat port lines = record { port = port; tallies = replicate lines nothing }

-- One seat for each port, in the order of the ports; none has counted a cell.
pub record AreNewSeats (seats : List SeatView) (ports lines : ℕ) : Type 0 where
  pub one_each : length seats ≡ ports
  pub new : (port : ℕ) (seat : SeatView) → slice_get seats port ≡ Some seat → seat ≡ new_seat port lines

-- The tally, or zero if there is none.
abbrev pub tally_or_nothing : Option Tally → Tally
tally_or_nothing None = nothing
tally_or_nothing (Some tally) = tally

-- The tally of the seat for this line.
abbrev pub tally_on : ℕ → SeatView → Tally
tally_on line seat = tally_or_nothing (slice_get seat.tallies line)

-- The sum of the seat's tallies over all lines.
abbrev pub tally_of_seat : SeatView → Tally
tally_of_seat seat = total seat.tallies

-- The seat after it counts one cell with this verdict on this line.
abbrev pub counted_on : SeatView → ℕ → Verdict → SeatView
counted_on seat line verdict = record seat { tallies = slice_set seat.tallies line (counted (tally_on line seat) verdict) }

-- The counts after an answer: one more cell with its verdict exactly if the cell was judged.
abbrev pub counts_after : Tally → Option JudgedView → Tally
counts_after counts None = counts
counts_after counts (Some judged) = counted counts judged.verdict

-- The seat after an answer: it counts the cell exactly if the cell was judged.
abbrev pub seat_after : SeatView → Option JudgedView → SeatView
seat_after seat None = seat
seat_after seat (Some judged) = counted_on seat judged.line judged.verdict
