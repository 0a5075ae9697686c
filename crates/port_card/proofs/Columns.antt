-- Columns and the seats that they are from.
use Rattle.std.proofs.Common.{◌≡◌, ℕ, Option, Some, None, List, map, sym, ap, ◌∙◌}
use Rattle.std.proofs.lemmas.Simd.{map-map}
use Rattle.line_record.specs.declared.tally.Tally.{Tally}
use Rattle.line_record.specs.Line.{LineView}
use Rattle.line_record.specs.Tally.{total}
use Rattle.port_card.specs.Seats.{SeatView}
use Rattle.port_card.specs.Closing.{seats_total, seats_on, IsEven, IsFirstUneven}
use Rattle.port_card.specs.inner.Columns.{column_on, columns_on, columns_total}

abbrev pub columns_of : List SeatView → List (List Tally)
columns_of seats = map (λ (seat : SeatView). seat.tallies) seats

pub columns_total-of : (seats : List SeatView) → columns_total (columns_of seats) ≡ seats_total seats
columns_total-of seats = ap total (map-map total (λ (seat : SeatView). seat.tallies) seats)

pub columns_on-of : (seats : List SeatView) (line : ℕ) → columns_on (columns_of seats) line ≡ seats_on seats line
columns_on-of seats line = ap total (map-map (column_on line) (λ (seat : SeatView). seat.tallies) seats)

-- A line that is even for one sum is even for an equal one.
even-along : (lines : List LineView) (one other : ℕ → Tally) → ((line : ℕ) → one line ≡ other line)
    → (number : ℕ) → IsEven lines one number → IsEven lines other number
even-along lines one other same number even line at = even line at ∙ same number

pub first_uneven-along : (lines : List LineView) (one other : ℕ → Tally) → ((line : ℕ) → one line ≡ other line)
    → (uneven : Option ℕ) → IsFirstUneven lines one uneven → IsFirstUneven lines other uneven
first_uneven-along lines one other same None even = λ number. even-along lines one other same number (even number)
first_uneven-along lines one other same (Some first) (here, before) = (
  record {
    line = here.line;
    there = here.there;
    differs = λ equal. here.differs (equal ∙ sym (same first));
  },
  λ number below. even-along lines one other same number (before number below),
)
