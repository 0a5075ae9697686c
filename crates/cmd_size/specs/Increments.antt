-- The increment of a rate, and the rate that an increment polices. A tick and other times are in nanoseconds. All numbers are exact: what a
-- sender sends is counted in billionths of a unit (a cell or a bit), and a sender sends `units_of` of these in a nanosecond.
use Rattle.std.specs.Prelude.{ℕ, ◌+◌, ◌-◌, ◌*◌, ◌/◌, ◌<◌, ◌≤◌, Bool, nat_lt}
use Rattle.cmd_size.specs.CellRates.{units_of, units_per_cell}
use Rattle.cmd_size.specs.declared.figures.CellRate.{CellRate}

-- The nanoseconds in a second.
abbrev pub one_second : ℕ
one_second = 1000000000

-- What a sender at exactly this rate sends in this time.
abbrev pub sent_in : CellRate → ℕ → ℕ
sent_in rate time = time * units_of rate

-- One cell, in billionths of a unit.
abbrev pub one_cell : CellRate → ℕ
one_cell rate = one_second * units_per_cell rate

-- A policer with this increment is at least as fast as the rate: in the time between two cells that it admits, a sender at
-- exactly this rate sends at most one cell.
abbrev pub IsFastEnough : CellRate → ℕ → ℕ → Type 0
IsFastEnough rate tick increment = sent_in rate (increment * tick) ≤ one_cell rate

-- The increment is the greatest that is fast enough: with one tick more the policer is slower than the rate.
pub record IsGreatest (rate : CellRate) (tick increment : ℕ) : Type 0 where
  pub fast : IsFastEnough rate tick increment
  pub slow : one_cell rate < sent_in rate ((increment + 1) * tick)

-- The increment of a rate above 0: the time of one cell in ticks, rounded down.
abbrev pub increment_of : CellRate → ℕ → ℕ
increment_of rate tick = one_cell rate / sent_in rate tick

-- The rate of one cell in this time, in cells a second, rounded down.
abbrev pub policed_at : ℕ → ℕ
policed_at time = one_second / time

-- What one cell has more than a sender at exactly this rate sends in this time.
abbrev pub excess_in : CellRate → ℕ → ℕ
excess_in rate time = one_cell rate - sent_in rate time

-- By how much one cell in this time is above the rate, in hundredths of a percent of the rate, rounded down.
abbrev pub distance_at : CellRate → ℕ → ℕ
distance_at rate time = 10000 * excess_in rate time / sent_in rate time

-- One cell in this time is above the rate by more than one percent of the rate.
abbrev pub is_far : CellRate → ℕ → Bool
is_far rate time = nat_lt (sent_in rate time) (100 * excess_in rate time)
