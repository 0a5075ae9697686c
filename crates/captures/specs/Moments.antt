-- Times of records in ticks. A time is in units of 2^-32 seconds.
use Rattle.std.specs.Prelude.{◌≡◌, ◌+◌, ◌-◌, ◌*◌, ◌/◌, ◌^◌, ◌<◌, ℕ}

-- The number of ticks that is nearest to a time, if a tick has this many nanoseconds. In the middle between two numbers it is the greater.
abbrev pub nearest_tick : ℕ → ℕ → ℕ
nearest_tick time nanoseconds = (time * 1000000000 + 2 ^ 31 * nanoseconds) / (2 ^ 32 * nanoseconds)

-- The time with which a card stamps a cell that came at this nanosecond: rounded down.
abbrev pub stamp_at : ℕ → ℕ
stamp_at nanosecond = nanosecond * 2 ^ 32 / 1000000000

-- Stamps lose no tick: if two cells came a whole number of ticks apart, their stamps give this number.
abbrev pub StampsLoseNoTick : Type 0
StampsLoseNoTick = (first ticks nanoseconds : ℕ) → 0 < nanoseconds
    → nearest_tick (stamp_at (first + ticks * nanoseconds) - stamp_at first) nanoseconds ≡ ticks
