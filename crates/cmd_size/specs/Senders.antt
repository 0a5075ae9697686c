-- A sender who keeps to his contract, and the bucket of his rate. Times are in nanoseconds.
use Rattle.std.specs.Prelude.{◌≡◌, ℕ, ◌+◌, ◌*◌, ◌/◌, ◌<◌, ◌≤◌, List, [], ◌∷◌, length, map, Option, None, Some, ⊤}
use Rattle.leaky.specs.Bucket.{opening}
use Rattle.leaky.specs.Bursts.{AllFill}
use Rattle.leaky.specs.Moments.{GoesOn}
use Rattle.leaky.specs.Tolerance.{tolerance_of}
use Rattle.leaky.specs.declared.gcra.Gcra.{Gcra}
use Rattle.cmd_size.specs.CellRates.{units_of}
use Rattle.cmd_size.specs.Increments.{IsFastEnough, one_cell}
use Rattle.cmd_size.specs.declared.figures.CellRate.{CellRate}
use Rattle.cmd_size.specs.declared.figures.Figures.{Figures}
use Rattle.cmd_size.specs.declared.figures.Sustained.{Sustained}
use Rattle.cmd_size.specs.declared.sizing.SizedRate.{SizedRate}

-- At exactly this rate, from `start` on, the cell of this number (from 0) is due `number` cells later. It comes at that time or
-- up to `cdvt` after it. Both sides are multiplied by the units of the rate, so that no number is rounded.
pub record IsOnTime (rate : CellRate) (cdvt start number time : ℕ) : Type 0 where
  pub due : units_of rate * start + number * one_cell rate ≤ units_of rate * time
  pub late : units_of rate * time ≤ units_of rate * (start + cdvt) + number * one_cell rate

-- Cells at these times, numbered from this number on, are on time.
abbrev pub AreOnTime : CellRate → ℕ → ℕ → ℕ → List ℕ → Type 0
AreOnTime rate cdvt start number [] = ⊤
AreOnTime rate cdvt start number (time ∷ times) = IsOnTime rate cdvt start number time × AreOnTime rate cdvt start (number + 1) times

-- No bucket whose increment is fast enough and whose limit is at least the cell delay variation tolerance refuses a cell of
-- such a sender. Times don't go back, and a moment is the time in whole ticks.
abbrev pub SendersOnTimeLoseNothing : Type 0
SendersOnTimeLoseNothing = (rate : CellRate) (tick cdvt : ℕ) (gcra : Gcra) (start : ℕ) (times : List ℕ)
    → 0 < tick → 0 < units_of rate
    → IsFastEnough rate tick gcra.increment
    → cdvt ≤ gcra.limit * tick
    → GoesOn 0 times
    → AreOnTime rate cdvt start 0 times
    → AllFill gcra opening (map (λ time. time / tick) times)

-- The bucket of a sustained rate refuses no cell of a burst: `mbs` cells or fewer of such a sender at the peak rate, whose increment
-- is `peak`. The limit is at least the burst tolerance and the ticks of the cell delay variation tolerance.
abbrev pub BurstsOnTimeLoseNothing : Type 0
BurstsOnTimeLoseNothing = (rate : CellRate) (tick cdvt tolerance peak mbs : ℕ) (gcra : Gcra) (start : ℕ) (times : List ℕ)
    → 0 < tick → 0 < units_of rate
    → IsFastEnough rate tick peak
    → peak ≤ gcra.increment
    → cdvt ≤ tolerance * tick
    → tolerance_of mbs gcra.increment peak + tolerance ≤ gcra.limit
    → length times ≤ mbs
    → GoesOn 0 times
    → AreOnTime rate cdvt start 0 times
    → AllFill gcra opening (map (λ time. time / tick) times)

-- The bucket has these numbers.
abbrev pub IsBucketOf : SizedRate → Gcra → Type 0
IsBucketOf sized gcra = (gcra.increment ≡ sized.increment) × (gcra.limit ≡ sized.limit)

-- The bucket refuses no cell of a sender on time at this rate.
abbrev pub AdmitsOnTime : Figures → CellRate → SizedRate → Type 0
AdmitsOnTime figures rate sized = (gcra : Gcra) (start : ℕ) (times : List ℕ)
    → IsBucketOf sized gcra
    → GoesOn 0 times
    → AreOnTime rate figures.cdvt start 0 times
    → AllFill gcra opening (map (λ time. time / figures.tick) times)

-- The bucket refuses no cell of a burst of `mbs` cells or fewer, on time at the peak rate.
abbrev pub AdmitsBursts : Figures → ℕ → SizedRate → Type 0
AdmitsBursts figures mbs sized = (gcra : Gcra) (start : ℕ) (times : List ℕ)
    → IsBucketOf sized gcra
    → length times ≤ mbs
    → GoesOn 0 times
    → AreOnTime figures.pcr figures.cdvt start 0 times
    → AllFill gcra opening (map (λ time. time / figures.tick) times)

-- The bucket of the sustained rate, if the contract has one, admits both.
abbrev pub AdmitsSustained : Figures → Option Sustained → Option SizedRate → Type 0
AdmitsSustained figures None sized = sized ≡ None
AdmitsSustained figures (Some asked) None = ⊥
AdmitsSustained figures (Some asked) (Some sized) = AdmitsOnTime figures asked.scr sized × AdmitsBursts figures asked.mbs sized
