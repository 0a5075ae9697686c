-- The buckets of a contract, from its figures.
use Rattle.std.specs.Prelude.{◌≡◌, ℕ, ◌+◌, ◌*◌, ◌^◌, ◌<◌, ◌≤◌, ◌==◌, nat_le, nat_lt, ◌&&◌, Bool, if◌then◌else◌, Option, Some, None, Result, Ok, Err}
use Rattle.std.specs.Int.{div_ceil}
use Rattle.leaky.specs.Tolerance.{tolerance_of}
use Rattle.cmd_size.specs.CellRates.{units_of}
use Rattle.cmd_size.specs.Increments.{IsGreatest, distance_at, increment_of, is_far, one_second, policed_at}
use Rattle.cmd_size.specs.declared.fault.SizeFault.{SizeFault}
use Rattle.cmd_size.specs.declared.fault.SizeFault.TheVariants.{BadNumber, ZeroRate, TooFast, ZeroMbs, PeakSlower, TooLarge}
use Rattle.cmd_size.specs.declared.figures.CellRate.{CellRate}
use Rattle.cmd_size.specs.declared.figures.Figures.{Figures}
use Rattle.cmd_size.specs.declared.figures.Sustained.{Sustained}
use Rattle.cmd_size.specs.declared.sizing.SizedRate.{SizedRate}
use Rattle.cmd_size.specs.declared.sizing.Sizes.{Sizes}

-- What `next` makes of the value, or the fault.
abbrev pub followed : {A B : Type 0} → Result A SizeFault → (A → Result B SizeFault) → Result B SizeFault
followed (Ok value) next = next value
followed (Err fault) next = Err fault

-- A tick has 1 nanosecond to 1 second.
abbrev pub is_tick : ℕ → Bool
is_tick tick = nat_le 1 tick && nat_le tick one_second

-- The increment of a rate, or its fault.
abbrev pub increment_in : CellRate → ℕ → Result ℕ SizeFault
increment_in rate tick =
    if units_of rate == 0 then Err ZeroRate
    else if increment_of rate tick == 0 then Err TooFast
    else Ok (increment_of rate tick)

-- The limit, if a bucket may have it.
abbrev pub limit_within : ℕ → Result ℕ SizeFault
limit_within limit = if nat_lt (2 ^ 48) limit then Err TooLarge else Ok limit

-- The limit of the bucket of the sustained rate: the burst tolerance, and the tolerance of the peak rate.
abbrev pub sustained_limit : ℕ → ℕ → ℕ → ℕ → Result ℕ SizeFault
sustained_limit mbs increment peak tolerance =
    if mbs == 0 then Err ZeroMbs
    else if nat_lt increment peak then Err PeakSlower
    else limit_within (tolerance_of mbs increment peak + tolerance)

-- The bucket with this increment and this limit, and the rate that it polices.
abbrev pub sized_rate : CellRate → ℕ → ℕ → ℕ → SizedRate
sized_rate rate tick ticks tolerated = record {
  increment = ticks;
  limit = tolerated;
  policed = policed_at (ticks * tick);
  distance = distance_at rate (ticks * tick);
  coarse = is_far rate (ticks * tick);
}

-- The bucket of the peak rate alone.
abbrev pub peak_alone : Figures → ℕ → ℕ → Sizes
peak_alone figures ticks tolerance = record { peak = sized_rate figures.pcr figures.tick ticks tolerance; sustained = None }

-- Both buckets, the second with this increment and this limit.
abbrev pub both_sized : Figures → ℕ → ℕ → Sustained → ℕ → ℕ → Sizes
both_sized figures ticks tolerance asked increment limit = record {
  peak = sized_rate figures.pcr figures.tick ticks tolerance;
  sustained = Some (sized_rate asked.scr figures.tick increment limit);
}

-- The buckets, where the peak rate has this increment and the tolerance this many ticks.
abbrev pub sizes_with : Figures → ℕ → ℕ → Option Sustained → Result Sizes SizeFault
sizes_with figures ticks tolerance None = followed (limit_within tolerance) (λ limit. Ok (peak_alone figures ticks limit))
sizes_with figures ticks tolerance (Some asked) =
    followed (increment_in asked.scr figures.tick) (λ increment.
    followed (sustained_limit asked.mbs increment ticks tolerance) (λ limit. Ok (both_sized figures ticks tolerance asked increment limit)))

-- The buckets of a contract, or the first fault. The cell delay variation tolerance is rounded up to whole ticks.
abbrev pub sizes_of : Figures → Result Sizes SizeFault
sizes_of figures =
    if is_tick figures.tick
    then followed (increment_in figures.pcr figures.tick) (λ ticks. sizes_with figures ticks (div_ceil figures.cdvt figures.tick) figures.sustained)
    else Err BadNumber

-- A bucket may have these numbers: they are the bounds of `Gcra::new`.
pub record IsBucket (rate : SizedRate) : Type 0 where
  pub some : 0 < rate.increment
  pub increment : rate.increment ≤ 2 ^ 48
  pub limit : rate.limit ≤ 2 ^ 48

-- The limit is at least this time.
abbrev pub Tolerates : ℕ → ℕ → SizedRate → Type 0
Tolerates time tick rate = time ≤ rate.limit * tick

-- The increment of the sustained rate is the greatest, if there is such a rate.
abbrev pub AreGreatest : Option Sustained → ℕ → Option SizedRate → Type 0
AreGreatest None tick rate = rate ≡ None
AreGreatest (Some asked) tick None = ⊥
AreGreatest (Some asked) tick (Some rate) = IsGreatest asked.scr tick rate.increment
