-- A tick at which the rates of a contract are close to those asked for.
use Rattle.std.specs.Prelude.{ℕ, ◌||◌, not, Bool, false, List, [], ◌∷◌, Option, Some, None, Result, Ok, Err}
use Rattle.std.specs.List.{find}
use Rattle.cmd_size.specs.Sizing.{sizes_of}
use Rattle.cmd_size.specs.declared.fault.SizeFault.{SizeFault}
use Rattle.cmd_size.specs.declared.figures.Figures.{Figures}
use Rattle.cmd_size.specs.declared.sizing.SizedRate.{SizedRate}
use Rattle.cmd_size.specs.declared.sizing.Sizes.{Sizes}

-- A rate is above the one asked for by more than one percent.
abbrev pub is_coarse_rate : Option SizedRate → Bool
is_coarse_rate None = false
is_coarse_rate (Some rate) = rate.coarse

-- One of the rates is above the one asked for by more than one percent.
abbrev pub is_coarse : Sizes → Bool
is_coarse sizes = sizes.peak.coarse || is_coarse_rate sizes.sustained

-- The same contract, policed at another tick.
abbrev pub at_tick : Figures → ℕ → Figures
at_tick figures ticks = record figures { tick = ticks }

-- There are buckets, and no rate is coarse.
abbrev pub is_fine : Result Sizes SizeFault → Bool
is_fine (Ok sizes) = not (is_coarse sizes)
is_fine (Err fault) = false

-- At this tick the contract has buckets, and no rate is coarse.
abbrev pub is_fine_at : Figures → ℕ → Bool
is_fine_at figures tick = is_fine (sizes_of (at_tick figures tick))

-- The ticks among which one is advised, in nanoseconds: from one second on each a tenth of the one before.
abbrev pub advised_ticks : List ℕ
advised_ticks = 1000000000 ∷ 100000000 ∷ 10000000 ∷ 1000000 ∷ 100000 ∷ 10000 ∷ 1000 ∷ 100 ∷ 10 ∷ 1 ∷ []

-- The longest of them at which the contract has buckets and no rate is coarse, if there is one.
abbrev pub better_tick_of : Figures → Option ℕ
better_tick_of figures = find (is_fine_at figures) advised_ticks
