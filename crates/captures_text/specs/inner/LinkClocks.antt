-- What usual records need of a filter.
use Rattle.std.specs.Prelude.{◌≡◌, ℕ, List, Some}
use Rattle.captures.specs.declared.clock.Clock.{Clock}
use Rattle.captures.specs.declared.reader.Record.{Record}
use Rattle.captures_text.specs.CellFilter.{filter_record, filter_state}
use Rattle.captures_text.specs.declared.filter.CellFilter.{CellFilter}
use Rattle.captures_text.specs.declared.filter.Filtered.TheVariants.{Counts}
use Rattle.captures_text.specs.declared.filter.LinkClock.{LinkClock}

-- The filter with this clock.
abbrev pub with_clock : CellFilter → Clock → CellFilter
with_clock filter clock = record filter { clock = Some clock }

-- The filter has this tick, link and clock.
pub record IsLinkClock (filter : CellFilter) (link_clock : LinkClock) (clock : Clock) : Type 0 where
  pub ticks : filter.ticks ≡ link_clock.ticks
  pub link : filter.link ≡ Some link_clock.link
  pub clock_is : filter.clock ≡ Some clock

-- The cell of a record counts at this moment, and the filter goes on with this clock.
abbrev pub CountsAt : CellFilter → Record → ℕ → List ℕ → Clock → Type 0
CountsAt filter record_read moment cell clock =
    filter_record (filter_state filter) record_read ≡ (Counts moment cell, filter_state (with_clock filter clock))
