-- Which cells of a capture count, and at which moments: those of one link whose time isn't before that of the capture's first cell, or of
-- an earlier cell that counts.
use Rattle.std.specs.Prelude.{◌≡◌, ◌-◌, nat_lt, max, if◌then◌else◌, Bool, ℕ, List, [], ◌∷◌, Option, Some, None, is_some, option_map, unwrap_or, Result, Ok, Err}
use Rattle.captures.specs.Links.{same_link}
use Rattle.captures.specs.Moments.{nearest_tick}
use Rattle.captures.specs.Reading.{IsReading}
use Rattle.captures.specs.declared.content.NoCell.{NoCell}
use Rattle.captures.specs.declared.fault.Fault.{Fault}
use Rattle.captures.specs.declared.format.Format.{Format}
use Rattle.captures.specs.declared.link.Link.{Link}
use Rattle.captures.specs.declared.packet_time.TimeSource.{TimeSource}
use Rattle.captures.specs.declared.reader.SkippedBlock.{SkippedBlock}
use Rattle.captures.specs.declared.reader.Record.{Record}
use Rattle.captures_text.specs.ReadingSummaries.{empty_summary, with_marked, with_skipped_block, without_cell}
use Rattle.captures_text.specs.Tallies.{one_more_record}
use Rattle.captures_text.specs.declared.captured_cell.CapturedCell.{CapturedCell}
use Rattle.captures_text.specs.declared.filter.CellFilter.{CellFilter}
use Rattle.captures_text.specs.declared.filter.Filtered.{Filtered}
use Rattle.captures_text.specs.declared.filter.Filtered.TheVariants.{Counts, Skipped, SecondLink}
use Rattle.captures_text.specs.declared.reading_summary.ReadingSummary.{ReadingSummary}

-- The state of a filter: the nanoseconds of a tick, which time of a record counts, whether a link was asked for, the
-- link that was, or that of the first cell, the time of the first cell of any link, the latest time of that cell and
-- the cells that count, and the records passed over.
pub record FilterState : Type 0 where
  pub tick : ℕ
  pub timing : TimeSource
  pub asked : Bool
  pub link : Option Link
  pub clock : Option (ℕ × ℕ)
  pub summary : ReadingSummary

-- The state of this filter.
abbrev pub filter_state : CellFilter → FilterState
filter_state filter = record {
  tick = filter.ticks.tick.nanoseconds;
  timing = filter.timing;
  asked = filter.asked;
  link = filter.link;
  clock = option_map (λ clock. (clock.first, clock.latest)) filter.clock;
  summary = filter.summary;
}

-- The state at first, with a tick of this many nanoseconds, the link that was asked for and the time of a record that counts.
abbrev pub filter_start : ℕ → Option Link → TimeSource → FilterState
filter_start tick link timing =
    record { tick = tick; timing = timing; asked = is_some link; link = link; clock = None; summary = empty_summary }

-- A cell of the right link, where the capture's first cell came at the time `first`, and `latest` is the latest time so far.
abbrev pub filter_at_time : FilterState → ℕ → ℕ → Record → List ℕ → Filtered × FilterState
filter_at_time state first latest record_read cell =
    if nat_lt record_read.time latest
    then (Skipped, record state { clock = Some (first, latest); summary = record state.summary { back = one_more_record state.summary.back record_read.number } })
    else (
      Counts (nearest_tick (record_read.time - first) state.tick) cell,
      record state { clock = Some (first, max latest record_read.time) },
    )

-- A cell of some link.
abbrev pub filter_at_link : FilterState → ℕ → ℕ → Record → List ℕ → Option Link → Filtered × FilterState
filter_at_link state first latest record_read cell None =
    filter_at_time (record state { link = Some record_read.link }) first latest record_read cell
filter_at_link state first latest record_read cell (Some link) =
    if same_link link record_read.link then filter_at_time state first latest record_read cell
    else if state.asked
    then (Skipped, record state { clock = Some (first, latest); summary = record state.summary { other_link = one_more_record state.summary.other_link record_read.number } })
    else (SecondLink link record_read.link, state)

-- A cell. The time of the first cell, of whatever link, is moment 0.
abbrev pub filter_cell : FilterState → ℕ × ℕ → Record → List ℕ → Filtered × FilterState
filter_cell state clock record_read cell = filter_at_link state clock.0 clock.1 record_read cell state.link

-- A record, by what it holds. One without a cell has no time that matters.
abbrev pub filter_content : FilterState → Record → Result (List ℕ) NoCell → Filtered × FilterState
filter_content state record_read (Err why) = (Skipped, record state { summary = without_cell state.summary why record_read.number })
filter_content state record_read (Ok cell) =
    filter_cell state (unwrap_or state.clock (record_read.time, record_read.time)) record_read cell

-- The state after the marks of a record are counted.
abbrev pub filter_marked : FilterState → Record → FilterState
filter_marked state record_read = record state { summary = with_marked state.summary record_read.marks record_read.number }

-- What a record is in this state, and the next state.
abbrev pub filter_record : FilterState → Record → Filtered × FilterState
filter_record state record_read = filter_content (filter_marked state record_read) record_read record_read.content

-- The state after a block or a packet without a record.
abbrev pub filter_block : FilterState → SkippedBlock → FilterState
filter_block state block = record state { summary = with_skipped_block state.summary block }

-- The cells that count among a record with this number, of which the filter says this, and the records after it.
abbrev pub captured_then : Filtered → ℕ → List CapturedCell → List CapturedCell
captured_then (Counts moment cell) number later = record { number = number; moment = moment; cell = cell } ∷ later
captured_then Skipped number later = later
captured_then (SecondLink one other) number later = []

-- The cells that count in what frames give, in order, from this state on.
abbrev pub captured_cells : FilterState → List (Result Record SkippedBlock) → List CapturedCell
captured_cells state [] = []
captured_cells state (Err block ∷ frames) = captured_cells (filter_block state block) frames
captured_cells state (Ok record_read ∷ frames) =
    captured_then (filter_record state record_read).0 record_read.number (captured_cells (filter_record state record_read).1 frames)

-- How the cells of a capture end.
pub data CellsEnd : Type 0 where
  -- With the capture, or at its fault, after this was passed over.
  Closes : ReadingSummary → Option Fault → CellsEnd
  -- At a cell of a second link, where none was asked for: the first link, and this one.
  Crosses : Link → Link → CellsEnd

-- How the cells end, if the filter says this of a record, and the cells of those after it end so.
abbrev pub ends_then : Filtered → CellsEnd → CellsEnd
ends_then (Counts moment cell) later = later
ends_then Skipped later = later
ends_then (SecondLink one other) later = Crosses one other

-- How the cells in what frames give end, from this state on.
abbrev pub cells_end : FilterState → List (Result Record SkippedBlock) → Option Fault → CellsEnd
cells_end state [] ending = Closes state.summary ending
cells_end state (Err block ∷ frames) ending = cells_end (filter_block state block) frames ending
cells_end state (Ok record_read ∷ frames) ending =
    ends_then (filter_record state record_read).0 (cells_end (filter_record state record_read).1 frames ending)

-- From this state on, after this many records, at this place, the octets are read as frames in which these cells count,
-- in order, and end so.
pub record HasCells (state : FilterState) (format : Format) (count at : ℕ) (octets : List ℕ) (cells : List CapturedCell) (end : CellsEnd) : Type 0 where
  pub frames : List (Result Record SkippedBlock)
  pub ending : Option Fault
  pub reading : IsReading format count at octets frames ending
  pub captured : cells ≡ captured_cells state frames
  pub ended : end ≡ cells_end state frames ending
