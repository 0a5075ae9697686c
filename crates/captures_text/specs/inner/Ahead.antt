-- Records that are read before the cells of earlier ones are answered.
use Rattle.std.specs.Prelude.{◌≡◌, ◌≢◌, ◌⊎◌, ◌+◌, ◌^◌, ◌<◌, ◌≤◌, ℕ, List, [], ◌++◌, length, take, drop, Option, None, Some}
use Rattle.captures.specs.Frames.{first_frame}
use Rattle.captures_text.specs.CaptureText.{IsTextOfCells}
use Rattle.captures_text.specs.CellFilter.{CellsEnd, Closes, Crosses, HasCells, filter_state}
use Rattle.captures_text.specs.CellFollowing.{OfEachWorld}
use Rattle.captures_text.specs.CellRules.{CellRules}
use Rattle.captures.specs.declared.reader.Reader.{Reader}
use Rattle.captures_text.specs.inner.LinkClocks.{IsLinkClock, with_clock}
use Rattle.captures_text.specs.inner.Progress.{CaptureProgress, Texts}
use Rattle.captures_text.specs.declared.answering.StepOutcome.{StepOutcome}
use Rattle.captures_text.specs.declared.answering.StepOutcome.TheVariants as outcome
use Rattle.captures_text.specs.declared.captured_cell.CapturedCell.{CapturedCell}
use Rattle.captures_text.specs.declared.filter.CellFilter.{CellFilter}
use Rattle.captures_text.specs.declared.filter.LinkClock.{LinkClock}
use Rattle.captures_text.specs.declared.reading_ahead.Farther.{Farther}
use Rattle.captures_text.specs.declared.reading_ahead.StopReason.{StopReason}
use Rattle.captures_text.specs.declared.reading_ahead.StopReason.TheVariants as stop
use Rattle.captures_text.specs.declared.reading_ahead.ReadingAhead.{ReadingAhead}
use Rattle.text_io.specs.declared.ending.Done.{Done}
use Rattle.text_io.specs.declared.ending.Done.TheVariants.{Ended}

-- From where the reading is, these cells of octets count, and end so.
abbrev pub HasCellsFrom : ReadingAhead → List ℕ → List CapturedCell → CellsEnd → Type 0
HasCellsFrom reading octets cells end =
    HasCells (filter_state reading.filter) reading.reader.format reading.reader.count reading.reader.at octets cells end

-- From this world, the text may answer these cells, which were read before, and then octets.
abbrev pub IsQueuedText : {World : Type 0} → CellRules World → ReadingAhead → List CapturedCell → World → Texts
IsQueuedText rules reading cells world octets text done =
    (later : List CapturedCell) × (end : CellsEnd) × HasCellsFrom reading octets later end × IsTextOfCells rules world (cells ++ later) end text done

-- After what was read, and if these octets follow those that wait, these cells count, and end so.
abbrev pub ComesAfter : ReadingAhead → StopReason → List ℕ → List CapturedCell → CellsEnd → Type 0
ComesAfter after stop.NeedsOctets more later end = HasCellsFrom after (after.window ++ more) later end
ComesAfter after stop.Enough more later end = HasCellsFrom after (after.window ++ more) later end
ComesAfter after (stop.SecondLink one other) more later end = (later ≡ []) × (end ≡ Crosses one other)
ComesAfter after (stop.Broken fault) more later end = (later ≡ []) × (end ≡ Closes after.filter.summary (Some fault))

-- The reading with this filter and reader, at these octets.
abbrev pub reading_at : CellFilter → Reader → List ℕ → ReadingAhead
reading_at filter reader octets = record { window = octets; reader = reader; filter = filter }

-- The reading with this filter, after usual records were read so far among these octets.
abbrev pub reading_farther : CellFilter → List ℕ → Farther → ReadingAhead
reading_farther filter octets found = reading_at (with_clock filter found.clock) found.reader (drop found.place octets)

-- The reading went on through these octets.
pub record WentOn (before after : ReadingAhead) : Type 0 where
  pub own : List ℕ
  pub cut : before.window ≡ own ++ after.window
  pub place : after.reader.at + length after.window ≡ before.reader.at + length before.window
  pub near : before.reader.at < 2 ^ 64 → after.reader.at < 2 ^ 64

-- The reading went on through some frames. The cells that count among their records came to the others.
pub record ReadsSoFar (before after : ReadingAhead) (old new : List CapturedCell) : Type 0 where
  pub went : WentOn before after
  pub moved : (new ≡ old) ⊎ (before.reader.at < after.reader.at)
  pub fresh : List CapturedCell
  pub grew : new ≡ old ++ fresh
  pub leads : (more : List ℕ) (later : List CapturedCell) (end : CellsEnd) → HasCellsFrom after (after.window ++ more) later end
      → HasCellsFrom before (before.window ++ more) (fresh ++ later) end

-- Usual records were read so far among these octets, from this reader on, and their cells came to the others: what reading came to them came
-- through them.
abbrev pub ReadsUsual : LinkClock → Reader → List ℕ → List CapturedCell → Farther → List CapturedCell → Type 0
ReadsUsual link_clock reader octets cells found cells' = (first : ReadingAhead) (filter : CellFilter) (old : List CapturedCell)
    → IsLinkClock filter link_clock link_clock.clock → ReadsSoFar first (reading_at filter reader octets) old cells
    → ReadsSoFar first (reading_farther filter octets found) old cells'

-- How far the reading came: to where more octets are wanted, or through one frame at least.
abbrev pub CameTo : StopReason → ReadingAhead → ReadingAhead → List CapturedCell → List CapturedCell → Type 0
CameTo stop.NeedsOctets before after old new = WentOn before after × (first_frame after.reader.format after.reader.at after.window ≡ None)
    × (length after.window < 131072) × ((new ≡ old) ⊎ (before.reader.at < after.reader.at))
CameTo stop.Enough before after old new = WentOn before after × (before.reader.at < after.reader.at)
CameTo (stop.SecondLink one other) before after old new = Unit {0}
CameTo (stop.Broken fault) before after old new = Unit {0}

-- The waiting octets were read so far. The cells that count came to the others.
pub record ReadsCells (before : ReadingAhead) (how : StopReason) (after : ReadingAhead) (old new : List CapturedCell) : Type 0 where
  pub came : CameTo how before after old new
  pub fresh : List CapturedCell
  pub grew : new ≡ old ++ fresh
  pub leads : (more : List ℕ) (later : List CapturedCell) (end : CellsEnd) → ComesAfter after how more later end
      → HasCellsFrom before (before.window ++ more) (fresh ++ later) end

-- The reading goes on, or stops for this reason.
abbrev pub StepsTo : ReadingAhead → ReadingAhead → List CapturedCell → List CapturedCell → Option StopReason → Type 0
StepsTo first after old new None = ReadsSoFar first after old new
StepsTo first after old new (Some how) = ReadsCells first how after old new

-- From this world, the answers grew by a text that answers the cells that were read and what comes after them, and ends the run.
pub record EndsAfter {World : Type 0} (rules : CellRules World) (after : ReadingAhead) (how : StopReason) (cells : List CapturedCell) (world : World)
    (old new : List ℕ) : Type 0 where
  pub here : List ℕ
  pub grew : new ≡ old ++ here
  pub ends : (more : List ℕ) (later : List CapturedCell) (end : CellsEnd) → ComesAfter after how more later end
      → IsTextOfCells rules world (cells ++ later) end here Ended

-- Unless it ends, a run goes on by what comes after what was read.
abbrev pub GoesBy : StepOutcome → StopReason → Type 0
GoesBy outcome.GoesOn how = how ≡ stop.Enough
GoesBy outcome.NeedsOctets how = how ≡ stop.NeedsOctets
GoesBy outcome.Ended how = Unit {0}

-- How far the reading came, by how the run goes on: by one frame at least, or to where more octets are wanted, and then no cell waits.
abbrev pub CameSoFar : StepOutcome → ReadingAhead → ReadingAhead → List CapturedCell → Type 0
CameSoFar outcome.GoesOn before after cells = WentOn before after × (before.reader.at < after.reader.at)
CameSoFar outcome.NeedsOctets before after cells = WentOn before after
    × (first_frame after.reader.format after.reader.at after.window ≡ None) × (length after.window < 131072) × (cells ≡ [])
CameSoFar outcome.Ended before after cells = Unit {0}

-- The reading with these waiting octets.
abbrev pub with_window : ReadingAhead → List ℕ → ReadingAhead
with_window reading window = record reading { window = window }

-- More octets were read after those that wait. Near are all of them.
pub record FillsFirst (Known : Type 0) (rest rest' : List ℕ) (before : ReadingAhead) (near : List ℕ) : Type 0 where
  pub front : take (length before.window) near ≡ before.window
  pub same : Known → before.window ++ rest ≡ near ++ rest'
  pub longer : length before.window < length near
  pub bounded : length near ≤ 524288

-- The same, and the frames among the octets that wait then were read. None: the input has ended, and nothing changed.
abbrev pub FillsAndReads : Type 0 → List ℕ → List ℕ → ReadingAhead → Option StopReason → ReadingAhead → List CapturedCell → List CapturedCell → Type 0
FillsAndReads Known rest rest' before None after old new = (after ≡ before) × (new ≡ old) × (Known → before.window ++ rest ≡ before.window ++ rest')
FillsAndReads Known rest rest' before (Some how) after old new =
    (near : List ℕ) × FillsFirst Known rest rest' before near × ReadsCells (with_window before near) how after old new

-- How far the reading came after more octets were read, by how the run goes on.
abbrev pub CameAhead : StepOutcome → ReadingAhead → List ℕ → ReadingAhead → List CapturedCell → Type 0
CameAhead outcome.GoesOn before near after cells = WentOn (with_window before near) after × (length before.window < length near)
CameAhead outcome.NeedsOctets before near after cells = (near ≡ before.window) × (after ≡ before) × (cells ≡ [])
CameAhead outcome.Ended before near after cells = Unit {0}

-- From this world, the answers grew by a text that leads to a sound world that is shown. Any text for the cells and the
-- octets that wait after it completes a text for those that waited before it.
pub record Advances {World : Type 0} (rules : CellRules World) (before : ReadingAhead) (cells : List CapturedCell) (world : World) (after : ReadingAhead)
    (cells' : List CapturedCell) (shown : World → Type 0) (old new : List ℕ) : Type 0 where
  pub here : List ℕ
  pub grew : new ≡ old ++ here
  pub next : World
  pub sound : rules.is_sound next
  pub is_shown : shown next
  pub completes : (more text : List ℕ) (done : Done) → IsQueuedText rules after cells' next (after.window ++ more) text done
      → IsQueuedText rules before cells world (before.window ++ more) (here ++ text) done

-- From this world, the answers grew by a text that answers what waits, whatever follows, and ends the run.
pub record AdvancesToEnd {World : Type 0} (rules : CellRules World) (before : ReadingAhead) (cells : List CapturedCell) (world : World)
    (old new : List ℕ) : Type 0 where
  pub here : List ℕ
  pub grew : new ≡ old ++ here
  pub ends : (more : List ℕ) → IsQueuedText rules before cells world (before.window ++ more) here Ended

-- The run reached a sound world that is shown, and so far from the world in which it began.
pub record ReachesQueue {World : Type 0} (rules : CellRules World) (shown : World → Type 0) (reading0 reading : ReadingAhead) (cells : List CapturedCell)
    (first : World) (Known Held : Type 0) (rest0 rest before now waiting : List ℕ) : Type 0 where
  pub present : World
  pub sound : rules.is_sound present
  pub is_shown : shown present
  pub goes : CaptureProgress (IsQueuedText rules reading0 [] first) (IsQueuedText rules reading cells present) Known Held
      reading0.window rest0 reading.window rest before now waiting

-- So far the run came from each sound world that was shown at first.
abbrev pub CameToQueue : {World : Type 0} → CellRules World → (World → Type 0) → (World → Type 0) → ReadingAhead → ReadingAhead → List CapturedCell
    → Type 0 → Type 0 → List ℕ → List ℕ → List ℕ → List ℕ → List ℕ → Type 0
CameToQueue rules shown0 shown reading0 reading cells Known Held rest0 rest before now waiting = OfEachWorld rules shown0
    (λ first. ReachesQueue rules shown reading0 reading cells first Known Held rest0 rest before now waiting)

-- From the worlds that were shown, the run went on through more octets, which were read after those that wait: as it
-- came before these were read, and then from there on. At the end of the input the cells that waited are answered, and
-- none waits.
pub record FillsAhead {World : Type 0} (rules : CellRules World) (shown shown' : World → Type 0) (Known : Type 0) (rest rest' : List ℕ)
    (before : ReadingAhead) (cells : List CapturedCell) (how : StepOutcome) (after : ReadingAhead) (cells' : List CapturedCell) (old new : List ℕ) : Type 0 where
  pub near : List ℕ
  pub front : take (length before.window) near ≡ before.window
  pub same : Known → before.window ++ rest ≡ near ++ rest'
  pub bounded : length before.window ≤ 524288 → length near ≤ 524288
  pub goes_on : how ≢ outcome.Ended → OfEachWorld rules shown (λ world. Advances rules (with_window before near) cells world after cells' shown' old new)
  pub ends : how ≡ outcome.Ended → OfEachWorld rules shown (λ world. AdvancesToEnd rules (with_window before near) cells world old new)
  pub came : CameAhead how before near after cells'
