-- How the driver goes from frame to frame.
use Rattle.std.specs.Prelude.{◌≡◌, ◌+◌, ◌^◌, ◌<◌, ℕ, List, [], ◌++◌, length, None, Ok, Err}
use Rattle.captures.specs.Frames.{first_frame}
use Rattle.captures.specs.declared.reader.Record.{Record}
use Rattle.captures_text.specs.CellFilter.{FilterState, filter_state}
use Rattle.captures_text.specs.inner.Progress.{CaptureProgress, Texts}
use Rattle.text_io.specs.declared.ending.Done.{Done}
use Rattle.text_io.specs.declared.ending.Done.TheVariants.{Ended}
use Rattle.text_io.specs.declared.machine.Turn.{Turn}
use Rattle.text_io.specs.declared.machine.Turn.TheVariants.{GoesOn, Ends}
use Rattle.cmd_forward.specs.Forwarding.{ForwardState, ForwardsOctets, WritesFrame}
use Rattle.cmd_forward.specs.JudgeRules.{JudgeRules, OfEachJudgeWorld}
use Rattle.cmd_forward.specs.declared.others.Others.{Others}
use Rattle.cmd_forward.specs.declared.stepping.ForwardReading.{ForwardReading}
use Rattle.cmd_forward.specs.declared.stepping.StepOutcome.{StepOutcome}
use Rattle.cmd_forward.specs.declared.stepping.StepOutcome.TheVariants as outcome

-- The state of a run with this filter in this world.
abbrev pub at_state : {World : Type 0} → FilterState → World → ForwardState World
at_state filter world = record { filter = filter; world = world }

-- From where the reading is and this world, with this report.
abbrev pub ForwardsHere : {World : Type 0} → JudgeRules World → Others → ForwardReading → World → List ℕ → Texts
ForwardsHere rules others reading world report octets text done =
    ForwardsOctets rules others (at_state (filter_state reading.filter) world) reading.reader.format reading.reader.count reading.reader.at octets text report done

-- The same with some report.
abbrev pub ForwardsSomehow : {World : Type 0} → JudgeRules World → Others → ForwardReading → World → Texts
ForwardsSomehow rules others reading world octets text done = (report : List ℕ) × ForwardsHere rules others reading world report octets text done

-- A record was written, or ended the run.
abbrev pub TurnsAtRecord : {World : Type 0} → JudgeRules World → Others → (World → Type 0) → FilterState → Record → List ℕ → Turn → FilterState → (World → Type 0)
    → List ℕ → List ℕ → List ℕ → List ℕ → Type 0
TurnsAtRecord {World = World} rules others shown filter record_read octets GoesOn filter' shown' old new said said' =
    (said' ≡ said) × OfEachJudgeWorld rules shown (λ world. (here : List ℕ) × (after : World) × (new ≡ old ++ here) × shown' after
    × WritesFrame rules others (at_state filter world) (Ok record_read) octets here (Ok (at_state filter' after)))
TurnsAtRecord rules others shown filter record_read octets Ends filter' shown' old new said said' =
    (new ≡ old) × OfEachJudgeWorld rules shown (λ world. (last : List ℕ) × (said' ≡ said ++ last)
    × WritesFrame rules others (at_state filter world) (Ok record_read) octets [] (Err last))

-- From this world, what was written grew by a text that leads to a sound world that is shown. Any text for the octets that wait after it
-- completes a text for those that waited before it.
pub record ForwardsOn {World : Type 0} (rules : JudgeRules World) (others : Others) (before : ForwardReading) (world : World) (after : ForwardReading)
    (shown : World → Type 0) (old new : List ℕ) : Type 0 where
  pub here : List ℕ
  pub grew : new ≡ old ++ here
  pub next : World
  pub sound : rules.is_sound next
  pub is_shown : shown next
  pub completes : (report more text : List ℕ) (done : Done) → ForwardsHere rules others after next report (after.window ++ more) text done
      → ForwardsHere rules others before world report (before.window ++ more) (here ++ text) done

-- From this world, nothing more is written, whatever follows, and the run ends. The report grew by what is reported then.
pub record ForwardsToEnd {World : Type 0} (rules : JudgeRules World) (others : Others) (before : ForwardReading) (world : World) (said said' : List ℕ) : Type 0 where
  pub last : List ℕ
  pub grew : said' ≡ said ++ last
  pub ends : (more : List ℕ) → ForwardsHere rules others before world last (before.window ++ more) [] Ended

-- How far the reading came: by one frame, or to where more octets are wanted.
abbrev pub ForwardedSoFar : StepOutcome → ForwardReading → ForwardReading → Type 0
ForwardedSoFar outcome.GoesOn before after =
    (own : List ℕ) × (before.window ≡ own ++ after.window) × (0 < length own) × (after.reader.at ≡ before.reader.at + length own) × (after.reader.at < 2 ^ 64)
ForwardedSoFar outcome.NeedsOctets before after =
    (after.window ≡ before.window) × (after.reader.at ≡ before.reader.at)
    × (first_frame after.reader.format after.reader.at after.window ≡ None) × (length after.window < 131072)
ForwardedSoFar outcome.Ended before after = Unit {0}

-- The run reached a sound world that is shown, and so far from the world in which it began.
pub record ReachesForward {World : Type 0} (rules : JudgeRules World) (others : Others) (shown : World → Type 0) (reading0 reading : ForwardReading)
    (first : World) (Known Held : Type 0) (rest0 rest before now waiting : List ℕ) : Type 0 where
  pub present : World
  pub sound : rules.is_sound present
  pub is_shown : shown present
  pub goes : (report : List ℕ) → CaptureProgress (ForwardsHere rules others reading0 first report) (ForwardsHere rules others reading present report)
      Known Held reading0.window rest0 reading.window rest before now waiting

-- So far the run came from each sound world that was shown at first.
abbrev pub ForwardedTo : {World : Type 0} → JudgeRules World → Others → (World → Type 0) → (World → Type 0) → ForwardReading → ForwardReading
    → Type 0 → Type 0 → List ℕ → List ℕ → List ℕ → List ℕ → List ℕ → Type 0
ForwardedTo rules others shown0 shown reading0 reading Known Held rest0 rest before now waiting = OfEachJudgeWorld rules shown0
    (λ first. ReachesForward rules others shown reading0 reading first Known Held rest0 rest before now waiting)
