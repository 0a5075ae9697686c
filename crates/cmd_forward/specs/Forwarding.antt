-- The records of a capture that go on, and the report about the run.
use Rattle.std.specs.Prelude.{◌≡◌, ℕ, List, [], ◌∷◌, ◌++◌, drop, Option, Some, Result, Ok, Err, MatchResult}
use Rattle.captures.specs.Frames.{format_start}
use Rattle.captures.specs.Opening.{file_opening}
use Rattle.captures.specs.declared.fault.Fault.{Fault}
use Rattle.captures.specs.declared.format.Format.{Format}
use Rattle.captures.specs.declared.opening.Opening.{Opening}
use Rattle.captures.specs.declared.opening.Opening.TheVariants.{Opened, Undecided, Refused}
use Rattle.captures.specs.declared.reader.SkippedBlock.{SkippedBlock}
use Rattle.captures.specs.declared.reader.Record.{Record}
use Rattle.captures_text.specs.CaptureFaults.{file_fault_line}
use Rattle.captures_text.specs.CaptureText.{done_at, short_fault}
use Rattle.captures.specs.declared.link.Link.{Link}
use Rattle.captures.specs.declared.packet_time.TimeSource.TheVariants as source
use Rattle.captures_text.specs.CellFilter.{FilterState, filter_block, filter_record, filter_start}
use Rattle.captures_text.specs.RunLines.{several_line}
use Rattle.captures_text.specs.declared.filter.Filtered.{Filtered}
use Rattle.captures_text.specs.declared.filter.Filtered.TheVariants.{Counts, Skipped, SecondLink}
use Rattle.text_io.specs.declared.ending.Done.{Done}
use Rattle.text_io.specs.declared.ending.Done.TheVariants.{Ended}
use Rattle.cmd_forward.specs.FramesRead.{AreFrames, FrameRead}
use Rattle.cmd_forward.specs.JudgeRules.{JudgeRules}
use Rattle.cmd_forward.specs.RecordsWritten.{IsCellWritten, other_written}
use Rattle.cmd_forward.specs.declared.onward.Onward.{Onward}
use Rattle.cmd_forward.specs.declared.others.Others.{Others}

-- The state of a run: that of the filter, and the world that the rules are about.
pub record ForwardState (World : Type 0) : Type 0 where
  pub filter : FilterState
  pub world : World

-- From this world, what is written of a record with this number and these octets, where the filter says this of the
-- record and is in this state afterwards. `next` is the state of the run afterwards; or, at a cell of a second link,
-- the report with which the run ends.
abbrev pub WritesFiltered : {World : Type 0} → JudgeRules World → Others → World → ℕ → List ℕ → Filtered → FilterState
    → List ℕ → Result (ForwardState World) (List ℕ) → Type 0
WritesFiltered {World = World} rules others world number octets (Counts moment cell) filter here next =
    (onward : Onward) × (after : World) × rules.steps world (record { number = number; moment = moment; cell = cell }) onward after
    × IsCellWritten onward octets here × (next ≡ Ok (record { filter = filter; world = after }))
WritesFiltered rules others world number octets Skipped filter here next =
    (here ≡ other_written others octets) × (next ≡ Ok (record { filter = filter; world = world }))
WritesFiltered rules others world number octets (SecondLink one other) filter here next =
    (here ≡ []) × (next ≡ Err (several_line one other))

-- From this state, what is written of a frame of which this is given, with a record of these octets, and the next state, or the report with
-- which the run ends. Of a frame without a record nothing is written.
abbrev pub WritesFrame : {World : Type 0} → JudgeRules World → Others → ForwardState World → Result Record SkippedBlock → List ℕ
    → List ℕ → Result (ForwardState World) (List ℕ) → Type 0
WritesFrame rules others state (Err block) octets here next =
    (here ≡ []) × (next ≡ Ok (record { filter = filter_block state.filter block; world = state.world }))
WritesFrame rules others state (Ok record_read) octets here next =
    WritesFiltered rules others state.world record_read.number octets (filter_record state.filter record_read).0 (filter_record state.filter record_read).1 here next

-- From this state, this is written of these frames, in order, and then this is reported of the end of the reading, and
-- the run ends in this way.
abbrev pub Forwards : {World : Type 0} → JudgeRules World → Others → ForwardState World → List FrameRead → Option Fault → List ℕ → List ℕ → Done → Type 0
Forwards rules others state [] ending text report done =
    (text ≡ []) × (report ≡ rules.closes state.world state.filter.summary ending) × (done ≡ done_at ending)
Forwards {World = World} rules others state (read ∷ frames) ending text report done =
    (here : List ℕ) × (more : List ℕ) × (next : Result (ForwardState World) (List ℕ)) × (text ≡ here ++ more)
    × WritesFrame rules others state read.given read.octets here next
    × MatchResult next (λ after. Forwards rules others after frames ending more report done) (λ last. (more ≡ []) × (report ≡ last) × (done ≡ Ended))

-- The same of octets of a capture, after this many records, at this place.
abbrev pub ForwardsOctets : {World : Type 0} → JudgeRules World → Others → ForwardState World → Format → ℕ → ℕ → List ℕ → List ℕ → List ℕ → Done → Type 0
ForwardsOctets rules others state format count at octets text report done =
    (frames : List FrameRead) × (ending : Option Fault) × AreFrames format count at octets frames ending × Forwards rules others state frames ending text report done

-- The same of a file with these octets. The opening says what the file is.
abbrev pub ForwardsOpened : {World : Type 0} → JudgeRules World → Others → ForwardState World → List ℕ → Opening → List ℕ → List ℕ → Done → Type 0
ForwardsOpened rules others state octets (Opened format) text report done =
    ForwardsOctets rules others state format 0 (format_start format) (drop (format_start format) octets) text report done
ForwardsOpened rules others state octets Undecided text report done =
    (text ≡ []) × (report ≡ rules.closes state.world state.filter.summary (Some (short_fault octets))) × (done ≡ Ended)
ForwardsOpened rules others state octets (Refused fault) text report done = (text ≡ []) × (report ≡ file_fault_line fault) × (done ≡ Ended)

-- The same of a file.
abbrev pub ForwardsCapture : {World : Type 0} → JudgeRules World → Others → ForwardState World → List ℕ → List ℕ → List ℕ → Done → Type 0
ForwardsCapture rules others state octets text report done = ForwardsOpened rules others state octets (file_opening octets) text report done

-- The state at first, with a tick of this many nanoseconds and the link that was asked for. The times of records count:
-- what goes on has no others.
abbrev pub forward_start : {World : Type 0} → ℕ → Option Link → World → ForwardState World
forward_start tick link world = record { filter = filter_start tick link source.Record; world = world }
