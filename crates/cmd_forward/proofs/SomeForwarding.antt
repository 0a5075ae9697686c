-- From each sound world any octets are forwarded somehow.
use Rattle.std.proofs.Common.{◌≡◌, ◌+◌, ℕ, List, [], ◌∷◌, ◌++◌, drop, Option, Some, Result, Ok, Err, refl, sym, subst}
use Rattle.std.specs.Result.{MatchResult}
use Rattle.captures.specs.Framing.{Framed}
use Rattle.captures.specs.Reading.{IsGiven, count_after}
use Rattle.captures.specs.RecordContent.{IsContent}
use Rattle.captures.specs.RecordOctets.{octets_held}
use Rattle.captures.specs.declared.block.SkippedKind.{SkippedKind}
use Rattle.captures.specs.declared.content.NoCell.{NoCell}
use Rattle.captures.specs.declared.fault.Fault.{Fault}
use Rattle.captures.specs.declared.format.Format.{Format}
use Rattle.captures.specs.declared.opening.Opening.{Opening}
use Rattle.captures.specs.declared.opening.Opening.TheVariants.{Opened, Undecided, Refused}
use Rattle.captures.specs.declared.reader.SkippedBlock.{SkippedBlock}
use Rattle.captures.specs.declared.reader.Record.{Record}
use Rattle.captures.specs.Frames.{format_start}
use Rattle.captures.specs.Opening.{file_opening}
use Rattle.captures_text.specs.CaptureFaults.{file_fault_line}
use Rattle.captures_text.specs.CaptureText.{done_at, short_fault}
use Rattle.captures_text.specs.CellFilter.{FilterState, filter_content, filter_marked, filter_block, filter_record}
use Rattle.captures_text.specs.RunLines.{several_line}
use Rattle.captures_text.specs.declared.filter.Filtered.{Filtered}
use Rattle.captures_text.specs.declared.filter.Filtered.TheVariants.{Counts, Skipped, SecondLink}
use Rattle.text_io.specs.declared.ending.Done.{Done}
use Rattle.text_io.specs.declared.ending.Done.TheVariants.{Ended}
use Rattle.cmd_forward.specs.Forwarding.{ForwardState, Forwards, ForwardsCapture, ForwardsOctets, ForwardsOpened, WritesFiltered, WritesFrame}
use Rattle.cmd_forward.specs.FramesRead.{AreFrames, FrameRead}
use Rattle.cmd_forward.specs.JudgeRules.{JudgeRules, JudgesEachCell}
use Rattle.cmd_forward.specs.RecordsWritten.{IsCellWritten, other_written, whole_record}
use Rattle.cmd_forward.specs.declared.onward.Onward.{Onward}
use Rattle.cmd_forward.specs.declared.onward.Onward.TheVariants.{Stays, Unchanged, Tagged}
use Rattle.cmd_forward.specs.declared.others.Others.{Others}
use Rattle.cmd_forward.proofs.Frames.{content_held, some_frames}

-- Only a record with a cell counts.
content_counts : (state : FilterState) (record_read : Record) (content : Result (List ℕ) NoCell) (moment : ℕ) (cell : List ℕ)
    → (filter_content state record_read content).0 ≡ Counts moment cell → (it : List ℕ) × (content ≡ Ok it)
content_counts state record_read (Ok it) moment cell counts = (it, refl)
content_counts state record_read (Err why) moment cell counts = cc

-- So it has a cell.
pub cell_counted : (state : FilterState) (record_read : Record) (octets : List ℕ) (moment : ℕ) (cell : List ℕ) → IsContent octets record_read.content
    → (filter_record state record_read).0 ≡ Counts moment cell → (it : List ℕ) × IsContent octets (Ok it)
cell_counted state record_read octets moment cell content counts =
    let has = content_counts (filter_marked state record_read) record_read record_read.content moment cell counts in
    (has.0, subst (λ (c : Result (List ℕ) NoCell). IsContent octets c) has.1 content)

-- However a cell goes on, its record is written somehow.
written_some : (onward : Onward) (octets cell : List ℕ) → IsContent octets (Ok cell) → (here : List ℕ) × IsCellWritten onward octets here
written_some Stays octets cell has = ([], refl)
written_some Unchanged octets cell has = (whole_record octets, refl)
written_some Tagged octets cell (good, (extensions, headers, held)) = (_, (extensions, headers, refl))

-- The next state of a run, if it goes on, is sound.
abbrev pub IsSoundNext : {World : Type 0} → JudgeRules World → Result (ForwardState World) (List ℕ) → Type 0
IsSoundNext rules next = MatchResult next (λ after. rules.is_sound after.world) (λ last. Unit {0})

-- A record that is this to the filter is written somehow.
filtered_some : {World : Type 0} (rules : JudgeRules World) → JudgesEachCell rules → (others : Others) (world : World) (number : ℕ) (octets : List ℕ)
    (found : Filtered) (filter : FilterState) → rules.is_sound world
    → ((moment : ℕ) (cell : List ℕ) → found ≡ Counts moment cell → (it : List ℕ) × IsContent octets (Ok it))
    → (here : List ℕ) × (next : Result (ForwardState World) (List ℕ)) × WritesFiltered rules others world number octets found filter here next × IsSoundNext rules next
filtered_some {World = World} rules total others world number octets (Counts moment cell) filter sound has =
    let it = has moment cell refl in
    let judged = total.step world (record { number = number; moment = moment; cell = cell }) sound in
    let written = written_some judged.0 octets it.0 it.1 in
    let after : ForwardState World = record { filter = filter; world = judged.1 } in
    (written.0, Ok after, (judged.0, judged.1, judged.2, written.1, refl), total.keeps world (record { number = number; moment = moment; cell = cell }) judged.0 judged.1 sound judged.2)
filtered_some rules total others world number octets Skipped filter sound has =
    (other_written others octets, Ok (record { filter = filter; world = world }), (refl, refl), sound)
filtered_some rules total others world number octets (SecondLink one other) filter sound has =
    ([], Err (several_line one other), (refl, refl), tt)

-- So is a frame.
frame_some : {World : Type 0} (rules : JudgeRules World) → JudgesEachCell rules → (others : Others) (state : ForwardState World) (count at : ℕ)
    (held : Result Framed SkippedKind) (given : Result Record SkippedBlock) (octets : List ℕ) → rules.is_sound state.world → IsGiven count at held given → octets ≡ octets_held held
    → (here : List ℕ) × (next : Result (ForwardState World) (List ℕ)) × WritesFrame rules others state given octets here next × IsSoundNext rules next
frame_some rules total others state count at held (Err block) octets sound is same =
    ([], Ok (record { filter = filter_block state.filter block; world = state.world }), (refl, refl), sound)
frame_some rules total others state count at held (Ok record_read) octets sound is same =
    filtered_some rules total others state.world record_read.number octets (filter_record state.filter record_read).0 (filter_record state.filter record_read).1 sound
    (λ moment cell counts. cell_counted state.filter record_read octets moment cell
    (subst (λ (xs : List ℕ). IsContent xs record_read.content) (sym same) (content_held count at held record_read is)) counts)

-- Any frames are forwarded somehow.
frames_some : {World : Type 0} (rules : JudgeRules World) → JudgesEachCell rules → (others : Others) (state : ForwardState World) (format : Format) (count at : ℕ)
    (octets : List ℕ) (frames : List FrameRead) (ending : Option Fault) → rules.is_sound state.world → AreFrames format count at octets frames ending
    → (text : List ℕ) × (report : List ℕ) × (done : Done) × Forwards rules others state frames ending text report done
frames_some rules total others state format count at octets [] ending sound are =
    ([], rules.closes state.world state.filter.summary ending, done_at ending, (refl, refl, refl))
frames_some {World = World} rules total others state format count at octets (read ∷ frames) ending sound (frame, first, is, same, are) =
    let now = frame_some rules total others state count at frame.held read.given read.octets sound is same in
    let then = later (λ (after : ForwardState World) good. frames_some rules total others after frame.after (count_after count read.given) (at + frame.size)
    (drop frame.size octets) frames ending good are) now.1 now.3 in
    (now.0 ++ then.0, then.1, then.2, (now.0, then.0, now.1, refl, now.2, then.3))
  where
    Later : Type 0
    Later = (after : ForwardState World) → rules.is_sound after.world → (more : List ℕ) × (report : List ℕ) × (done : Done) × Forwards rules others after frames ending more report done

    later : Later → (next : Result (ForwardState World) (List ℕ)) → IsSoundNext rules next
        → (more : List ℕ) × (report : List ℕ) × (done : Done)
        × MatchResult next (λ after. Forwards rules others after frames ending more report done) (λ last. (more ≡ []) × (report ≡ last) × (done ≡ Ended))
    later goes (Ok after) good = goes after good
    later goes (Err last) good = ([], last, Ended, (refl, refl, refl))

-- Any octets are forwarded somehow.
pub octets_some : {World : Type 0} (rules : JudgeRules World) → JudgesEachCell rules → (others : Others) (state : ForwardState World) (format : Format) (count at : ℕ)
    (octets : List ℕ) → rules.is_sound state.world → (text : List ℕ) × (report : List ℕ) × (done : Done) × ForwardsOctets rules others state format count at octets text report done
octets_some rules total others state format count at octets sound =
    let read = some_frames format count at octets in
    let some = frames_some rules total others state format count at octets read.0 read.1 sound read.2 in
    (some.0, some.1, some.2, (read.0, read.1, read.2, some.3))

-- So is a file.
opened_some : {World : Type 0} (rules : JudgeRules World) → JudgesEachCell rules → (others : Others) (state : ForwardState World) (octets : List ℕ) (opening : Opening)
    → rules.is_sound state.world → (text : List ℕ) × (report : List ℕ) × (done : Done) × ForwardsOpened rules others state octets opening text report done
opened_some rules total others state octets (Opened format) sound =
    octets_some rules total others state format 0 (format_start format) (drop (format_start format) octets) sound
opened_some rules total others state octets Undecided sound =
    ([], rules.closes state.world state.filter.summary (Some (short_fault octets)), Ended, (refl, refl, refl))
opened_some rules total others state octets (Refused fault) sound = ([], file_fault_line fault, Ended, (refl, refl, refl))

pub capture_some : {World : Type 0} (rules : JudgeRules World) → JudgesEachCell rules → (others : Others) (state : ForwardState World) (octets : List ℕ)
    → rules.is_sound state.world → (text : List ℕ) × (report : List ℕ) × (done : Done) × ForwardsCapture rules others state octets text report done
capture_some rules total others state octets sound = opened_some rules total others state octets (file_opening octets) sound
