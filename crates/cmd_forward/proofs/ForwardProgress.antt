-- Each step of a run keeps its progress from each world that was shown at first, and each end of it gives a text or a prefix of one.
use Rattle.std.proofs.Common.{◌≡◌, ℕ, List, [], ◌++◌, length, take, drop, Option, None, Result, Ok, Err, IfOk, refl, ap, sym, ◌∙◌, subst, append-nil}
use Rattle.std.proofs.lemmas.List.{take-append-drop}
use Rattle.std.specs.Result.{OnOk}
use Rattle.captures.specs.Frames.{first_frame}
use Rattle.captures.specs.Reading.{EndsReading}
use Rattle.captures.specs.declared.fault.Fault.{Fault}
use Rattle.captures_text.specs.CaptureText.{done_at}
use Rattle.captures_text.specs.CellFilter.{filter_state}
use Rattle.captures_text.specs.declared.reading_summary.ReadingSummary.{ReadingSummary}
use Rattle.captures_text.specs.inner.Progress.{CaptureProgress, HasRead}
use Rattle.captures_text.proofs.Progresses.{begun, enough, front_of, given, refilled, stepped, text_of}
use Rattle.text_io.specs.Devices.{Adds, IsPart, WritesPrefix}
use Rattle.text_io.specs.Printing.{IsFront}
use Rattle.text_io.specs.declared.ending.Done.{Done}
use Rattle.text_io.specs.declared.ending.Done.TheVariants.{Ended}
use Rattle.text_io.specs.declared.ending.RunFault.{RunFault}
use Rattle.cmd_forward.specs.JudgeRules.{ClosesReport, JudgeRules, JudgesEachCell, OfEachJudgeWorld}
use Rattle.cmd_forward.specs.declared.others.Others.{Others}
use Rattle.cmd_forward.specs.declared.stepping.ForwardReading.{ForwardReading}
use Rattle.cmd_forward.specs.inner.ForwardSteps.{ForwardsOn, ForwardsToEnd, ForwardedTo, ForwardsHere, ForwardsSomehow, at_state}
use Rattle.cmd_forward.proofs.SomeForwarding.{octets_some}

-- No octets follow.
at_the_end : (near rest : List ℕ) → rest ≡ [] → near ≡ near ++ rest
at_the_end near rest none = sym (append-nil near) ∙ ap (λ xs. near ++ xs) (sym none)

-- From where a reading is, octets are forwarded somehow.
pub here_some : {World : Type 0} (rules : JudgeRules World) → JudgesEachCell rules → (others : Others) (reading : ForwardReading) (world : World)
    (octets : List ℕ) → rules.is_sound world → (text : List ℕ) × (report : List ℕ) × (done : Done) × ForwardsHere rules others reading world report octets text done
here_some rules total others reading world octets sound =
    octets_some rules total others (at_state (filter_state reading.filter) world) reading.reader.format reading.reader.count reading.reader.at octets sound

-- At first nothing was read or written.
pub run_begun : {World : Type 0} (rules : JudgeRules World) (others : Others) (shown : World → Type 0) (reading : ForwardReading) (Known Held : Type 0)
    (rest before waiting : List ℕ) → waiting ≡ []
    → ForwardedTo rules others shown shown reading reading Known Held rest rest before before waiting
run_begun rules others shown reading Known Held rest before waiting none = λ first sound is_shown. record {
  present = first;
  sound = sound;
  is_shown = is_shown;
  goes = λ report.
      let Here = ForwardsHere rules others reading first report in
      subst (λ (xs : List ℕ). CaptureProgress Here Here Known Held reading.window rest reading.window rest before before xs) (sym none)
      (begun Here Known Held reading.window rest before);
}

-- After a step.
pub run_advanced : {World : Type 0} {rules : JudgeRules World} {others : Others} {shown0 shown : World → Type 0} {reading0 reading : ForwardReading}
    {Known Held : Type 0} {rest0 rest before now waiting : List ℕ} (shown' : World → Type 0) (reading' : ForwardReading) (own new : List ℕ)
    → ForwardedTo rules others shown0 shown reading0 reading Known Held rest0 rest before now waiting
    → reading.window ≡ own ++ reading'.window
    → OfEachJudgeWorld rules shown (λ world. ForwardsOn rules others reading world reading' shown' waiting new)
    → ForwardedTo rules others shown0 shown' reading0 reading' Known Held rest0 rest before now new
run_advanced {rules = rules} {others = others} {reading0 = reading0} {reading = reading} {Known = Known} {Held = Held} {rest0 = rest0} {rest = rest} {before = before}
    {now = now} {waiting = waiting} shown' reading' own new goes cut advances = λ first sound is_shown.
    let at = goes first sound is_shown in
    let on = advances at.present at.sound at.is_shown in
    record {
      present = on.next;
      sound = on.sound;
      is_shown = on.is_shown;
      goes = λ report. stepped (ForwardsHere rules others reading0 first report) (ForwardsHere rules others reading at.present report)
          (ForwardsHere rules others reading' on.next report) Known Held reading0.window rest0 reading.window own reading'.window rest before now waiting new on.here
          (at.goes report) cut on.grew (on.completes report);
    }

-- After some octets are written.
pub run_given : {World : Type 0} {rules : JudgeRules World} {others : Others} {shown0 shown : World → Type 0} {reading0 reading : ForwardReading}
    {Known Held : Type 0} {rest0 rest before now waiting : List ℕ} (now' waiting' : List ℕ)
    → ForwardedTo rules others shown0 shown reading0 reading Known Held rest0 rest before now waiting → (Held → WritesPrefix now now' waiting waiting')
    → ForwardedTo rules others shown0 shown reading0 reading Known Held rest0 rest before now' waiting'
run_given {rules = rules} {others = others} {reading0 = reading0} {reading = reading} {Known = Known} {Held = Held} {rest0 = rest0} {rest = rest} {before = before}
    {now = now} {waiting = waiting} now' waiting' goes gives = λ first sound is_shown.
    let at = goes first sound is_shown in
    record {
      present = at.present;
      sound = at.sound;
      is_shown = at.is_shown;
      goes = λ report. given (ForwardsHere rules others reading0 first report) (ForwardsHere rules others reading at.present report) Known Held
          reading0.window rest0 reading.window rest before now now' waiting waiting' (at.goes report) gives;
    }

-- After more octets are read and all that waited is written.
pub run_refilled : {World : Type 0} {rules : JudgeRules World} {others : Others} {shown0 shown : World → Type 0} {reading0 reading : ForwardReading}
    {Known Held : Type 0} {rest0 rest before now waiting : List ℕ} (reading' : ForwardReading) (rest' now' waiting' : List ℕ)
    → ForwardedTo rules others shown0 shown reading0 reading Known Held rest0 rest before now waiting
    → reading' ≡ record reading { window = reading'.window } → take (length reading.window) reading'.window ≡ reading.window
    → (Known → reading.window ++ rest ≡ reading'.window ++ rest') → (Held → WritesPrefix now now' waiting waiting')
    → ForwardedTo rules others shown0 shown reading0 reading' Known Held rest0 rest' before now' waiting'
run_refilled {rules = rules} {others = others} {reading0 = reading0} {reading = reading} {Known = Known} {Held = Held} {rest0 = rest0} {rest = rest} {before = before}
    {now = now} {waiting = waiting} reading' rest' now' waiting' goes kept front same gives = λ first sound is_shown.
    let at = goes first sound is_shown in
    let near = reading.window in
    let near' = reading'.window in
    let longer : near' ≡ near ++ drop (length near) near' =
    sym (take-append-drop (length near) near') ∙ ap (λ xs. xs ++ drop (length near) near') front
    in
    record {
      present = at.present;
      sound = at.sound;
      is_shown = at.is_shown;
      goes = λ report.
          let Whole = ForwardsHere rules others reading0 first report in
          let Here = ForwardsHere rules others reading at.present report in
          refilled Whole Here (ForwardsHere rules others reading' at.present report) Known Held reading0.window rest0 near near' (drop (length near) near') rest rest'
          before now' waiting'
          (given Whole Here Known Held reading0.window rest0 near rest before now now' waiting waiting' (at.goes report) gives) longer same
          (λ octets text done forwards.
          subst (λ (reading : ForwardReading). ForwardsHere rules others (record reading { window = near }) at.present report octets text done) kept forwards);
    }

-- Where nothing more is written, what was written and what waited are the text of the whole. So far nothing was reported.
pub run_text : {World : Type 0} {rules : JudgeRules World} {others : Others} {shown0 shown : World → Type 0} {reading0 reading : ForwardReading}
    {Known Held : Type 0} {rest0 rest before now waiting : List ℕ} (now' said0 said said' : List ℕ) (done : Done) → said ≡ said0
    → ForwardedTo rules others shown0 shown reading0 reading Known Held rest0 rest before now waiting → Known → Held → now' ≡ now ++ waiting
    → OfEachJudgeWorld rules shown (λ world. (last : List ℕ) × (said' ≡ said ++ last) × ForwardsHere rules others reading world last (reading.window ++ rest) [] done)
    → OfEachJudgeWorld rules shown0 (λ first. (last : List ℕ) × (said' ≡ said0 ++ last)
    × Adds (λ text. ForwardsHere rules others reading0 first last (reading0.window ++ rest0) text done) before now')
run_text {rules = rules} {others = others} {reading0 = reading0} {reading = reading} {Known = Known} {Held = Held} {rest0 = rest0} {rest = rest} {before = before}
    {now = now} {waiting = waiting} now' said0 said said' done silent goes known held gives ends = λ first sound is_shown.
    let at = goes first sound is_shown in
    let end = ends at.present at.sound at.is_shown in (
      end.0,
      end.1 ∙ ap (λ xs. xs ++ end.0) silent,
      text_of (ForwardsHere rules others reading0 first end.0) (ForwardsHere rules others reading at.present end.0) Known Held reading0.window rest0 reading.window rest
          before now now' waiting [] done (at.goes end.0) known held end.2 (gives ∙ ap (λ xs. now ++ xs) (sym (append-nil waiting))),
    )

-- At the end of the input.
pub last_text : {World : Type 0} (result : Result Done RunFault) (rules : JudgeRules World) (others : Others) (shown0 shown : World → Type 0)
    (reading0 reading : ForwardReading) (Known Held : Type 0) (rest0 rest before now now' waiting said0 said said' : List ℕ) → said ≡ said0
    → ForwardedTo rules others shown0 shown reading0 reading Known Held rest0 rest before now waiting → Known → Held → rest ≡ [] → OnOk result (now' ≡ now ++ waiting)
    → IfOk result (λ done. OfEachJudgeWorld rules shown (λ world. (last : List ℕ) × (said' ≡ said ++ last)
    × ForwardsHere rules others reading world last reading.window [] done))
    → IfOk result (λ done. OfEachJudgeWorld rules shown0 (λ first. (last : List ℕ) × (said' ≡ said0 ++ last)
    × Adds (λ text. ForwardsHere rules others reading0 first last (reading0.window ++ rest0) text done) before now'))
last_text (Ok done) rules others shown0 shown reading0 reading Known Held rest0 rest before now now' waiting said0 said said' silent goes known held none gives ends =
    run_text now' said0 said said' done silent goes known held gives
    (λ world sound is_shown.
    let end = ends world sound is_shown in
    (end.0, end.1, subst (λ (xs : List ℕ). ForwardsHere rules others reading world end.0 xs [] done) (at_the_end reading.window rest none) end.2))
last_text (Err fault) rules others shown0 shown reading0 reading Known Held rest0 rest before now now' waiting said0 said said' silent goes known held none gives ends = tt

-- A prefix of what waited gives a prefix of a text.
pub run_front : {World : Type 0} {rules : JudgeRules World} {others : Others} {shown0 shown : World → Type 0} {reading0 reading : ForwardReading}
    {Known Held : Type 0} {rest0 rest before now waiting : List ℕ} (now' : List ℕ) → JudgesEachCell rules
    → ForwardedTo rules others shown0 shown reading0 reading Known Held rest0 rest before now waiting → Known → Held → IsPart now now' waiting
    → OfEachJudgeWorld rules shown0 (λ first. Adds (IsFront (ForwardsSomehow rules others reading0 first (reading0.window ++ rest0))) before now')
run_front {rules = rules} {others = others} {reading0 = reading0} {reading = reading} {Known = Known} {Held = Held} {rest0 = rest0} {rest = rest} {before = before}
    {now = now} {waiting = waiting} now' total goes known held part = λ first sound is_shown.
    let at = goes first sound is_shown in
    let some = here_some rules total others reading at.present (reading.window ++ rest) at.sound in
    let front = front_of (ForwardsHere rules others reading0 first some.1) (ForwardsHere rules others reading at.present some.1) Known Held reading0.window rest0
    reading.window rest before now now' waiting some.0 some.2 (at.goes some.1) known held some.3 part in
    (front.0, front.1, (front.2.0, front.2.1, (some.1, front.2.2)))

-- What was read has a text with this end.
pub run_enough : {World : Type 0} {rules : JudgeRules World} {others : Others} {shown0 shown : World → Type 0} {reading0 reading : ForwardReading}
    {Known Held : Type 0} {rest0 rest before now waiting : List ℕ} (done : Done)
    → ForwardedTo rules others shown0 shown reading0 reading Known Held rest0 rest before now waiting → Known
    → OfEachJudgeWorld rules shown (λ world. (last : List ℕ) × ForwardsHere rules others reading world last (reading.window ++ []) [] done)
    → OfEachJudgeWorld rules shown0 (λ first. HasRead (ForwardsSomehow rules others reading0 first) reading0.window rest0 rest done)
run_enough {rules = rules} {others = others} {reading0 = reading0} {reading = reading} {Known = Known} {Held = Held} {rest0 = rest0} {rest = rest} {before = before}
    {now = now} {waiting = waiting} done goes known ends = λ first sound is_shown.
    let at = goes first sound is_shown in
    let end = ends at.present at.sound at.is_shown in
    let read = enough (ForwardsHere rules others reading0 first end.0) (ForwardsHere rules others reading at.present end.0) Known Held reading0.window rest0 reading.window
    rest before now waiting [] done (at.goes end.0) known end.1 in
    (read.0, read.1, (read.2.0, (end.0, read.2.1)))

-- A step that ends the run.
pub said_at_end : {World : Type 0} {rules : JudgeRules World} {others : Others} {shown : World → Type 0} {reading : ForwardReading} {said said' : List ℕ} (rest : List ℕ)
    → OfEachJudgeWorld rules shown (λ world. ForwardsToEnd rules others reading world said said')
    → OfEachJudgeWorld rules shown (λ world. (last : List ℕ) × (said' ≡ said ++ last) × ForwardsHere rules others reading world last (reading.window ++ rest) [] Ended)
said_at_end rest ends = λ world sound is_shown. let end = ends world sound is_shown in (end.last, end.grew, end.ends rest)

pub enough_at_end : {World : Type 0} {rules : JudgeRules World} {others : Others} {shown : World → Type 0} {reading : ForwardReading} {said said' : List ℕ}
    → OfEachJudgeWorld rules shown (λ world. ForwardsToEnd rules others reading world said said')
    → OfEachJudgeWorld rules shown (λ world. (last : List ℕ) × ForwardsHere rules others reading world last (reading.window ++ []) [] Ended)
enough_at_end ends = λ world sound is_shown. let end = ends world sound is_shown in (end.last, end.ends [])

-- The end of the input.
pub said_at_last : {World : Type 0} (rules : JudgeRules World) (others : Others) (shown : World → Type 0) (reading : ForwardReading) (octets : List ℕ)
    (summary : ReadingSummary) (ending : Option Fault) (done : Done) (said said' : List ℕ) → ClosesReport rules shown summary ending said said'
    → summary ≡ (filter_state reading.filter).summary → octets ≡ reading.window → first_frame reading.reader.format reading.reader.at reading.window ≡ None
    → (first_frame reading.reader.format reading.reader.at octets ≡ None → EndsReading reading.reader.format reading.reader.at octets ending)
    → done ≡ done_at ending
    → OfEachJudgeWorld rules shown (λ world. (last : List ℕ) × (said' ≡ said ++ last) × ForwardsHere rules others reading world last reading.window [] done)
said_at_last rules others shown reading octets summary ending done said said' closes is same unfinished ends how = λ world sound is_shown.
    let at_end : EndsReading reading.reader.format reading.reader.at reading.window ending =
    subst (λ (xs : List ℕ). EndsReading reading.reader.format reading.reader.at xs ending) same
    (ends (ap (first_frame reading.reader.format reading.reader.at) same ∙ unfinished)) in (
      rules.closes world summary ending,
      closes world sound is_shown,
      ([], ending, at_end, (refl, ap (λ (p : ReadingSummary). rules.closes world p ending) is, how)),
    )
