-- Each step of a run that reads ahead keeps its progress from each world that was shown at first, and each end of it
-- gives a text or a prefix of one.
use Rattle.std.proofs.Common.{◌≡◌, ℕ, List, [], ◌++◌, length, take, drop, Option, None, refl, ap, sym, ◌∙◌, subst, append-nil}
use Rattle.std.proofs.lemmas.List.{take-append-drop}
use Rattle.captures.specs.Frames.{first_frame}
use Rattle.captures.specs.Reading.{EndsReading}
use Rattle.captures.specs.declared.fault.Fault.{Fault}
use Rattle.captures_text.specs.CaptureText.{done_at}
use Rattle.captures_text.specs.CellFilter.{Closes, filter_state}
use Rattle.captures_text.specs.CellFollowing.{ClosesCells, OfEachWorld}
use Rattle.captures_text.specs.CellRules.{AnswersEachCell, CellRules}
use Rattle.captures_text.specs.declared.captured_cell.CapturedCell.{CapturedCell}
use Rattle.captures_text.specs.declared.reading_summary.ReadingSummary.{ReadingSummary}
use Rattle.captures_text.specs.declared.reading_ahead.ReadingAhead.{ReadingAhead}
use Rattle.captures_text.specs.inner.Ahead.{Advances, AdvancesToEnd, CameToQueue, HasCellsFrom, IsQueuedText}
use Rattle.captures_text.specs.inner.Progress.{CaptureProgress, HasRead}
use Rattle.captures_text.proofs.CellTexts.{cells_some}
use Rattle.captures_text.proofs.CellsOfOctets.{last_cells}
use Rattle.captures_text.proofs.Progresses.{begun, enough, front_of, front_of_last, given, part_at, refilled, reprinted, stepped, text_of}
use Rattle.captures_text.proofs.ReadingLemmas.{some_from}
use Rattle.text_io.specs.Devices.{Adds, IsPart, WritesPrefix}
use Rattle.text_io.specs.Printing.{IsFront}
use Rattle.text_io.specs.declared.ending.Done.{Done}
use Rattle.text_io.specs.declared.ending.Done.TheVariants.{Ended}

-- The cells that wait and octets have a text, from each sound world.
pub queued_some : {World : Type 0} (rules : CellRules World) → AnswersEachCell rules → (reading : ReadingAhead) (cells : List CapturedCell) (world : World)
    (octets : List ℕ) → rules.is_sound world → (text : List ℕ) × (done : Done) × IsQueuedText rules reading cells world octets text done
queued_some rules total reading cells world octets sound =
    let later = some_from reading octets in
    let printed = cells_some rules total (cells ++ later.0) later.1 world sound in
    (printed.0, printed.1, (later.0, later.1, later.2, printed.2))

-- At first nothing was read or written, and no cell waits.
pub queue_begun : {World : Type 0} (rules : CellRules World) (shown : World → Type 0) (reading : ReadingAhead) (cells : List CapturedCell) (Known Held : Type 0)
    (rest before waiting : List ℕ) → cells ≡ [] → waiting ≡ []
    → CameToQueue rules shown shown reading reading cells Known Held rest rest before before waiting
queue_begun rules shown reading cells Known Held rest before waiting no_cells none = λ first sound is_shown.
    let Here = λ (cs : List CapturedCell). IsQueuedText rules reading cs first in
    record {
      present = first;
      sound = sound;
      is_shown = is_shown;
      goes =
          subst (λ (cs : List CapturedCell). CaptureProgress (Here []) (Here cs) Known Held reading.window rest reading.window rest before before waiting) (sym no_cells)
          (subst (λ (xs : List ℕ). CaptureProgress (Here []) (Here []) Known Held reading.window rest reading.window rest before before xs) (sym none)
          (begun (Here []) Known Held reading.window rest before));
    }

-- After a step.
pub queue_advanced : {World : Type 0} {rules : CellRules World} {shown0 shown : World → Type 0} {reading0 reading : ReadingAhead} {cells : List CapturedCell}
    {Known Held : Type 0} {rest0 rest before now waiting : List ℕ} (shown' : World → Type 0) (reading' : ReadingAhead) (cells' : List CapturedCell) (own new : List ℕ)
    → CameToQueue rules shown0 shown reading0 reading cells Known Held rest0 rest before now waiting
    → reading.window ≡ own ++ reading'.window
    → OfEachWorld rules shown (λ world. Advances rules reading cells world reading' cells' shown' waiting new)
    → CameToQueue rules shown0 shown' reading0 reading' cells' Known Held rest0 rest before now new
queue_advanced {rules = rules} {reading0 = reading0} {reading = reading} {cells = cells} {Known = Known} {Held = Held} {rest0 = rest0} {rest = rest} {before = before}
    {now = now} {waiting = waiting} shown' reading' cells' own new goes cut advances = λ first sound is_shown.
    let at = goes first sound is_shown in
    let on = advances at.present at.sound at.is_shown in
    record {
      present = on.next;
      sound = on.sound;
      is_shown = on.is_shown;
      goes = stepped (IsQueuedText rules reading0 [] first) (IsQueuedText rules reading cells at.present) (IsQueuedText rules reading' cells' on.next) Known Held
          reading0.window rest0 reading.window own reading'.window rest before now waiting new on.here at.goes cut on.grew on.completes;
    }

-- No cell waits.
pub queue_empty : {World : Type 0} {rules : CellRules World} {shown0 shown : World → Type 0} {reading0 reading : ReadingAhead} {cells : List CapturedCell}
    {Known Held : Type 0} {rest0 rest before now waiting : List ℕ}
    → CameToQueue rules shown0 shown reading0 reading cells Known Held rest0 rest before now waiting → cells ≡ []
    → CameToQueue rules shown0 shown reading0 reading [] Known Held rest0 rest before now waiting
queue_empty {rules = rules} {shown0 = shown0} {shown = shown} {reading0 = reading0} {reading = reading} {Known = Known} {Held = Held} {rest0 = rest0} {rest = rest}
    {before = before} {now = now} {waiting = waiting} goes none =
    subst (λ (cs : List CapturedCell). CameToQueue rules shown0 shown reading0 reading cs Known Held rest0 rest before now waiting) none goes

-- After some answers are written.
pub queue_given : {World : Type 0} {rules : CellRules World} {shown0 shown : World → Type 0} {reading0 reading : ReadingAhead} {cells : List CapturedCell}
    {Known Held : Type 0} {rest0 rest before now waiting : List ℕ} (now' waiting' : List ℕ)
    → CameToQueue rules shown0 shown reading0 reading cells Known Held rest0 rest before now waiting → (Held → WritesPrefix now now' waiting waiting')
    → CameToQueue rules shown0 shown reading0 reading cells Known Held rest0 rest before now' waiting'
queue_given {rules = rules} {reading0 = reading0} {reading = reading} {cells = cells} {Known = Known} {Held = Held} {rest0 = rest0} {rest = rest} {before = before}
    {now = now} {waiting = waiting} now' waiting' goes gives = λ first sound is_shown.
    let at = goes first sound is_shown in
    record {
      present = at.present;
      sound = at.sound;
      is_shown = at.is_shown;
      goes = given (IsQueuedText rules reading0 [] first) (IsQueuedText rules reading cells at.present) Known Held reading0.window rest0 reading.window rest before
          now now' waiting waiting' at.goes gives;
    }

-- After more octets are read and all answers are written.
pub queue_refilled : {World : Type 0} {rules : CellRules World} {shown0 shown : World → Type 0} {reading0 reading : ReadingAhead} {cells : List CapturedCell}
    {Known Held : Type 0} {rest0 rest before now waiting : List ℕ} (reading' : ReadingAhead) (rest' now' waiting' : List ℕ)
    → CameToQueue rules shown0 shown reading0 reading cells Known Held rest0 rest before now waiting
    → reading' ≡ record reading { window = reading'.window } → take (length reading.window) reading'.window ≡ reading.window
    → (Known → reading.window ++ rest ≡ reading'.window ++ rest') → (Held → WritesPrefix now now' waiting waiting')
    → CameToQueue rules shown0 shown reading0 reading' cells Known Held rest0 rest' before now' waiting'
queue_refilled {rules = rules} {reading0 = reading0} {reading = reading} {cells = cells} {Known = Known} {Held = Held} {rest0 = rest0} {rest = rest} {before = before}
    {now = now} {waiting = waiting} reading' rest' now' waiting' goes kept front same gives = λ first sound is_shown.
    let at = goes first sound is_shown in
    let near = reading.window in
    let near' = reading'.window in
    let Whole = IsQueuedText rules reading0 [] first in
    let Here = IsQueuedText rules reading cells at.present in
    let longer : near' ≡ near ++ drop (length near) near' =
    sym (take-append-drop (length near) near') ∙ ap (λ xs. xs ++ drop (length near) near') front
    in
    let written = given Whole Here Known Held reading0.window rest0 near rest before now now' waiting waiting' at.goes gives in
    record {
      present = at.present;
      sound = at.sound;
      is_shown = at.is_shown;
      goes = refilled Whole Here (IsQueuedText rules reading' cells at.present) Known Held reading0.window rest0 near near' (drop (length near) near') rest rest'
          before now' waiting' written longer same
          (λ octets text done queued.
          subst (λ (reading : ReadingAhead). IsQueuedText rules (record reading { window = near }) cells at.present octets text done) kept queued);
    }

-- What was written before and the last answers are a text of the whole.
pub queue_text : {World : Type 0} {rules : CellRules World} {shown0 shown : World → Type 0} {reading0 reading : ReadingAhead} {cells : List CapturedCell}
    {Known Held : Type 0} {rest0 rest before now waiting : List ℕ} (now' : List ℕ) (done : Done)
    → CameToQueue rules shown0 shown reading0 reading cells Known Held rest0 rest before now waiting → Known → Held
    → OfEachWorld rules shown (λ world. (here : List ℕ) × (now' ≡ now ++ (waiting ++ here)) × IsQueuedText rules reading cells world (reading.window ++ rest) here done)
    → OfEachWorld rules shown0 (λ first. Adds (λ text. IsQueuedText rules reading0 [] first (reading0.window ++ rest0) text done) before now')
queue_text {rules = rules} {reading0 = reading0} {reading = reading} {cells = cells} {Known = Known} {Held = Held} {rest0 = rest0} {rest = rest} {before = before}
    {now = now} {waiting = waiting} now' done goes known held last = λ first sound is_shown.
    let at = goes first sound is_shown in
    let end = last at.present at.sound at.is_shown in
    text_of (IsQueuedText rules reading0 [] first) (IsQueuedText rules reading cells at.present) Known Held reading0.window rest0 reading.window rest before now now'
    waiting end.0 done at.goes known held end.2 end.1

-- A prefix of the last answers gives a prefix of a text.
pub queue_front_of_last : {World : Type 0} {rules : CellRules World} {shown0 shown : World → Type 0} {reading0 reading : ReadingAhead} {cells : List CapturedCell}
    {Known Held : Type 0} {rest0 rest before now waiting : List ℕ} (now' : List ℕ)
    → CameToQueue rules shown0 shown reading0 reading cells Known Held rest0 rest before now waiting → Known → Held
    → OfEachWorld rules shown (λ world. (here : List ℕ) × (done : Done) × IsPart now now' (waiting ++ here)
    × IsQueuedText rules reading cells world (reading.window ++ rest) here done)
    → OfEachWorld rules shown0 (λ first. Adds (IsFront (IsQueuedText rules reading0 [] first (reading0.window ++ rest0))) before now')
queue_front_of_last {rules = rules} {reading0 = reading0} {reading = reading} {cells = cells} {Known = Known} {Held = Held} {rest0 = rest0} {rest = rest}
    {before = before} {now = now} {waiting = waiting} now' goes known held last = λ first sound is_shown.
    let at = goes first sound is_shown in
    let end = last at.present at.sound at.is_shown in
    front_of_last (IsQueuedText rules reading0 [] first) (IsQueuedText rules reading cells at.present) Known Held reading0.window rest0 reading.window rest before now now'
    waiting end.0 end.1 at.goes known held end.3 end.2

-- So does a prefix of the waiting answers.
pub queue_front : {World : Type 0} {rules : CellRules World} {shown0 shown : World → Type 0} {reading0 reading : ReadingAhead} {cells : List CapturedCell}
    {Known Held : Type 0} {rest0 rest before now waiting : List ℕ} (now' : List ℕ) → AnswersEachCell rules
    → CameToQueue rules shown0 shown reading0 reading cells Known Held rest0 rest before now waiting → Known → Held → IsPart now now' waiting
    → OfEachWorld rules shown0 (λ first. Adds (IsFront (IsQueuedText rules reading0 [] first (reading0.window ++ rest0))) before now')
queue_front {rules = rules} {reading0 = reading0} {reading = reading} {cells = cells} {Known = Known} {Held = Held} {rest0 = rest0} {rest = rest} {before = before}
    {now = now} {waiting = waiting} now' total goes known held part = λ first sound is_shown.
    let at = goes first sound is_shown in
    let some = queued_some rules total reading cells at.present (reading.window ++ rest) at.sound in
    front_of (IsQueuedText rules reading0 [] first) (IsQueuedText rules reading cells at.present) Known Held reading0.window rest0 reading.window rest before now now'
    waiting some.0 some.1 at.goes known held some.2 part

-- What was read has a text with this end.
pub queue_enough : {World : Type 0} {rules : CellRules World} {shown0 shown : World → Type 0} {reading0 reading : ReadingAhead} {cells : List CapturedCell}
    {Known Held : Type 0} {rest0 rest before now waiting : List ℕ} (done : Done)
    → CameToQueue rules shown0 shown reading0 reading cells Known Held rest0 rest before now waiting → Known
    → OfEachWorld rules shown (λ world. (here : List ℕ) × IsQueuedText rules reading cells world reading.window here done)
    → OfEachWorld rules shown0 (λ first. HasRead (IsQueuedText rules reading0 [] first) reading0.window rest0 rest done)
queue_enough {rules = rules} {reading0 = reading0} {reading = reading} {cells = cells} {Known = Known} {Held = Held} {rest0 = rest0} {rest = rest} {before = before}
    {now = now} {waiting = waiting} done goes known last = λ first sound is_shown.
    let at = goes first sound is_shown in
    let end = last at.present at.sound at.is_shown in
    let Here = IsQueuedText rules reading cells at.present in
    enough (IsQueuedText rules reading0 [] first) Here Known Held reading0.window rest0 reading.window rest before now waiting end.0 done at.goes known
    (reprinted Here reading.window (reading.window ++ []) end.0 end.0 done (sym (append-nil reading.window)) refl end.1)

-- A step that ends the run has the last answers.
pub text_at_end : {World : Type 0} {rules : CellRules World} {shown : World → Type 0} {reading : ReadingAhead} {cells : List CapturedCell} {old new : List ℕ}
    (rest now now' : List ℕ) → OfEachWorld rules shown (λ world. AdvancesToEnd rules reading cells world old new) → now' ≡ now ++ new
    → OfEachWorld rules shown (λ world. (here : List ℕ) × (now' ≡ now ++ (old ++ here)) × IsQueuedText rules reading cells world (reading.window ++ rest) here Ended)
text_at_end rest now now' last gives = λ world sound is_shown.
    let end = last world sound is_shown in
    (end.here, gives ∙ ap (λ xs. now ++ xs) end.grew, end.ends rest)

-- Or a prefix of them.
pub end_part : {World : Type 0} {rules : CellRules World} {shown : World → Type 0} {reading : ReadingAhead} {cells : List CapturedCell} {old new : List ℕ}
    (rest now now' : List ℕ) → OfEachWorld rules shown (λ world. AdvancesToEnd rules reading cells world old new) → IsPart now now' new
    → OfEachWorld rules shown (λ world. (here : List ℕ) × (done : Done) × IsPart now now' (old ++ here)
    × IsQueuedText rules reading cells world (reading.window ++ rest) here done)
end_part {old = old} {new = new} rest now now' last part = λ world sound is_shown.
    let end = last world sound is_shown in
    (end.here, Ended, part_at now now' new (old ++ end.here) end.grew part, end.ends rest)

-- And what was read has a text that ends there.
pub end_enough : {World : Type 0} {rules : CellRules World} {shown : World → Type 0} {reading : ReadingAhead} {cells : List CapturedCell} {old new : List ℕ}
    → OfEachWorld rules shown (λ world. AdvancesToEnd rules reading cells world old new)
    → OfEachWorld rules shown (λ world. (here : List ℕ) × IsQueuedText rules reading cells world reading.window here Ended)
end_enough {rules = rules} {reading = reading} {cells = cells} last = λ world sound is_shown.
    let end = last world sound is_shown in
    (end.here, reprinted (IsQueuedText rules reading cells world) (reading.window ++ []) reading.window end.here end.here Ended (append-nil reading.window) refl (end.ends []))

-- The octets at the end of the input, which are no whole frame, were answered.
pub queue_finished : {World : Type 0} (rules : CellRules World) (shown : World → Type 0) (reading : ReadingAhead) (octets : List ℕ) (summary : ReadingSummary)
    (ending : Option Fault) (done : Done) (old new : List ℕ) → ClosesCells rules shown summary ending old new
    → summary ≡ reading.filter.summary → octets ≡ reading.window → first_frame reading.reader.format reading.reader.at reading.window ≡ None
    → (first_frame reading.reader.format reading.reader.at octets ≡ None → EndsReading reading.reader.format reading.reader.at octets ending)
    → done ≡ done_at ending
    → OfEachWorld rules shown (λ world. (here : List ℕ) × (new ≡ old ++ here) × IsQueuedText rules reading [] world reading.window here done)
queue_finished rules shown reading octets summary ending done old new closes is same unfinished ends how = λ world sound is_shown.
    let at_end : EndsReading reading.reader.format reading.reader.at reading.window ending =
    subst (λ (xs : List ℕ). EndsReading reading.reader.format reading.reader.at xs ending) same
    (ends (ap (first_frame reading.reader.format reading.reader.at) same ∙ unfinished)) in
    let has : HasCellsFrom reading reading.window [] (Closes reading.filter.summary ending) =
    last_cells (filter_state reading.filter) reading.reader.format reading.reader.count reading.reader.at reading.window ending at_end in (
      rules.closes world summary ending,
      closes world sound is_shown,
      ([], Closes reading.filter.summary ending, has, (ap (λ (p : ReadingSummary). rules.closes world p ending) is, how)),
    )

-- No octets follow.
pub at_the_end : (near rest : List ℕ) → rest ≡ [] → near ≡ near ++ rest
at_the_end near rest none = sym (append-nil near) ∙ ap (λ xs. near ++ xs) (sym none)
