-- The text of a whole capture, from what its first octets say.
use Rattle.std.proofs.Common.{◌≡◌, ◌≢◌, ◌≤◌, ℕ, List, [], ◌++◌, Option, Some, Result, Ok, Err, OnErr, length, drop, refl, ◌∙◌, sym, ap, ap₂, subst, arith, append_assoc, append-nil}
use Rattle.std.proofs.lemmas.List.{drop-append-le}
use Rattle.captures.proofs.Public.{file_decided, file_opened, header_within}
use Rattle.captures.specs.Frames.{format_start, format_timed}
use Rattle.captures.specs.Opening.{file_opening, opening_of}
use Rattle.captures.specs.declared.fault.Fault.{Fault}
use Rattle.captures.specs.declared.format.Format.{Format}
use Rattle.captures.specs.declared.opening.FileFault.{FileFault}
use Rattle.captures.specs.declared.opening.Opening.{Opening}
use Rattle.captures.specs.declared.opening.Opening.TheVariants.{Opened, Undecided, Refused}
use Rattle.captures_text.specs.CaptureFaults.{file_fault_line}
use Rattle.captures_text.specs.CaptureText.{IsCaptureText, IsOpenedText, IsRecordsText, short_fault}
use Rattle.captures_text.specs.CellFilter.{FilterState, filter_state}
use Rattle.captures_text.specs.CellRules.{AnswersEachCell, CellRules, fixed_rules}
use Rattle.captures_text.specs.declared.captured_cell.CapturedCell.{CapturedCell}
use Rattle.captures_text.specs.declared.reading_summary.ReadingSummary.{ReadingSummary}
use Rattle.captures_text.specs.declared.reading_ahead.ReadingAhead.{ReadingAhead}
use Rattle.captures_text.specs.inner.Ahead.{IsQueuedText}
use Rattle.captures_text.specs.inner.FixedRules.{fixed_text}
use Rattle.captures_text.specs.inner.Progress.{HasRead, Texts}
use Rattle.captures_text.proofs.CellTexts.{cells_some}
use Rattle.captures_text.proofs.CellsOfOctets.{one_cells, some_cells}
use Rattle.captures_text.proofs.FixedTexts.{fixed_is}
use Rattle.text_io.specs.Devices.{Adds, IsPart, TakesEnough}
use Rattle.text_io.specs.Failures.{read_failures}
use Rattle.text_io.specs.Limits.{most_ahead}
use Rattle.text_io.specs.Printing.{IsFront}
use Rattle.text_io.specs.Serving.{IsServed}
use Rattle.text_io.specs.declared.device.Input.{Ghosts as InputView}
use Rattle.text_io.specs.declared.device.Output.{Ghosts as OutputView}
use Rattle.text_io.specs.declared.ending.Done.{Done}
use Rattle.text_io.specs.declared.ending.Done.TheVariants.{Ended}
use Rattle.text_io.specs.declared.ending.RunFault.{RunFault}
use Rattle.text_io.specs.declared.ending.RunFault.TheVariants.{ReadFailed, WriteFailed, NoMemory}

-- A file that is this has the text of it.
by_opening : {World : Type 0} (rules : CellRules World) (filter : FilterState) (world : World) (octets text : List ℕ) (opening : Opening) (done : Done)
    → file_opening octets ≡ opening → IsOpenedText rules filter world octets opening text done → IsCaptureText rules filter world octets text done
by_opening rules filter world octets text opening done is printed =
    subst (λ (o : Opening). IsOpenedText rules filter world octets o text done) (sym is) printed

-- Any file has a text, from each sound world.
opened_some : {World : Type 0} (rules : CellRules World) → AnswersEachCell rules
    → (filter : FilterState) (world : World) (octets : List ℕ) (opening : Opening) → rules.is_sound world
    → (text : List ℕ) × (done : Done) × IsOpenedText rules filter world octets opening text done
opened_some rules total filter world octets (Opened format) sound =
    let has = some_cells filter (format_timed filter.timing format) 0 (format_start format) (drop (format_start format) octets) in
    let printed = cells_some rules total has.0 has.1 world sound in
    (printed.0, printed.1, (has.0, has.1, has.2, printed.2))
opened_some rules total filter world octets Undecided sound =
    (rules.closes world filter.summary (Some (short_fault octets)), Ended, (refl, refl))
opened_some rules total filter world octets (Refused fault) sound = (file_fault_line fault, Ended, (refl, refl))

pub some_capture_text : {World : Type 0} (rules : CellRules World) → AnswersEachCell rules
    → (filter : FilterState) (world : World) (octets : List ℕ) → rules.is_sound world
    → (text : List ℕ) × (done : Done) × IsCaptureText rules filter world octets text done
some_capture_text rules total filter world octets sound = opened_some rules total filter world octets (file_opening octets) sound

-- Where nothing was written, the output grew by a front of a text.
pub no_front : {World : Type 0} (rules : CellRules World) → AnswersEachCell rules
    → (filter : FilterState) (world : World) (octets held : List ℕ) → rules.is_sound world
    → Adds (IsFront (IsCaptureText rules filter world octets)) held held
no_front rules total filter world octets held sound = ([], sym (append-nil held), some_capture_text rules total filter world octets sound)

-- A front of a text.
pub a_front : (IsText : List ℕ → Done → Type 0) (before after text : List ℕ) (done : Done) → IsText text done → IsPart before after text
    → Adds (IsFront IsText) before after
a_front IsText before after text done is part =
    (part.0, part.3, (part.1, done, subst (λ (xs : List ℕ). IsText xs done) part.2 is))

-- A file that isn't read.
pub refused_text : {World : Type 0} (rules : CellRules World) (filter : FilterState) (world : World) (octets more : List ℕ) (fault : FileFault)
    → file_opening octets ≡ Refused fault → (opening_of octets ≡ Undecided → more ≡ [])
    → IsCaptureText rules filter world (octets ++ more) (file_fault_line fault) Ended
refused_text rules filter world octets more fault is none =
    by_opening rules filter world (octets ++ more) (file_fault_line fault) (Refused fault) Ended (file_decided octets more (Refused fault) is none) (refl, refl)

-- A file that is too short.
pub short_text : {World : Type 0} (rules : CellRules World) (filter : FilterState) (world : World) (octets : List ℕ) → file_opening octets ≡ Undecided
    → IsCaptureText rules filter world octets (rules.closes world filter.summary (Some (short_fault octets))) Ended
short_text rules filter world octets is =
    by_opening rules filter world octets (rules.closes world filter.summary (Some (short_fault octets))) Undecided Ended is (refl, refl)

-- A capture: the text of its cells that count.
pub opened_text : {World : Type 0} (rules : CellRules World) (world : World) (reading : ReadingAhead) (format : Format) (window : List ℕ)
    → file_opening window ≡ Opened format → reading.reader.format ≡ format_timed (filter_state reading.filter).timing format → reading.reader.count ≡ 0 → reading.reader.at ≡ format_start format
    → reading.window ≡ drop (format_start format) window → (more text : List ℕ) (done : Done)
    → IsQueuedText rules reading [] world (reading.window ++ more) text done → IsCaptureText rules (filter_state reading.filter) world (window ++ more) text done
opened_text rules world reading format window is formats counts places dropped more text done printed =
    let filter = filter_state reading.filter in
    let opened : opening_of window ≡ Opened format = file_opened window format is in
    let decided : opening_of window ≡ Undecided → more ≡ [] = λ none. let bad : Opened format ≡ Undecided = sym opened ∙ none in cc in
    let within : format_start format ≤ length window = header_within window format opened in
    let later = reading.window in
    let octets : later ++ more ≡ drop (format_start format) (window ++ more) =
    ap (λ xs. xs ++ more) dropped ∙ sym (drop-append-le (format_start format) window more within)
    in
    by_opening rules filter world (window ++ more) text (Opened format) done (file_decided window more (Opened format) is decided)
    (subst (λ (xs : List ℕ). IsRecordsText rules filter (format_timed filter.timing format) 0 (format_start format) world xs text done) octets
    (subst (λ (n : ℕ). IsRecordsText rules filter (format_timed filter.timing format) 0 n world (later ++ more) text done) places
    (subst (λ (n : ℕ). IsRecordsText rules filter (format_timed filter.timing format) n reading.reader.at world (later ++ more) text done) counts
    (subst (λ (f : Format). IsRecordsText rules filter f reading.reader.count reading.reader.at world (later ++ more) text done) formats printed))))

-- What was read has a text with the same end, with the header.
pub opened_enough : {World : Type 0} (rules : CellRules World) (world : World) (reading : ReadingAhead) (format : Format) (whole window rest0 rest : List ℕ) (done : Done)
    → file_opening window ≡ Opened format → reading.reader.format ≡ format_timed (filter_state reading.filter).timing format → reading.reader.count ≡ 0 → reading.reader.at ≡ format_start format
    → reading.window ≡ drop (format_start format) window → whole ≡ window ++ rest0 → HasRead (IsQueuedText rules reading [] world) reading.window rest0 rest done
    → TakesEnough (λ octets. (text : List ℕ) × IsCaptureText rules (filter_state reading.filter) world octets text done) most_ahead whole rest
opened_enough rules world reading format whole window rest0 rest done is formats counts places dropped all read =
    let none : length {A = ℕ} [] ≤ most_ahead = omega arith in (
      window ++ read.0,
      [],
      all ∙ ap (λ xs. window ++ xs) read.1 ∙ sym (append_assoc window read.0 rest),
      none,
      (read.2.0, opened_text rules world reading format window is formats counts places dropped read.0 read.2.0 done read.2.1),
    )

-- All that waits was needed.
pub all_needed : (Whole : Texts) (whole window rest text : List ℕ) (done : Done) → whole ≡ window ++ rest
    → Whole window text done → TakesEnough (λ octets. (record_read : List ℕ) × Whole octets record_read done) most_ahead whole rest
all_needed Whole whole window rest text done all is =
    let none : length {A = ℕ} [] ≤ most_ahead = omega arith in (window, [], all, none, (text, is))

-- A run that didn't fail at reading leaves the count of failures.
pub not_read : (result : Result Done RunFault) (before after : ℕ) → result ≢ Err ReadFailed → after ≡ before → after ≡ read_failures result before
not_read (Ok done) before after none same = same
not_read (Err ReadFailed) before after none same = absurd (none refl)
not_read (Err WriteFailed) before after none same = same
not_read (Err NoMemory) before after none same = same

-- A run that ends by writing leaves the count of the input as it was.
pub not_read_at_end : (result : Result Done RunFault) (before after : ℕ) → OnErr result (result ≡ Err WriteFailed) → after ≡ before → after ≡ read_failures result before
not_read_at_end (Ok done) before after only same = same
not_read_at_end (Err ReadFailed) before after only same = cc
not_read_at_end (Err WriteFailed) before after only same = same
not_read_at_end (Err NoMemory) before after only same = same

-- By fixed rules, a file has one text.
opened_one : {World : Type 0} (steps : World → CapturedCell → List ℕ × Option World) (closes : World → ReadingSummary → Option Fault → List ℕ)
    (filter : FilterState) (world : World) (octets : List ℕ) (opening : Opening) (one other : List ℕ) (ends other_ends : Done)
    → IsOpenedText (fixed_rules steps closes) filter world octets opening one ends
    → IsOpenedText (fixed_rules steps closes) filter world octets opening other other_ends → (one ≡ other) × (ends ≡ other_ends)
opened_one steps closes filter world octets (Opened format) one other ends other_ends first second =
    let same = one_cells filter (format_timed filter.timing format) 0 (format_start format) (drop (format_start format) octets) first.0 second.0 first.1 second.1 first.2 second.2 in
    let printed : (one, ends) ≡ (other, other_ends) =
    sym (fixed_is steps closes first.0 first.1 world one ends first.3) ∙ ap₂ (fixed_text steps closes world) same.0 same.1
    ∙ fixed_is steps closes second.0 second.1 world other other_ends second.3
    in
    (ap (λ (p : List ℕ × Done). p.0) printed, ap (λ (p : List ℕ × Done). p.1) printed)
opened_one steps closes filter world octets Undecided one other ends other_ends first second = (first.0 ∙ sym second.0, first.1 ∙ sym second.1)
opened_one steps closes filter world octets (Refused fault) one other ends other_ends first second = (first.0 ∙ sym second.0, first.1 ∙ sym second.1)

pub one_fixed_text : {World : Type 0} (steps : World → CapturedCell → List ℕ × Option World) (closes : World → ReadingSummary → Option Fault → List ℕ)
    (filter : FilterState) (world : World) (octets one other : List ℕ) (ends other_ends : Done)
    → IsCaptureText (fixed_rules steps closes) filter world octets one ends → IsCaptureText (fixed_rules steps closes) filter world octets other other_ends
    → (one ≡ other) × (ends ≡ other_ends)
one_fixed_text steps closes filter world octets one other ends other_ends first second =
    opened_one steps closes filter world octets (file_opening octets) one other ends other_ends first second

-- The same promise from an equal state of the filter.
pub served_from : {World : Type 0} (rules : CellRules World) (filter start : FilterState) (world : World) {Source Sink : Type 0} (I : InputView Source)
    (O : OutputView Sink) (source source' : Source) (sink sink' : Sink) (result : Result Done RunFault) → filter ≡ start
    → IsServed (IsCaptureText rules filter world) I source source' O sink sink' result → IsServed (IsCaptureText rules start world) I source source' O sink sink' result
served_from rules filter start world I O source source' sink sink' result same served =
    subst (λ (state : FilterState). IsServed (IsCaptureText rules state world) I source source' O sink sink' result) same served
