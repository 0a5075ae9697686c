-- What is forwarded of a whole file, from what its first octets say.
use Rattle.std.proofs.Common.{◌≡◌, ◌≢◌, ◌≤◌, ℕ, List, [], ◌++◌, Some, Result, Ok, Err, length, drop, refl, ◌∙◌, sym, ap, subst, arith, append_assoc, append-nil}
use Rattle.std.proofs.lemmas.List.{drop-append-le}
use Rattle.captures.proofs.Public.{file_decided, file_opened, header_within}
use Rattle.captures.specs.Frames.{format_start}
use Rattle.captures.specs.Opening.{file_opening, opening_of}
use Rattle.captures.specs.declared.format.Format.{Format}
use Rattle.captures.specs.declared.opening.FileFault.{FileFault}
use Rattle.captures.specs.declared.opening.Opening.{Opening}
use Rattle.captures.specs.declared.opening.Opening.TheVariants.{Opened, Undecided, Refused}
use Rattle.captures_text.specs.CaptureFaults.{file_fault_line}
use Rattle.captures_text.specs.CaptureText.{short_fault}
use Rattle.captures_text.specs.CellFilter.{FilterState, filter_state}
use Rattle.captures_text.specs.inner.Progress.{HasRead}
use Rattle.captures_text.proofs.CaptureTexts.{all_needed}
use Rattle.text_io.specs.Devices.{TakesEnough}
use Rattle.text_io.specs.Failures.{read_failures, write_failures}
use Rattle.text_io.specs.Limits.{most_ahead}
use Rattle.text_io.specs.declared.device.Input.{Ghosts as InputView}
use Rattle.text_io.specs.declared.device.Output.{Ghosts as OutputView}
use Rattle.text_io.specs.declared.ending.Done.{Done}
use Rattle.text_io.specs.declared.ending.Done.TheVariants.{Whole, Ended}
use Rattle.text_io.specs.declared.ending.RunFault.{RunFault}
use Rattle.text_io.proofs.Public.{nothing-begins}
use Rattle.cmd_forward.specs.Forwarding.{ForwardState, ForwardsCapture, ForwardsOctets, ForwardsOpened}
use Rattle.cmd_forward.specs.JudgeRules.{JudgeRules, JudgesEachCell}
use Rattle.cmd_forward.specs.Reporting.{HasReportedText, IsServedWithReport, ReportedTexts}
use Rattle.cmd_forward.specs.declared.others.Others.{Others}
use Rattle.cmd_forward.specs.declared.stepping.ForwardReading.{ForwardReading}
use Rattle.cmd_forward.specs.inner.ForwardSteps.{ForwardsHere, ForwardsSomehow, at_state}
use Rattle.cmd_forward.proofs.SomeForwarding.{capture_some}

-- A file that is this has what is forwarded of it.
by_opening : {World : Type 0} (rules : JudgeRules World) (others : Others) (state : ForwardState World) (octets text report : List ℕ) (opening : Opening) (done : Done)
    → file_opening octets ≡ opening → ForwardsOpened rules others state octets opening text report done → ForwardsCapture rules others state octets text report done
by_opening rules others state octets text report opening done is forwards =
    subst (λ (o : Opening). ForwardsOpened rules others state octets o text report done) (sym is) forwards

-- A file that isn't read.
pub refused_text : {World : Type 0} (rules : JudgeRules World) (others : Others) (state : ForwardState World) (octets more : List ℕ) (fault : FileFault)
    → file_opening octets ≡ Refused fault → (opening_of octets ≡ Undecided → more ≡ [])
    → ForwardsCapture rules others state (octets ++ more) [] (file_fault_line fault) Ended
refused_text rules others state octets more fault is none =
    by_opening rules others state (octets ++ more) [] (file_fault_line fault) (Refused fault) Ended (file_decided octets more (Refused fault) is none) (refl, refl, refl)

-- A file that is too short.
pub short_text : {World : Type 0} (rules : JudgeRules World) (others : Others) (state : ForwardState World) (octets : List ℕ) → file_opening octets ≡ Undecided
    → ForwardsCapture rules others state octets [] (rules.closes state.world state.filter.summary (Some (short_fault octets))) Ended
short_text rules others state octets is =
    by_opening rules others state octets [] (rules.closes state.world state.filter.summary (Some (short_fault octets))) Undecided Ended is (refl, refl, refl)

-- A capture.
pub opened_text : {World : Type 0} (rules : JudgeRules World) (others : Others) (world : World) (reading : ForwardReading) (format : Format) (window : List ℕ)
    → file_opening window ≡ Opened format → reading.reader.format ≡ format → reading.reader.count ≡ 0 → reading.reader.at ≡ format_start format
    → reading.window ≡ drop (format_start format) window → (more text report : List ℕ) (done : Done)
    → ForwardsHere rules others reading world report (reading.window ++ more) text done
    → ForwardsCapture rules others (at_state (filter_state reading.filter) world) (window ++ more) text report done
opened_text rules others world reading format window is formats counts places dropped more text report done forwards =
    let state = at_state (filter_state reading.filter) world in
    let opened : opening_of window ≡ Opened format = file_opened window format is in
    let decided : opening_of window ≡ Undecided → more ≡ [] = λ none. let bad : Opened format ≡ Undecided = sym opened ∙ none in cc in
    let within : format_start format ≤ length window = header_within window format opened in
    let later = reading.window in
    let octets : later ++ more ≡ drop (format_start format) (window ++ more) =
    ap (λ xs. xs ++ more) dropped ∙ sym (drop-append-le (format_start format) window more within)
    in
    by_opening rules others state (window ++ more) text report (Opened format) done (file_decided window more (Opened format) is decided)
    (subst (λ (xs : List ℕ). ForwardsOctets rules others state format 0 (format_start format) xs text report done) octets
    (subst (λ (n : ℕ). ForwardsOctets rules others state format 0 n (later ++ more) text report done) places
    (subst (λ (n : ℕ). ForwardsOctets rules others state format n reading.reader.at (later ++ more) text report done) counts
    (subst (λ (f : Format). ForwardsOctets rules others state f reading.reader.count reading.reader.at (later ++ more) text report done) formats forwards))))

-- What was read has a text with the same end, with the header.
pub opened_enough : {World : Type 0} (rules : JudgeRules World) (others : Others) (world : World) (reading : ForwardReading) (format : Format)
    (whole window rest0 rest : List ℕ) (done : Done)
    → file_opening window ≡ Opened format → reading.reader.format ≡ format → reading.reader.count ≡ 0 → reading.reader.at ≡ format_start format
    → reading.window ≡ drop (format_start format) window → whole ≡ window ++ rest0
    → HasRead (ForwardsSomehow rules others reading world) reading.window rest0 rest done
    → TakesEnough (λ octets. (text : List ℕ) × HasReportedText (ForwardsCapture rules others (at_state (filter_state reading.filter) world)) octets text done) most_ahead whole rest
opened_enough rules others world reading format whole window rest0 rest done is formats counts places dropped all read =
    let none : length {A = ℕ} [] ≤ most_ahead = omega arith in (
      window ++ read.0,
      [],
      all ∙ ap (λ xs. window ++ xs) read.1 ∙ sym (append_assoc window read.0 rest),
      none,
      (read.2.0, (read.2.1.0, opened_text rules others world reading format window is formats counts places dropped read.0 read.2.0 read.2.1.0 done read.2.1.1)),
    )

-- The same promise from an equal state of the filter.
pub served_from : {World : Type 0} (rules : JudgeRules World) (others : Others) (filter start : FilterState) (world : World) {Source Sink : Type 0} (I : InputView Source)
    (O : OutputView Sink) (source source' : Source) (sink sink' : Sink) (said said' : List ℕ) (result : Result Done RunFault) → filter ≡ start
    → IsServedWithReport (ForwardsCapture rules others (at_state filter world)) I source source' O sink sink' said said' result
    → IsServedWithReport (ForwardsCapture rules others (at_state start world)) I source source' O sink sink' said said' result
served_from rules others filter start world I O source source' sink sink' said said' result same served =
    subst (λ (state : FilterState). IsServedWithReport (ForwardsCapture rules others (at_state state world)) I source source' O sink sink' said said' result) same served

module _ {Source Sink : Type 0} (I : InputView Source) (O : OutputView Sink) (source source' : Source) (sink : Sink) (said said' : List ℕ) where
  -- A call that failed before it wrote anything.
  pub served_nothing : (IsText : ReportedTexts) (fault : RunFault) → ((text : List ℕ) × (done : Done) × HasReportedText IsText (I.rest source) text done)
      → I.failures source' ≡ read_failures {T = Done} (Err fault) (I.failures source) → O.failures sink ≡ write_failures {T = Done} (Err fault) (O.failures sink)
      → IsServedWithReport IsText I source source' O sink sink said said' (Err fault)
  served_nothing IsText fault some reads writes = record {
    served = record {
      text = λ ki ko. tt;
      front = λ ki ko. nothing-begins (HasReportedText IsText (I.rest source)) (O.held sink) some;
      left = λ ki. tt;
      whole = λ ki same. cc;
      reading = reads;
      writing = writes;
    };
    reported = λ ki ko. tt;
  }

  -- A call that wrote nothing, and reported of octets that decide how the run ends.
  pub served_report : (IsText : ReportedTexts) (near report : List ℕ) (done : Done) → I.failures source' ≡ I.failures source
      → (I.is_known → I.rest source ≡ near ++ I.rest source') → said' ≡ said ++ report → (I.is_known → IsText (I.rest source) [] report done)
      → IsText near [] report done → (I.is_known → done ≡ Whole → I.rest source' ≡ [])
      → IsServedWithReport IsText I source source' O sink sink said said' (Ok done)
  served_report IsText near report done calm all grew is here ends = record {
    served = record {
      text = λ ki ko. ([], sym (append-nil (O.held sink)), (report, is ki));
      front = λ ki ko. tt;
      left = λ ki. all_needed (HasReportedText IsText) (I.rest source) near (I.rest source') [] done (all ki) (report, here);
      whole = λ ki same. ends ki (let it : done ≡ Whole = cc in it);
      reading = calm;
      writing = refl;
    };
    reported = λ ki ko. (report, grew, ([], sym (append-nil (O.held sink)), is ki));
  }

-- Any file is forwarded somehow.
pub some_text : {World : Type 0} (rules : JudgeRules World) → JudgesEachCell rules → (others : Others) (state : ForwardState World) (octets : List ℕ)
    → rules.is_sound state.world → (text : List ℕ) × (done : Done) × HasReportedText (ForwardsCapture rules others state) octets text done
some_text rules total others state octets sound =
    let some = capture_some rules total others state octets sound in (some.0, some.2, (some.1, some.3))
