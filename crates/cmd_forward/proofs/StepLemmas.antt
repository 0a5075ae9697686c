-- How one frame is written, and how a run ends there.
use Rattle.std.proofs.Common.{◌≡◌, ◌+◌, ℕ, List, [], ◌∷◌, ◌++◌, take, drop, Some, Result, Ok, Err, arith, refl, ◌∙◌, sym, ap, subst, append-nil}
use Rattle.std.proofs.lemmas.List.{length-take-le, take-append-drop}
use Rattle.captures.proofs.Public.{faults_end}
use Rattle.captures.specs.Frames.{first_frame}
use Rattle.captures.specs.Reading.{ComesNext, TakesFrame}
use Rattle.captures.specs.RecordOctets.{octets_of_first}
use Rattle.captures.specs.declared.fault.Fault.{Fault}
use Rattle.captures.specs.declared.reader.Next.TheVariants.{Broken}
use Rattle.captures.specs.declared.reader.SkippedBlock.{SkippedBlock}
use Rattle.captures.specs.declared.reader.Reader.{Reader}
use Rattle.captures.specs.declared.reader.Record.{Record}
use Rattle.captures_text.specs.CellFilter.{FilterState, filter_block, filter_record, filter_state}
use Rattle.captures_text.specs.declared.filter.Filtered.{Filtered}
use Rattle.captures_text.specs.declared.filter.Filtered.TheVariants.{Counts, Skipped, SecondLink}
use Rattle.text_io.specs.declared.ending.Done.{Done}
use Rattle.text_io.specs.declared.machine.Turn.TheVariants.{GoesOn, Ends}
use Rattle.cmd_forward.specs.Forwarding.{ForwardState, WritesFiltered, WritesFrame}
use Rattle.cmd_forward.specs.JudgeRules.{JudgeRules, JudgesEachCell, OfEachJudgeWorld}
use Rattle.cmd_forward.specs.declared.others.Others.{Others}
use Rattle.cmd_forward.specs.declared.stepping.ForwardReading.{ForwardReading}
use Rattle.cmd_forward.specs.declared.stepping.StepOutcome.TheVariants as outcome
use Rattle.cmd_forward.specs.inner.ForwardSteps.{ForwardsOn, ForwardsToEnd, ForwardedSoFar, ForwardsHere, TurnsAtRecord, at_state}
use Rattle.cmd_forward.proofs.Frames.{frame_before, some_frames}

-- A frame leads to sound worlds.
filtered_sound : {World : Type 0} (rules : JudgeRules World) → JudgesEachCell rules → (others : Others) (world : World) (number : ℕ) (octets here : List ℕ)
    (found : Filtered) (filter : FilterState) (after : ForwardState World) → rules.is_sound world
    → WritesFiltered rules others world number octets found filter here (Ok after) → rules.is_sound after.world
filtered_sound {World = World} rules total others world number octets here (Counts moment cell) filter after sound (onward, next, step, written, same) =
    let is : after ≡ record { filter = filter; world = next } = cc in
    subst (λ (state : ForwardState World). rules.is_sound state.world) (sym is)
    (total.keeps world (record { number = number; moment = moment; cell = cell }) onward next sound step)
filtered_sound {World = World} rules total others world number octets here Skipped filter after sound (written, same) =
    let is : after ≡ record { filter = filter; world = world } = cc in
    subst (λ (state : ForwardState World). rules.is_sound state.world) (sym is) sound
filtered_sound rules total others world number octets here (SecondLink one other) filter after sound (written, same) = cc

-- One frame, and what follows it.
frame_leads : {World : Type 0} (rules : JudgeRules World) (others : Others) (before after : ForwardReading) (world next : World) (given : Result Record SkippedBlock)
    (whole here : List ℕ) (own : ℕ) → TakesFrame before.reader before.window given own after.reader
    → whole ≡ octets_of_first (first_frame before.reader.format before.reader.at before.window)
    → WritesFrame rules others (at_state (filter_state before.filter) world) given whole here (Ok (at_state (filter_state after.filter) next))
    → after.window ≡ drop own before.window
    → (report more text : List ℕ) (done : Done) → ForwardsHere rules others after next report (after.window ++ more) text done
    → ForwardsHere rules others before world report (before.window ++ more) (here ++ text) done
frame_leads rules others before after world next given whole here own takes is writes cut report more text done forwards =
    let on = subst (λ (xs : List ℕ). ForwardsHere rules others after next report (xs ++ more) text done) cut forwards in (
      record { given = given; octets = whole } ∷ on.0,
      on.1,
      frame_before before.reader after.reader before.window more whole given own on.0 on.1 takes is on.2,
      (here, text, Ok (at_state (filter_state after.filter) next), refl, writes, on.3),
    )

-- A frame without a record.
pub advances_skipped : {World : Type 0} (rules : JudgeRules World) (others : Others) (shown : World → Type 0) (before after : ForwardReading) (block : SkippedBlock)
    (own : ℕ) (old : List ℕ) → TakesFrame before.reader before.window (Err block) own after.reader
    → filter_state after.filter ≡ filter_block (filter_state before.filter) block → after.window ≡ drop own before.window
    → OfEachJudgeWorld rules shown (λ world. ForwardsOn rules others before world after shown old old)
advances_skipped {World = World} rules others shown before after block own old takes passes cut = λ world sound is_shown.
    let going : ForwardState World → Result (ForwardState World) (List ℕ) = λ state. Ok state in
    let writes : WritesFrame rules others (at_state (filter_state before.filter) world) (Err block)
    (octets_of_first (first_frame before.reader.format before.reader.at before.window)) [] (Ok (at_state (filter_state after.filter) world)) =
    (refl, ap (λ (filter : FilterState). going (at_state filter world)) passes) in
    record {
      here = [];
      grew = sym (append-nil old);
      next = world;
      sound = sound;
      is_shown = is_shown;
      completes = frame_leads rules others before after world world (Err block) (octets_of_first (first_frame before.reader.format before.reader.at before.window)) [] own
          takes refl writes cut;
    }

-- A record.
pub advances_record : {World : Type 0} (rules : JudgeRules World) → JudgesEachCell rules → (others : Others) (shown shown' : World → Type 0)
    (before after : ForwardReading) (record_read : Record) (whole : List ℕ) (own : ℕ) (old new said said' : List ℕ)
    → TakesFrame before.reader before.window (Ok record_read) own after.reader
    → whole ≡ octets_of_first (first_frame before.reader.format before.reader.at before.window)
    → TurnsAtRecord rules others shown (filter_state before.filter) record_read whole GoesOn (filter_state after.filter) shown' old new said said'
    → after.window ≡ drop own before.window
    → OfEachJudgeWorld rules shown (λ world. ForwardsOn rules others before world after shown' old new)
advances_record rules total others shown shown' before after record_read whole own old new said said' takes is turns cut = λ world sound is_shown.
    let on = turns.1 world sound is_shown in
    record {
      here = on.0;
      grew = on.2;
      next = on.1;
      sound = filtered_sound rules total others world record_read.number whole on.0 (filter_record (filter_state before.filter) record_read).0
          (filter_record (filter_state before.filter) record_read).1 (at_state (filter_state after.filter) on.1) sound on.4;
      is_shown = on.3;
      completes = frame_leads rules others before after world on.1 (Ok record_read) whole on.0 own takes is on.4 cut;
    }

-- A record at which the run ends.
pub ends_record : {World : Type 0} (rules : JudgeRules World) (others : Others) (shown shown' : World → Type 0) (before : ForwardReading) (reader : Reader)
    (filter' : FilterState) (record_read : Record) (whole : List ℕ) (own : ℕ) (old new said said' : List ℕ)
    → TakesFrame before.reader before.window (Ok record_read) own reader
    → whole ≡ octets_of_first (first_frame before.reader.format before.reader.at before.window)
    → TurnsAtRecord rules others shown (filter_state before.filter) record_read whole Ends filter' shown' old new said said'
    → OfEachJudgeWorld rules shown (λ world. ForwardsToEnd rules others before world said said')
ends_record rules others shown shown' before reader filter' record_read whole own old new said said' takes is turns = λ world sound is_shown.
    let on = turns.1 world sound is_shown in
    record {
      last = on.0;
      grew = on.1;
      ends = λ more.
          let later = some_frames reader.format reader.count reader.at (drop own before.window ++ more) in (
            record { given = Ok record_read; octets = whole } ∷ later.0,
            later.1,
            frame_before before.reader reader before.window more whole (Ok record_read) own later.0 later.1 takes is later.2,
            ([], [], Err on.0, refl, on.2, (refl, refl, refl)),
          );
    }

-- A fault.
pub ends_fault : {World : Type 0} (rules : JudgeRules World) (others : Others) (shown : World → Type 0) (before : ForwardReading) (reader : Reader)
    (fault : Fault) (said said' : List ℕ) → ComesNext before.reader before.window (Broken fault) reader
    → OfEachJudgeWorld rules shown (λ world. said' ≡ said ++ rules.closes world (filter_state before.filter).summary (Some fault))
    → OfEachJudgeWorld rules shown (λ world. ForwardsToEnd rules others before world said said')
ends_fault rules others shown before reader fault said said' next closes = λ world sound is_shown. record {
  last = rules.closes world (filter_state before.filter).summary (Some fault);
  grew = closes world sound is_shown;
  ends = λ more. ([], Some fault, faults_end before.reader reader before.window more fault next, (refl, refl, refl));
}

-- How far the reading came by a frame.
pub came_on : (before after : ForwardReading) (given : Result Record SkippedBlock) (own : ℕ) → TakesFrame before.reader before.window given own after.reader
    → after.window ≡ drop own before.window → ForwardedSoFar outcome.GoesOn before after
came_on before after given own takes cut =
    let long = length-take-le own before.window takes.within in (
      take own before.window,
      sym (take-append-drop own before.window) ∙ ap (λ xs. take own before.window ++ xs) (sym cut),
      omega (arith, long, takes.some),
      takes.at ∙ ap (λ n. before.reader.at + n) (sym long),
      omega (arith, takes.at, takes.near),
    )
