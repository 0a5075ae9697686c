-- Each turn of the loop keeps its invariant, and each exit returns a text or a prefix of one.
use Rattle.std.proofs.Common.{◌≡◌, Ok, Err, [], ◌++◌, List, ℕ, refl, ap, subst, sym, ◌∙◌, arith, append-nil, length}
use Rattle.std.proofs.lemmas.List.{length-append}
use Rattle.std.proofs.lemmas.Result.{IfOk-weaker}
use Rattle.text_io.proofs.Public.{at-err, at-ok, at-result}
use Rattle.text_io.specs.Devices.{one_more}
use Rattle.text_io.specs.Failures.{read_failures, write_failures}
use Rattle.text_io.specs.declared.ending.Done.{Done}
use Rattle.text_io.specs.declared.ending.Done.TheVariants.{Ended, Whole}
use Rattle.captures_text.specs.inner.Ahead.{CameSoFar, FillsAhead, IsQueuedText, with_window}
use Rattle.captures_text.specs.declared.answering.StepOutcome.{StepOutcome}
use Rattle.captures_text.specs.declared.answering.StepOutcome.TheVariants as outcome
use Rattle.captures_text.specs.declared.reading_ahead.ReadingAhead.{ReadingAhead}
use Rattle.captures_text.proofs.CaptureTexts.{not_read, not_read_at_end}
use Rattle.captures_text.proofs.Progresses.{all_given, if_done, if_given, on_fault, reprinted}
use Rattle.captures_text.proofs.QueueProgress.{end_enough, at_the_end, end_part, text_at_end, queue_advanced, queue_begun, queue_empty, queue_enough, queue_front, queue_front_of_last, queue_given, queue_refilled, queue_text}
use Rattle.captures_text.proofs.driver.follow_on.Goals as goal

pub loop-reading-init : goal.loop-reading-init
loop-reading-init g c =
    let f = g.F.CellFollower in
    record {
      bounded = c.requires;
      near = omega arith;
      spare = c.new-queue.ensures.spare;
      read = refl;
      written = refl;
      goes = queue_begun f.rules (f.shows c.args.follower.now) c.args.reading c.new-queue.result.cells.items g.I.Input.is_known g.O.Output.is_known
          (g.I.Input.rest c.args.input.now) (g.O.Output.held c.args.output.now) c.new-answers.result.items c.new-queue.ensures.cells c.new-answers.ensures.items;
    }

pub returns-in-Err-advance-clause-front : goal.returns-in-Err-advance-clause-front
returns-in-Err-advance-clause-front g c = λ ki ko.
    let now = g.O.Output.held c.loop-reading.output in
    queue_front now c.answers_each_cell.ensures c.loop-reading.invariant.goes ki ko ([], c.loop-reading.answers.items, refl, sym (append-nil now))

pub returns-in-Ok-Ended-advance-clause-text : goal.returns-in-Ok-Ended-advance-clause-text
returns-in-Ok-Ended-advance-clause-text g c = λ ki ko.
    let now = g.O.Output.held c.loop-reading.output in
    let now' = g.O.Output.held c.give_last-in-Ok-Ended-advance.new.output in
    if_given c.give_last-in-Ok-Ended-advance.result Ended _ _ c.give_last-in-Ok-Ended-advance.ensures.done (c.give_last-in-Ok-Ended-advance.ensures.given ko)
    (λ gives. queue_text now' Ended c.loop-reading.invariant.goes ki ko
    (text_at_end (g.I.Input.rest c.loop-reading.input) now now' (c.in-Ok-Ended-advance.ensures.ends c.in-Ok-Ended-advance.field-0-is) gives))

pub returns-in-Ok-Ended-advance-clause-front : goal.returns-in-Ok-Ended-advance-clause-front
returns-in-Ok-Ended-advance-clause-front g c = λ ki ko.
    let now = g.O.Output.held c.loop-reading.output in
    let now' = g.O.Output.held c.give_last-in-Ok-Ended-advance.new.output in
    on_fault c.give_last-in-Ok-Ended-advance.result _ _ (c.give_last-in-Ok-Ended-advance.ensures.front ko)
    (λ part. queue_front_of_last now' c.loop-reading.invariant.goes ki ko
    (end_part (g.I.Input.rest c.loop-reading.input) now now' (c.in-Ok-Ended-advance.ensures.ends c.in-Ok-Ended-advance.field-0-is) part))

pub returns-in-Ok-Ended-advance-clause-left : goal.returns-in-Ok-Ended-advance-clause-left
returns-in-Ok-Ended-advance-clause-left g c = λ ki.
    if_done c.give_last-in-Ok-Ended-advance.result Ended _ c.give_last-in-Ok-Ended-advance.ensures.done
    (queue_enough Ended c.loop-reading.invariant.goes ki (end_enough (c.in-Ok-Ended-advance.ensures.ends c.in-Ok-Ended-advance.field-0-is)))

pub returns-in-Err-refill-clause-front : goal.returns-in-Err-refill-clause-front
returns-in-Err-refill-clause-front g c = λ ki ko.
    let f = g.F.CellFollower in
    let reading = c.advance.new.reading in
    let came = subst (λ (outcome : StepOutcome). CameSoFar outcome c.loop-reading.reading c.advance.new.reading c.advance.new.queue.cells.items) c.in-Ok-NeedsOctets-advance.field-0-is c.in-Ok-NeedsOctets-advance.ensures.came in
    let wants = came.0 in
    let on = queue_advanced (f.shows c.advance.new.follower) reading c.advance.new.queue.cells.items wants.own c.advance.new.answers.items
    c.loop-reading.invariant.goes wants.cut (c.in-Ok-NeedsOctets-advance.ensures.goes_on
    (λ ended. let bad : outcome.NeedsOctets ≡ outcome.Ended = sym c.in-Ok-NeedsOctets-advance.field-0-is ∙ ended in cc)) in
    queue_front (g.O.Output.held c.refill.new.output) c.answers_each_cell.ensures on ki ko (c.in-Err-refill.ensures.front ko)

pub loop-reading-preserved : goal.loop-reading-preserved
loop-reading-preserved g c =
    let f = g.F.CellFollower in
    let reading = c.advance.new.reading in
    let reading' : ReadingAhead = record reading { window = c.refill.new.window } in
    let now = g.O.Output.held c.loop-reading.output in
    let now' = g.O.Output.held c.refill.new.output in
    let rest' = g.I.Input.rest c.refill.new.input in
    let came = subst (λ (outcome : StepOutcome). CameSoFar outcome c.loop-reading.reading c.advance.new.reading c.advance.new.queue.cells.items) c.in-Ok-NeedsOctets-advance.field-0-is c.in-Ok-NeedsOctets-advance.ensures.came in
    let wants = came.0 in
    let on = queue_advanced (f.shows c.advance.new.follower) reading c.advance.new.queue.cells.items wants.own c.advance.new.answers.items
    c.loop-reading.invariant.goes wants.cut (c.in-Ok-NeedsOctets-advance.ensures.goes_on
    (λ ended. let bad : outcome.NeedsOctets ≡ outcome.Ended = sym c.in-Ok-NeedsOctets-advance.field-0-is ∙ ended in cc)) in
    record {
      bounded = c.in-Ok.ensures.bounded;
      near = wants.near c.loop-reading.invariant.near;
      spare = c.in-Ok-NeedsOctets-advance.ensures.spare;
      read = c.in-Ok.ensures.reading ∙ c.loop-reading.invariant.read;
      written = c.in-Ok.ensures.writing ∙ c.loop-reading.invariant.written;
      goes = queue_refilled reading' rest' now' c.refill.new.answers.items on refl c.in-Ok.ensures.front_octets c.in-Ok.ensures.octets
          (λ ko. all_given now now' c.advance.new.answers.items c.refill.new.answers.items (c.in-Ok.ensures.given ko) c.in-Ok.ensures.none);
    }

pub returns-then-is_err-clause-front : goal.returns-then-is_err-clause-front
returns-then-is_err-clause-front g c = λ ki ko.
    let f = g.F.CellFollower in
    let came = subst (λ (outcome : StepOutcome). CameSoFar outcome c.loop-reading.reading c.advance.new.reading c.advance.new.queue.cells.items) c.in-Ok-GoesOn-advance.field-0-is c.in-Ok-GoesOn-advance.ensures.came in
    let on = queue_advanced (f.shows c.advance.new.follower) c.advance.new.reading c.advance.new.queue.cells.items came.0.own c.advance.new.answers.items
    c.loop-reading.invariant.goes came.0.cut (c.in-Ok-GoesOn-advance.ensures.goes_on
    (λ ended. let bad : outcome.GoesOn ≡ outcome.Ended = sym c.in-Ok-GoesOn-advance.field-0-is ∙ ended in cc)) in
    queue_front (g.O.Output.held c.give_if_enough.new.output) c.answers_each_cell.ensures on ki ko
    (at-err c.give_if_enough.result _ (sym c.is_err.ensures.value ∙ c.if-is_err.true) (c.give_if_enough.ensures.front ko))

pub loop-reading-preserved-else-is_err : goal.loop-reading-preserved-else-is_err
loop-reading-preserved-else-is_err g c =
    let f = g.F.CellFollower in
    let came = subst (λ (outcome : StepOutcome). CameSoFar outcome c.loop-reading.reading c.advance.new.reading c.advance.new.queue.cells.items) c.in-Ok-GoesOn-advance.field-0-is c.in-Ok-GoesOn-advance.ensures.came in
    let cut = ap (λ (xs : List ℕ). length xs) came.0.cut in
    let on = queue_advanced (f.shows c.advance.new.follower) c.advance.new.reading c.advance.new.queue.cells.items came.0.own c.advance.new.answers.items
    c.loop-reading.invariant.goes came.0.cut (c.in-Ok-GoesOn-advance.ensures.goes_on
    (λ ended. let bad : outcome.GoesOn ≡ outcome.Ended = sym c.in-Ok-GoesOn-advance.field-0-is ∙ ended in cc)) in
    let fine = sym c.is_err.ensures.value ∙ c.if-is_err.false in
    record {
      bounded = omega (arith, cut, length-append came.0.own c.advance.new.reading.window, c.loop-reading.invariant.bounded);
      near = came.0.near c.loop-reading.invariant.near;
      spare = c.in-Ok-GoesOn-advance.ensures.spare;
      read = c.loop-reading.invariant.read;
      written = at-ok c.give_if_enough.result _ fine c.give_if_enough.ensures.calm ∙ c.loop-reading.invariant.written;
      goes = queue_given (g.O.Output.held c.give_if_enough.new.output) c.give_if_enough.new.answers.items on
          (λ ko. at-ok c.give_if_enough.result _ fine (c.give_if_enough.ensures.moved ko));
    }

pub returns-in-Ok-eq0-clause-text : goal.returns-in-Ok-eq0-clause-text
returns-in-Ok-eq0-clause-text g c = λ ki ko.
    let f = g.F.CellFollower in
    let reading = c.advance.new.reading in
    let reading' : ReadingAhead = record reading { window = c.refill.new.window } in
    let cells = c.advance.new.queue.cells.items in
    let now = g.O.Output.held c.loop-reading.output in
    let now' = g.O.Output.held c.refill.new.output in
    let rest' = g.I.Input.rest c.refill.new.input in
    let came = subst (λ (outcome : StepOutcome). CameSoFar outcome c.loop-reading.reading c.advance.new.reading c.advance.new.queue.cells.items) c.in-Ok-NeedsOctets-advance.field-0-is c.in-Ok-NeedsOctets-advance.ensures.came in
    let wants = came.0 in
    let on = queue_advanced (f.shows c.advance.new.follower) reading cells wants.own c.advance.new.answers.items
    c.loop-reading.invariant.goes wants.cut (c.in-Ok-NeedsOctets-advance.ensures.goes_on
    (λ ended. let bad : outcome.NeedsOctets ≡ outcome.Ended = sym c.in-Ok-NeedsOctets-advance.field-0-is ∙ ended in cc)) in
    let last = queue_refilled reading' rest' now' c.refill.new.answers.items (queue_empty on came.3) refl c.in-Ok-eq0.ensures.front_octets c.in-Ok-eq0.ensures.octets
    (λ ko. all_given now now' c.advance.new.answers.items c.refill.new.answers.items (c.in-Ok-eq0.ensures.given ko) c.in-Ok-eq0.ensures.none) in
    let none : c.in-Ok-eq0.field-0 ≡ 0 = omega arith in
    let at_end : rest' ≡ [] = c.in-Ok-eq0.ensures.end ki (ap (λ n. Ok n) none) in
    IfOk-weaker c.finish.result _ _
    (λ done ends. queue_text (g.O.Output.held c.finish.new.output) done last ki ko
    (λ world sound is_shown.
    let end = ends world sound is_shown in (
      end.0,
      end.1,
      reprinted (IsQueuedText f.rules reading' [] world) reading'.window (reading'.window ++ rest') end.0 end.0 done
          (at_the_end reading'.window rest' at_end) refl end.2,
    )))
    (c.finish.ensures.given ko)

pub returns-in-Ok-eq0-clause-front : goal.returns-in-Ok-eq0-clause-front
returns-in-Ok-eq0-clause-front g c = λ ki ko.
    let f = g.F.CellFollower in
    let reading = c.advance.new.reading in
    let reading' : ReadingAhead = record reading { window = c.refill.new.window } in
    let cells = c.advance.new.queue.cells.items in
    let now = g.O.Output.held c.loop-reading.output in
    let now' = g.O.Output.held c.refill.new.output in
    let rest' = g.I.Input.rest c.refill.new.input in
    let came = subst (λ (outcome : StepOutcome). CameSoFar outcome c.loop-reading.reading c.advance.new.reading c.advance.new.queue.cells.items) c.in-Ok-NeedsOctets-advance.field-0-is c.in-Ok-NeedsOctets-advance.ensures.came in
    let wants = came.0 in
    let on = queue_advanced (f.shows c.advance.new.follower) reading cells wants.own c.advance.new.answers.items
    c.loop-reading.invariant.goes wants.cut (c.in-Ok-NeedsOctets-advance.ensures.goes_on
    (λ ended. let bad : outcome.NeedsOctets ≡ outcome.Ended = sym c.in-Ok-NeedsOctets-advance.field-0-is ∙ ended in cc)) in
    let last = queue_refilled reading' rest' now' c.refill.new.answers.items (queue_empty on came.3) refl c.in-Ok-eq0.ensures.front_octets c.in-Ok-eq0.ensures.octets
    (λ ko. all_given now now' c.advance.new.answers.items c.refill.new.answers.items (c.in-Ok-eq0.ensures.given ko) c.in-Ok-eq0.ensures.none) in
    let none : c.in-Ok-eq0.field-0 ≡ 0 = omega arith in
    let at_end : rest' ≡ [] = c.in-Ok-eq0.ensures.end ki (ap (λ n. Ok n) none) in
    on_fault c.finish.result _ _ (c.finish.ensures.front ko)
    (λ ends. queue_front_of_last (g.O.Output.held c.finish.new.output) last ki ko
    (λ world sound is_shown.
    let end = ends world sound is_shown in (
      end.0,
      end.1,
      end.2,
      reprinted (IsQueuedText f.rules reading' [] world) reading'.window (reading'.window ++ rest') end.0 end.0 end.1
          (at_the_end reading'.window rest' at_end) refl end.3,
    )))

pub returns-in-Ok-eq0-clause-left : goal.returns-in-Ok-eq0-clause-left
returns-in-Ok-eq0-clause-left g c = λ ki.
    let f = g.F.CellFollower in
    let reading = c.advance.new.reading in
    let reading' : ReadingAhead = record reading { window = c.refill.new.window } in
    let cells = c.advance.new.queue.cells.items in
    let now = g.O.Output.held c.loop-reading.output in
    let now' = g.O.Output.held c.refill.new.output in
    let rest' = g.I.Input.rest c.refill.new.input in
    let came = subst (λ (outcome : StepOutcome). CameSoFar outcome c.loop-reading.reading c.advance.new.reading c.advance.new.queue.cells.items) c.in-Ok-NeedsOctets-advance.field-0-is c.in-Ok-NeedsOctets-advance.ensures.came in
    let wants = came.0 in
    let on = queue_advanced (f.shows c.advance.new.follower) reading cells wants.own c.advance.new.answers.items
    c.loop-reading.invariant.goes wants.cut (c.in-Ok-NeedsOctets-advance.ensures.goes_on
    (λ ended. let bad : outcome.NeedsOctets ≡ outcome.Ended = sym c.in-Ok-NeedsOctets-advance.field-0-is ∙ ended in cc)) in
    let last = queue_refilled reading' rest' now' c.refill.new.answers.items (queue_empty on came.3) refl c.in-Ok-eq0.ensures.front_octets c.in-Ok-eq0.ensures.octets
    (λ ko. all_given now now' c.advance.new.answers.items c.refill.new.answers.items (c.in-Ok-eq0.ensures.given ko) c.in-Ok-eq0.ensures.none) in
    IfOk-weaker c.finish.result _ _ (λ done ends. queue_enough done last ki ends) c.finish.ensures.text

pub loop-reading-preserved-in-Ok-GoesOn : goal.loop-reading-preserved-in-Ok-GoesOn
loop-reading-preserved-in-Ok-GoesOn g c =
    let f = g.F.CellFollower in
    let before = c.loop-reading.reading in
    let after = c.give_and_go_ahead.new.reading in
    let shown = f.shows c.loop-reading.follower in
    let shown' = f.shows c.give_and_go_ahead.new.follower in
    let rest = g.I.Input.rest c.loop-reading.input in
    let rest' = g.I.Input.rest c.give_and_go_ahead.new.input in
    let now = g.O.Output.held c.loop-reading.output in
    let now' = g.O.Output.held c.give_and_go_ahead.new.output in
    let cells = c.loop-reading.queue.cells.items in
    let cells' = c.give_and_go_ahead.new.queue.cells.items in
    let fills = subst (λ (how : StepOutcome). FillsAhead f.rules shown shown' g.I.Input.is_known rest rest' before cells how after cells' []
    c.give_and_go_ahead.new.answers.items) c.in-Ok-GoesOn.field-0-is c.in-Ok-GoesOn.ensures.ahead in
    let filled = queue_refilled (with_window before fills.near) rest' now' [] c.loop-reading.invariant.goes refl fills.front fills.same
    (λ ko. all_given now now' c.loop-reading.answers.items [] (c.in-Ok-GoesOn.ensures.given ko) refl) in
    let came = fills.came in
    let cut = ap (λ (xs : List ℕ). length xs) came.0.cut in
    record {
      bounded = omega (arith, cut, length-append came.0.own after.window, fills.bounded c.loop-reading.invariant.bounded);
      near = came.0.near c.loop-reading.invariant.near;
      spare = c.in-Ok-GoesOn.ensures.spare;
      read = c.in-Ok-GoesOn.ensures.reading ∙ c.loop-reading.invariant.read;
      written = c.in-Ok-GoesOn.ensures.writing ∙ c.loop-reading.invariant.written;
      goes = queue_advanced shown' after cells' came.0.own c.give_and_go_ahead.new.answers.items filled came.0.cut (fills.goes_on (λ e. cc));
    }

pub loop-reading-preserved-in-Ok-NeedsOctets : goal.loop-reading-preserved-in-Ok-NeedsOctets
loop-reading-preserved-in-Ok-NeedsOctets g c =
    let f = g.F.CellFollower in
    let before = c.loop-reading.reading in
    let after = c.give_and_go_ahead.new.reading in
    let shown = f.shows c.loop-reading.follower in
    let shown' = f.shows c.give_and_go_ahead.new.follower in
    let rest = g.I.Input.rest c.loop-reading.input in
    let rest' = g.I.Input.rest c.give_and_go_ahead.new.input in
    let now = g.O.Output.held c.loop-reading.output in
    let now' = g.O.Output.held c.give_and_go_ahead.new.output in
    let cells = c.loop-reading.queue.cells.items in
    let cells' = c.give_and_go_ahead.new.queue.cells.items in
    let fills = subst (λ (how : StepOutcome). FillsAhead f.rules shown shown' g.I.Input.is_known rest rest' before cells how after cells' []
    c.give_and_go_ahead.new.answers.items) c.in-Ok-NeedsOctets.field-0-is c.in-Ok-NeedsOctets.ensures.ahead in
    let filled = queue_refilled (with_window before fills.near) rest' now' [] c.loop-reading.invariant.goes refl fills.front fills.same
    (λ ko. all_given now now' c.loop-reading.answers.items [] (c.in-Ok-NeedsOctets.ensures.given ko) refl) in
    let came = fills.came in
    let same : after.window ≡ before.window = ap (λ (reading : ReadingAhead). reading.window) came.1 in
    let place : after.reader.at ≡ before.reader.at = ap (λ (reading : ReadingAhead). reading.reader.at) came.1 in
    let long = ap (λ (xs : List ℕ). length xs) same in
    record {
      bounded = omega (arith, long, c.loop-reading.invariant.bounded);
      near = omega (arith, place, c.loop-reading.invariant.near);
      spare = c.in-Ok-NeedsOctets.ensures.spare;
      read = c.in-Ok-NeedsOctets.ensures.reading ∙ c.loop-reading.invariant.read;
      written = c.in-Ok-NeedsOctets.ensures.writing ∙ c.loop-reading.invariant.written;
      goes = queue_advanced shown' after cells' [] c.give_and_go_ahead.new.answers.items filled (came.0 ∙ sym same) (fills.goes_on (λ e. cc));
    }

pub returns-in-Err-clause-front : goal.returns-in-Err-clause-front
returns-in-Err-clause-front g c = λ ki ko.
    queue_front (g.O.Output.held c.give_and_go_ahead.new.output) c.answers_each_cell.ensures c.loop-reading.invariant.goes ki ko (c.in-Err.ensures.front ko)

pub returns-in-Ok-Ended-clause-text : goal.returns-in-Ok-Ended-clause-text
returns-in-Ok-Ended-clause-text g c = λ ki ko.
    let f = g.F.CellFollower in
    let before = c.loop-reading.reading in
    let after = c.give_and_go_ahead.new.reading in
    let shown = f.shows c.loop-reading.follower in
    let shown' = f.shows c.give_and_go_ahead.new.follower in
    let rest = g.I.Input.rest c.loop-reading.input in
    let rest' = g.I.Input.rest c.give_and_go_ahead.new.input in
    let now = g.O.Output.held c.loop-reading.output in
    let now' = g.O.Output.held c.give_and_go_ahead.new.output in
    let cells = c.loop-reading.queue.cells.items in
    let cells' = c.give_and_go_ahead.new.queue.cells.items in
    let fills = subst (λ (how : StepOutcome). FillsAhead f.rules shown shown' g.I.Input.is_known rest rest' before cells how after cells' []
    c.give_and_go_ahead.new.answers.items) c.in-Ok-Ended.field-0-is c.in-Ok-Ended.ensures.ahead in
    let filled = queue_refilled (with_window before fills.near) rest' now' [] c.loop-reading.invariant.goes refl fills.front fills.same
    (λ ko. all_given now now' c.loop-reading.answers.items [] (c.in-Ok-Ended.ensures.given ko) refl) in
    let last = g.O.Output.held c.give_last.new.output in
    if_given c.give_last.result Ended _ _ c.give_last.ensures.done (c.give_last.ensures.given ko)
    (λ gives. queue_text last Ended filled ki ko (text_at_end rest' now' last (fills.ends refl) gives))

pub returns-in-Ok-Ended-clause-front : goal.returns-in-Ok-Ended-clause-front
returns-in-Ok-Ended-clause-front g c = λ ki ko.
    let f = g.F.CellFollower in
    let before = c.loop-reading.reading in
    let after = c.give_and_go_ahead.new.reading in
    let shown = f.shows c.loop-reading.follower in
    let shown' = f.shows c.give_and_go_ahead.new.follower in
    let rest = g.I.Input.rest c.loop-reading.input in
    let rest' = g.I.Input.rest c.give_and_go_ahead.new.input in
    let now = g.O.Output.held c.loop-reading.output in
    let now' = g.O.Output.held c.give_and_go_ahead.new.output in
    let cells = c.loop-reading.queue.cells.items in
    let cells' = c.give_and_go_ahead.new.queue.cells.items in
    let fills = subst (λ (how : StepOutcome). FillsAhead f.rules shown shown' g.I.Input.is_known rest rest' before cells how after cells' []
    c.give_and_go_ahead.new.answers.items) c.in-Ok-Ended.field-0-is c.in-Ok-Ended.ensures.ahead in
    let filled = queue_refilled (with_window before fills.near) rest' now' [] c.loop-reading.invariant.goes refl fills.front fills.same
    (λ ko. all_given now now' c.loop-reading.answers.items [] (c.in-Ok-Ended.ensures.given ko) refl) in
    let last = g.O.Output.held c.give_last.new.output in
    on_fault c.give_last.result _ _ (c.give_last.ensures.front ko)
    (λ part. queue_front_of_last last filled ki ko (end_part rest' now' last (fills.ends refl) part))

pub returns-in-Ok-Ended-clause-left : goal.returns-in-Ok-Ended-clause-left
returns-in-Ok-Ended-clause-left g c = λ ki.
    let f = g.F.CellFollower in
    let before = c.loop-reading.reading in
    let after = c.give_and_go_ahead.new.reading in
    let shown = f.shows c.loop-reading.follower in
    let shown' = f.shows c.give_and_go_ahead.new.follower in
    let rest = g.I.Input.rest c.loop-reading.input in
    let rest' = g.I.Input.rest c.give_and_go_ahead.new.input in
    let now = g.O.Output.held c.loop-reading.output in
    let now' = g.O.Output.held c.give_and_go_ahead.new.output in
    let cells = c.loop-reading.queue.cells.items in
    let cells' = c.give_and_go_ahead.new.queue.cells.items in
    let fills = subst (λ (how : StepOutcome). FillsAhead f.rules shown shown' g.I.Input.is_known rest rest' before cells how after cells' []
    c.give_and_go_ahead.new.answers.items) c.in-Ok-Ended.field-0-is c.in-Ok-Ended.ensures.ahead in
    let filled = queue_refilled (with_window before fills.near) rest' now' [] c.loop-reading.invariant.goes refl fills.front fills.same
    (λ ko. all_given now now' c.loop-reading.answers.items [] (c.in-Ok-Ended.ensures.given ko) refl) in
    if_done c.give_last.result Ended _ c.give_last.ensures.done (queue_enough Ended filled ki (end_enough (fills.ends refl)))

pub returns-in-Ok-Ended-advance-clause-whole : goal.returns-in-Ok-Ended-advance-clause-whole
returns-in-Ok-Ended-advance-clause-whole g c = λ ki whole.
    let bad : Whole ≡ Ended = at-result c.give_last-in-Ok-Ended-advance.result (λ done. done ≡ Ended) Whole whole c.give_last-in-Ok-Ended-advance.ensures.done in cc

pub returns-in-Ok-Ended-advance-clause-read : goal.returns-in-Ok-Ended-advance-clause-read
returns-in-Ok-Ended-advance-clause-read g c =
    not_read_at_end c.give_last-in-Ok-Ended-advance.result _ _ c.give_last-in-Ok-Ended-advance.ensures.fault c.loop-reading.invariant.read

pub returns-in-Ok-Ended-advance-clause-written : goal.returns-in-Ok-Ended-advance-clause-written
returns-in-Ok-Ended-advance-clause-written g c =
    c.give_last-in-Ok-Ended-advance.ensures.writing ∙ ap (λ n. write_failures c.give_last-in-Ok-Ended-advance.result n) c.loop-reading.invariant.written

pub returns-in-Ok-Ended-clause-whole : goal.returns-in-Ok-Ended-clause-whole
returns-in-Ok-Ended-clause-whole g c = λ ki whole.
    let bad : Whole ≡ Ended = at-result c.give_last.result (λ done. done ≡ Ended) Whole whole c.give_last.ensures.done in cc

pub returns-in-Ok-Ended-clause-read : goal.returns-in-Ok-Ended-clause-read
returns-in-Ok-Ended-clause-read g c =
    not_read_at_end c.give_last.result _ _ c.give_last.ensures.fault (c.in-Ok-Ended.ensures.reading ∙ c.loop-reading.invariant.read)

pub returns-in-Ok-Ended-clause-written : goal.returns-in-Ok-Ended-clause-written
returns-in-Ok-Ended-clause-written g c =
    c.give_last.ensures.writing ∙ ap (λ n. write_failures c.give_last.result n) (c.in-Ok-Ended.ensures.writing ∙ c.loop-reading.invariant.written)

pub returns-in-Ok-eq0-clause-whole : goal.returns-in-Ok-eq0-clause-whole
returns-in-Ok-eq0-clause-whole g c = λ ki whole.
    let none : c.in-Ok-eq0.field-0 ≡ 0 = omega arith in
    c.in-Ok-eq0.ensures.end ki (ap (λ n. Ok n) none)

pub returns-in-Ok-eq0-clause-read : goal.returns-in-Ok-eq0-clause-read
returns-in-Ok-eq0-clause-read g c =
    not_read c.finish.result _ _ c.finish.ensures.fault (c.in-Ok-eq0.ensures.reading ∙ c.loop-reading.invariant.read)

pub returns-in-Ok-eq0-clause-written : goal.returns-in-Ok-eq0-clause-written
returns-in-Ok-eq0-clause-written g c =
    c.finish.ensures.writing ∙ ap (λ n. write_failures c.finish.result n) (c.in-Ok-eq0.ensures.writing ∙ c.loop-reading.invariant.written)

pub returns-in-Err-refill-clause-read : goal.returns-in-Err-refill-clause-read
returns-in-Err-refill-clause-read g c =
    c.in-Err-refill.ensures.reading ∙ ap (λ n. read_failures {T = Done} (Err c.in-Err-refill.fault) n) c.loop-reading.invariant.read

pub returns-in-Err-refill-clause-written : goal.returns-in-Err-refill-clause-written
returns-in-Err-refill-clause-written g c =
    c.in-Err-refill.ensures.writing ∙ ap (λ n. write_failures {T = Done} (Err c.in-Err-refill.fault) n) c.loop-reading.invariant.written

pub returns-in-Err-clause-read : goal.returns-in-Err-clause-read
returns-in-Err-clause-read g c = c.in-Err.ensures.reading ∙ ap (λ n. read_failures {T = Done} (Err c.in-Err.fault) n) c.loop-reading.invariant.read

pub returns-in-Err-clause-written : goal.returns-in-Err-clause-written
returns-in-Err-clause-written g c = c.in-Err.ensures.writing ∙ ap (λ n. write_failures {T = Done} (Err c.in-Err.fault) n) c.loop-reading.invariant.written

pub returns-then-is_err-clause-written : goal.returns-then-is_err-clause-written
returns-then-is_err-clause-written g c =
    at-err c.give_if_enough.result _ (sym c.is_err.ensures.value ∙ c.if-is_err.true) c.give_if_enough.ensures.failed ∙ ap (λ n. one_more n) c.loop-reading.invariant.written
