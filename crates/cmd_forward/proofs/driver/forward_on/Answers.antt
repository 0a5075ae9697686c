-- Each turn of the loop keeps its invariant, and each exit returns a text or a prefix of one.
use Rattle.std.proofs.Common.{◌≡◌, Ok, Err, [], ◌++◌, List, ℕ, refl, ap, subst, sym, ◌∙◌, arith, append-nil, length}
use Rattle.std.proofs.lemmas.List.{length-append}
use Rattle.std.proofs.lemmas.Result.{IfOk-weaker}
use Rattle.text_io.proofs.Public.{all-moved, at-err, at-ok, at-result}
use Rattle.text_io.specs.Devices.{one_more}
use Rattle.text_io.specs.Failures.{read_failures, write_failures}
use Rattle.text_io.specs.declared.ending.Done.{Done}
use Rattle.text_io.specs.declared.ending.Done.TheVariants.{Ended, Whole}
use Rattle.captures_text.proofs.CaptureTexts.{not_read, not_read_at_end}
use Rattle.captures_text.proofs.Progresses.{if_done, if_given, on_fault}
use Rattle.cmd_forward.specs.declared.stepping.ForwardReading.{ForwardReading}
use Rattle.cmd_forward.specs.declared.stepping.StepOutcome.{StepOutcome}
use Rattle.cmd_forward.specs.declared.stepping.StepOutcome.TheVariants as outcome
use Rattle.cmd_forward.specs.inner.ForwardSteps.{ForwardedSoFar, ForwardsHere}
use Rattle.cmd_forward.proofs.ForwardProgress.{enough_at_end, last_text, run_advanced, run_begun, run_enough, run_front, run_given, run_refilled, run_text, said_at_end}
use Rattle.cmd_forward.proofs.driver.forward_on.Goals as goal

pub loop-written-init : goal.loop-written-init
loop-written-init g c =
    let j = g.J.CellJudge in
    record {
      bounded = c.requires;
      near = omega arith;
      read = refl;
      written = refl;
      silent = refl;
      goes = run_begun j.rules c.args.others (j.shows c.args.judge.now) c.args.reading g.I.Input.is_known g.O.Output.is_known
          (g.I.Input.rest c.args.input.now) (g.O.Output.held c.args.output.now) c.new-written.result.items c.new-written.ensures.items;
    }

pub returns-in-Err-clause-front : goal.returns-in-Err-clause-front
returns-in-Err-clause-front g c = λ ki ko.
    let now = g.O.Output.held c.loop-written.output in
    run_front now c.judges_each_cell.ensures c.loop-written.invariant.goes ki ko ([], c.loop-written.written.items, refl, sym (append-nil now))

pub returns-in-Ok-Ended-clause-text : goal.returns-in-Ok-Ended-clause-text
returns-in-Ok-Ended-clause-text g c = λ ki ko.
    let j = g.J.CellJudge in
    let now = g.O.Output.held c.loop-written.output in
    let now' = g.O.Output.held c.give_last.new.output in
    let same = c.in-Ok-Ended.ensures.same c.in-Ok-Ended.field-0-is in
    if_given c.give_last.result Ended _ _ c.give_last.ensures.done (c.give_last.ensures.given ko)
    (λ gives. run_text now' c.args.report.now.items c.loop-written.report.items c.step.new.report.items Ended c.loop-written.invariant.silent
    c.loop-written.invariant.goes ki ko (gives ∙ ap (λ xs. now ++ xs) same)
    (said_at_end (g.I.Input.rest c.loop-written.input) (c.in-Ok-Ended.ensures.ends c.in-Ok-Ended.field-0-is)))

pub returns-in-Ok-Ended-clause-front : goal.returns-in-Ok-Ended-clause-front
returns-in-Ok-Ended-clause-front g c = λ ki ko.
    let same = c.in-Ok-Ended.ensures.same c.in-Ok-Ended.field-0-is in
    let now' = g.O.Output.held c.give_last.new.output in
    on_fault c.give_last.result _ _ (c.give_last.ensures.front ko)
    (λ part. run_front now' c.judges_each_cell.ensures c.loop-written.invariant.goes ki ko (part.0, part.1, sym same ∙ part.2, part.3))

pub returns-in-Ok-Ended-clause-left : goal.returns-in-Ok-Ended-clause-left
returns-in-Ok-Ended-clause-left g c = λ ki.
    if_done c.give_last.result Ended _ c.give_last.ensures.done
    (run_enough Ended c.loop-written.invariant.goes ki (enough_at_end (c.in-Ok-Ended.ensures.ends c.in-Ok-Ended.field-0-is)))

pub returns-then-is_err-clause-front : goal.returns-then-is_err-clause-front
returns-then-is_err-clause-front g c = λ ki ko.
    let j = g.J.CellJudge in
    let came = subst (λ (outcome : StepOutcome). ForwardedSoFar outcome c.loop-written.reading c.step.new.self) c.in-Ok-GoesOn.field-0-is c.in-Ok-GoesOn.ensures.came in
    let on = run_advanced (j.shows c.step.new.judge) c.step.new.self came.0 c.step.new.written.items c.loop-written.invariant.goes came.1
    (c.in-Ok-GoesOn.ensures.goes_on (λ ended. let bad : outcome.GoesOn ≡ outcome.Ended = sym c.in-Ok-GoesOn.field-0-is ∙ ended in cc)) in
    run_front (g.O.Output.held c.give_if_enough.new.output) c.judges_each_cell.ensures on ki ko
    (at-err c.give_if_enough.result _ (sym c.is_err.ensures.value ∙ c.if-is_err.true) (c.give_if_enough.ensures.front ko))

pub loop-written-preserved-else-is_err : goal.loop-written-preserved-else-is_err
loop-written-preserved-else-is_err g c =
    let j = g.J.CellJudge in
    let came = subst (λ (outcome : StepOutcome). ForwardedSoFar outcome c.loop-written.reading c.step.new.self) c.in-Ok-GoesOn.field-0-is c.in-Ok-GoesOn.ensures.came in
    let cut = ap (λ (xs : List ℕ). length xs) came.1 in
    let on = run_advanced (j.shows c.step.new.judge) c.step.new.self came.0 c.step.new.written.items c.loop-written.invariant.goes came.1
    (c.in-Ok-GoesOn.ensures.goes_on (λ ended. let bad : outcome.GoesOn ≡ outcome.Ended = sym c.in-Ok-GoesOn.field-0-is ∙ ended in cc)) in
    let fine = sym c.is_err.ensures.value ∙ c.if-is_err.false in
    record {
      bounded = omega (arith, cut, length-append came.0 c.step.new.self.window, c.loop-written.invariant.bounded);
      near = came.4;
      read = c.loop-written.invariant.read;
      written = at-ok c.give_if_enough.result _ fine c.give_if_enough.ensures.calm ∙ c.loop-written.invariant.written;
      silent = c.in-Ok-GoesOn.ensures.silent (λ ended. let bad : outcome.GoesOn ≡ outcome.Ended = sym c.in-Ok-GoesOn.field-0-is ∙ ended in cc) ∙ c.loop-written.invariant.silent;
      goes = run_given (g.O.Output.held c.give_if_enough.new.output) c.give_if_enough.new.answers.items on
          (λ ko. at-ok c.give_if_enough.result _ fine (c.give_if_enough.ensures.moved ko));
    }

pub returns-in-Err-refill-clause-front : goal.returns-in-Err-refill-clause-front
returns-in-Err-refill-clause-front g c = λ ki ko.
    let j = g.J.CellJudge in
    let came = subst (λ (outcome : StepOutcome). ForwardedSoFar outcome c.loop-written.reading c.step.new.self) c.in-Ok-NeedsOctets.field-0-is c.in-Ok-NeedsOctets.ensures.came in
    let on = run_advanced (j.shows c.step.new.judge) c.step.new.self [] c.step.new.written.items c.loop-written.invariant.goes (sym came.0)
    (c.in-Ok-NeedsOctets.ensures.goes_on (λ ended. let bad : outcome.NeedsOctets ≡ outcome.Ended = sym c.in-Ok-NeedsOctets.field-0-is ∙ ended in cc)) in
    run_front (g.O.Output.held c.refill.new.output) c.judges_each_cell.ensures on ki ko (c.in-Err-refill.ensures.front ko)

pub loop-written-preserved : goal.loop-written-preserved
loop-written-preserved g c =
    let j = g.J.CellJudge in
    let reading = c.step.new.self in
    let reading' : ForwardReading = record reading { window = c.refill.new.window } in
    let now = g.O.Output.held c.loop-written.output in
    let now' = g.O.Output.held c.refill.new.output in
    let rest' = g.I.Input.rest c.refill.new.input in
    let came = subst (λ (outcome : StepOutcome). ForwardedSoFar outcome c.loop-written.reading c.step.new.self) c.in-Ok-NeedsOctets.field-0-is c.in-Ok-NeedsOctets.ensures.came in
    let on = run_advanced (j.shows c.step.new.judge) reading [] c.step.new.written.items c.loop-written.invariant.goes (sym came.0)
    (c.in-Ok-NeedsOctets.ensures.goes_on (λ ended. let bad : outcome.NeedsOctets ≡ outcome.Ended = sym c.in-Ok-NeedsOctets.field-0-is ∙ ended in cc)) in
    record {
      bounded = c.in-Ok.ensures.bounded;
      near = omega (arith, came.1, c.loop-written.invariant.near);
      read = c.in-Ok.ensures.reading ∙ c.loop-written.invariant.read;
      written = c.in-Ok.ensures.writing ∙ c.loop-written.invariant.written;
      silent = c.in-Ok-NeedsOctets.ensures.silent (λ ended. let bad : outcome.NeedsOctets ≡ outcome.Ended = sym c.in-Ok-NeedsOctets.field-0-is ∙ ended in cc) ∙ c.loop-written.invariant.silent;
      goes = run_refilled reading' rest' now' c.refill.new.answers.items on refl c.in-Ok.ensures.front_octets c.in-Ok.ensures.octets
          (λ ko. all-moved now now' c.step.new.written.items c.refill.new.answers.items (c.in-Ok.ensures.given ko) c.in-Ok.ensures.none);
    }

pub returns-in-Ok-eq0-clause-text : goal.returns-in-Ok-eq0-clause-text
returns-in-Ok-eq0-clause-text g c = λ ki ko.
    let j = g.J.CellJudge in
    let reading = c.step.new.self in
    let reading' : ForwardReading = record reading { window = c.refill.new.window } in
    let now = g.O.Output.held c.loop-written.output in
    let now' = g.O.Output.held c.refill.new.output in
    let rest' = g.I.Input.rest c.refill.new.input in
    let came = subst (λ (outcome : StepOutcome). ForwardedSoFar outcome c.loop-written.reading c.step.new.self) c.in-Ok-NeedsOctets.field-0-is c.in-Ok-NeedsOctets.ensures.came in
    let on = run_advanced (j.shows c.step.new.judge) reading [] c.step.new.written.items c.loop-written.invariant.goes (sym came.0)
    (c.in-Ok-NeedsOctets.ensures.goes_on (λ ended. let bad : outcome.NeedsOctets ≡ outcome.Ended = sym c.in-Ok-NeedsOctets.field-0-is ∙ ended in cc)) in
    let last = run_refilled reading' rest' now' c.refill.new.answers.items on refl c.in-Ok-eq0.ensures.front_octets c.in-Ok-eq0.ensures.octets
    (λ ko. all-moved now now' c.step.new.written.items c.refill.new.answers.items (c.in-Ok-eq0.ensures.given ko) c.in-Ok-eq0.ensures.none) in
    let none : c.in-Ok-eq0.field-0 ≡ 0 = omega arith in
    let at_end : rest' ≡ [] = c.in-Ok-eq0.ensures.end ki (ap (λ n. Ok n) none) in
    let silent = c.in-Ok-NeedsOctets.ensures.silent (λ ended. let bad : outcome.NeedsOctets ≡ outcome.Ended = sym c.in-Ok-NeedsOctets.field-0-is ∙ ended in cc) ∙ c.loop-written.invariant.silent in
    last_text c.finish.result j.rules c.args.others (j.shows c.args.judge.now) (j.shows c.step.new.judge) c.args.reading reading' g.I.Input.is_known g.O.Output.is_known
    (g.I.Input.rest c.args.input.now) rest' (g.O.Output.held c.args.output.now) now' (g.O.Output.held c.finish.new.output) c.refill.new.answers.items
    c.args.report.now.items c.step.new.report.items c.finish.new.report.items silent last ki ko at_end (c.finish.ensures.given ko) c.finish.ensures.said

pub returns-in-Ok-eq0-clause-front : goal.returns-in-Ok-eq0-clause-front
returns-in-Ok-eq0-clause-front g c = λ ki ko.
    let j = g.J.CellJudge in
    let reading = c.step.new.self in
    let reading' : ForwardReading = record reading { window = c.refill.new.window } in
    let now = g.O.Output.held c.loop-written.output in
    let now' = g.O.Output.held c.refill.new.output in
    let rest' = g.I.Input.rest c.refill.new.input in
    let came = subst (λ (outcome : StepOutcome). ForwardedSoFar outcome c.loop-written.reading c.step.new.self) c.in-Ok-NeedsOctets.field-0-is c.in-Ok-NeedsOctets.ensures.came in
    let on = run_advanced (j.shows c.step.new.judge) reading [] c.step.new.written.items c.loop-written.invariant.goes (sym came.0)
    (c.in-Ok-NeedsOctets.ensures.goes_on (λ ended. let bad : outcome.NeedsOctets ≡ outcome.Ended = sym c.in-Ok-NeedsOctets.field-0-is ∙ ended in cc)) in
    let last = run_refilled reading' rest' now' c.refill.new.answers.items on refl c.in-Ok-eq0.ensures.front_octets c.in-Ok-eq0.ensures.octets
    (λ ko. all-moved now now' c.step.new.written.items c.refill.new.answers.items (c.in-Ok-eq0.ensures.given ko) c.in-Ok-eq0.ensures.none) in
    on_fault c.finish.result _ _ (c.finish.ensures.front ko)
    (λ part. run_front (g.O.Output.held c.finish.new.output) c.judges_each_cell.ensures last ki ko part)

pub returns-in-Ok-eq0-clause-left : goal.returns-in-Ok-eq0-clause-left
returns-in-Ok-eq0-clause-left g c = λ ki.
    let j = g.J.CellJudge in
    let reading = c.step.new.self in
    let reading' : ForwardReading = record reading { window = c.refill.new.window } in
    let now = g.O.Output.held c.loop-written.output in
    let now' = g.O.Output.held c.refill.new.output in
    let rest' = g.I.Input.rest c.refill.new.input in
    let came = subst (λ (outcome : StepOutcome). ForwardedSoFar outcome c.loop-written.reading c.step.new.self) c.in-Ok-NeedsOctets.field-0-is c.in-Ok-NeedsOctets.ensures.came in
    let on = run_advanced (j.shows c.step.new.judge) reading [] c.step.new.written.items c.loop-written.invariant.goes (sym came.0)
    (c.in-Ok-NeedsOctets.ensures.goes_on (λ ended. let bad : outcome.NeedsOctets ≡ outcome.Ended = sym c.in-Ok-NeedsOctets.field-0-is ∙ ended in cc)) in
    let last = run_refilled reading' rest' now' c.refill.new.answers.items on refl c.in-Ok-eq0.ensures.front_octets c.in-Ok-eq0.ensures.octets
    (λ ko. all-moved now now' c.step.new.written.items c.refill.new.answers.items (c.in-Ok-eq0.ensures.given ko) c.in-Ok-eq0.ensures.none) in
    IfOk-weaker c.finish.result _ _
    (λ done said. run_enough done last ki
    (λ world sound is_shown.
    let end = said world sound is_shown in
    (end.0, subst (λ (xs : List ℕ). ForwardsHere j.rules c.args.others reading' world end.0 xs [] done) (sym (append-nil reading'.window)) end.2)))
    c.finish.ensures.said

pub returns-in-Ok-Ended-clause-whole : goal.returns-in-Ok-Ended-clause-whole
returns-in-Ok-Ended-clause-whole g c = λ ki whole.
    let bad : Whole ≡ Ended = at-result c.give_last.result (λ done. done ≡ Ended) Whole whole c.give_last.ensures.done in cc

pub returns-in-Ok-Ended-clause-read : goal.returns-in-Ok-Ended-clause-read
returns-in-Ok-Ended-clause-read g c = not_read_at_end c.give_last.result _ _ c.give_last.ensures.fault c.loop-written.invariant.read

pub returns-in-Ok-Ended-clause-written : goal.returns-in-Ok-Ended-clause-written
returns-in-Ok-Ended-clause-written g c = c.give_last.ensures.writing ∙ ap (λ n. write_failures c.give_last.result n) c.loop-written.invariant.written

pub returns-then-is_err-clause-written : goal.returns-then-is_err-clause-written
returns-then-is_err-clause-written g c =
    at-err c.give_if_enough.result _ (sym c.is_err.ensures.value ∙ c.if-is_err.true) c.give_if_enough.ensures.failed ∙ ap (λ n. one_more n) c.loop-written.invariant.written

pub returns-in-Err-refill-clause-read : goal.returns-in-Err-refill-clause-read
returns-in-Err-refill-clause-read g c =
    c.in-Err-refill.ensures.reading ∙ ap (λ n. read_failures {T = Done} (Err c.in-Err-refill.fault) n) c.loop-written.invariant.read

pub returns-in-Err-refill-clause-written : goal.returns-in-Err-refill-clause-written
returns-in-Err-refill-clause-written g c =
    c.in-Err-refill.ensures.writing ∙ ap (λ n. write_failures {T = Done} (Err c.in-Err-refill.fault) n) c.loop-written.invariant.written

pub returns-in-Ok-eq0-clause-whole : goal.returns-in-Ok-eq0-clause-whole
returns-in-Ok-eq0-clause-whole g c = λ ki whole.
    let none : c.in-Ok-eq0.field-0 ≡ 0 = omega arith in
    c.in-Ok-eq0.ensures.end ki (ap (λ n. Ok n) none)

pub returns-in-Ok-eq0-clause-read : goal.returns-in-Ok-eq0-clause-read
returns-in-Ok-eq0-clause-read g c = not_read c.finish.result _ _ c.finish.ensures.fault (c.in-Ok-eq0.ensures.reading ∙ c.loop-written.invariant.read)

pub returns-in-Ok-eq0-clause-written : goal.returns-in-Ok-eq0-clause-written
returns-in-Ok-eq0-clause-written g c =
    c.finish.ensures.writing ∙ ap (λ n. write_failures c.finish.result n) (c.in-Ok-eq0.ensures.writing ∙ c.loop-written.invariant.written)
