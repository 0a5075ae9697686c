-- Each iteration preserves the invariant, and each exit returns an answer or a prefix of one.
use Rattle.std.proofs.Common.{◌≡◌, ◌<◌, ◌≤◌, ◌+◌, ℕ, List, Ok, [], ◌∷◌, ◌++◌, length, take, drop, refl, ap, sym, ◌∙◌, arith, append_assoc, append-nil, length-drop}
use Rattle.std.proofs.lemmas.Result.{IfOk-weaker}
use Rattle.text_io.specs.Lines.{lines_of}
use Rattle.text_io.specs.Limits.{most_ahead}
use Rattle.text_io.specs.Printing.{Prints}
use Rattle.text_io.specs.Answering.{OfEach}
use Rattle.text_io.specs.declared.ending.Done.TheVariants.{Whole, Ended}
use Rattle.text_io.proofs.DriverLemmas.{begin, progress-line, progress-given, progress-left, all-moved, text-of, front-of, front-of-last, world-of, enough, line-ends, window-over}
use Rattle.text_io.proofs.DriverLemmas.{split-at_feed, no-feed-front, none-longer, at-err, at-ok, at-result, at-done, at-given, at-fault}
use Rattle.text_io.proofs.driver.answer_lines.Goals as goal

pub returns-in_default-clause-front : goal.returns-in_default-clause-front
returns-in_default-clause-front g c = λ ki ko.
    let m = g.M.Machine in
    let shown = m.shows c.args.machine.now in
    let whole = g.I.Input.rest c.args.input.now in
    let held = g.O.Output.held c.args.output.now in
    front-of m.rules g.met.M.Machine.is_total shown shown g.I.Input.is_known g.O.Output.is_known whole whole held held held [] 0 ki ko
    ([], [], refl, sym (append-nil held)) (begin m.rules shown g.I.Input.is_known g.O.Output.is_known whole held)

pub returns-in-Err-clause-front : goal.returns-in-Err-clause-front
returns-in-Err-clause-front g c = λ ki ko.
    let m = g.M.Machine in
    let shown = m.shows c.args.machine.now in
    let now = m.shows c.loop-count.machine in
    let whole = g.I.Input.rest c.args.input.now in
    let before = g.O.Output.held c.args.output.now in
    let held = g.O.Output.held c.loop-count.output in
    let old = c.loop-count.answers.items in
    let met = c.loop-count.met in
    let rest = g.I.Input.rest c.loop-count.input in
    let left = c.loop-count.window ++ rest in
    let goes = c.loop-count.invariant.goes in
    front-of m.rules g.met.M.Machine.is_total shown now g.I.Input.is_known g.O.Output.is_known whole left before held held old met ki ko
    ([], old, refl, sym (append-nil held)) goes

pub returns-in-Ok-Ends-clause-text : goal.returns-in-Ok-Ends-clause-text
returns-in-Ok-Ends-clause-text g c = λ ki ko.
    let m = g.M.Machine in
    let shown = m.shows c.args.machine.now in
    let now = m.shows c.loop-count.machine in
    let whole = g.I.Input.rest c.args.input.now in
    let before = g.O.Output.held c.args.output.now in
    let held = g.O.Output.held c.loop-count.output in
    let old = c.loop-count.answers.items in
    let met = c.loop-count.met in
    let rest = g.I.Input.rest c.loop-count.input in
    let left = c.loop-count.window ++ rest in
    let goes = c.loop-count.invariant.goes in
    let O = c.octets-waiting.result.now in
    let count = c.in-Some.count in
    let line = take count O in
    let later = drop (count + 1) O in
    let cut : left ≡ line ++ 10 ∷ (later ++ rest) =
    ap (λ xs. xs ++ rest) (sym c.octets-waiting.ensures) ∙ split-at_feed O rest count c.in-Some.ensures.place c.in-Some.ensures.feed in
    let none = no-feed-front O count c.in-Some.ensures.before in
    let now' = m.shows c.answer_line.new.machine in
    let new = c.answer_line.new.answers.items in
    let passes = rw c.in-Ok-Ends.field-0-is at c.in-Ok-Ends.ensures.passes in
    at-given c.give_last.result Ended _ _ c.give_last.ensures.done (c.give_last.ensures.given ko)
    (λ given. text-of m.rules shown now g.I.Input.is_known g.O.Output.is_known whole (line ++ 10 ∷ (later ++ rest)) before held (g.O.Output.held c.give_last.new.output) old passes.0 met Ended ki ko
    (line-ends m.rules now now' line (later ++ rest) old new met none passes)
    (given ∙ ap (λ xs. held ++ xs) passes.1)
    (progress-left m.rules shown now g.I.Input.is_known g.O.Output.is_known whole left (line ++ 10 ∷ (later ++ rest)) before held old met (λ _. cut) goes))

pub returns-in-Ok-Ends-clause-front : goal.returns-in-Ok-Ends-clause-front
returns-in-Ok-Ends-clause-front g c = λ ki ko.
    let m = g.M.Machine in
    let shown = m.shows c.args.machine.now in
    let now = m.shows c.loop-count.machine in
    let whole = g.I.Input.rest c.args.input.now in
    let before = g.O.Output.held c.args.output.now in
    let held = g.O.Output.held c.loop-count.output in
    let old = c.loop-count.answers.items in
    let met = c.loop-count.met in
    let rest = g.I.Input.rest c.loop-count.input in
    let left = c.loop-count.window ++ rest in
    let goes = c.loop-count.invariant.goes in
    let O = c.octets-waiting.result.now in
    let count = c.in-Some.count in
    let line = take count O in
    let later = drop (count + 1) O in
    let cut : left ≡ line ++ 10 ∷ (later ++ rest) =
    ap (λ xs. xs ++ rest) (sym c.octets-waiting.ensures) ∙ split-at_feed O rest count c.in-Some.ensures.place c.in-Some.ensures.feed in
    let none = no-feed-front O count c.in-Some.ensures.before in
    let now' = m.shows c.answer_line.new.machine in
    let new = c.answer_line.new.answers.items in
    let passes = rw c.in-Ok-Ends.field-0-is at c.in-Ok-Ends.ensures.passes in
    at-fault c.give_last.result _ _ (c.give_last.ensures.front ko)
    (λ part. front-of-last m.rules shown now g.I.Input.is_known g.O.Output.is_known whole (line ++ 10 ∷ (later ++ rest)) before held (g.O.Output.held c.give_last.new.output) old met ki ko
    (λ present sound is_shown. (
      passes.0,
      Ended,
      (part.0, part.1, sym passes.1 ∙ part.2, part.3),
      line-ends m.rules now now' line (later ++ rest) old new met none passes present sound is_shown,
    ))
    (progress-left m.rules shown now g.I.Input.is_known g.O.Output.is_known whole left (line ++ 10 ∷ (later ++ rest)) before held old met (λ _. cut) goes))

pub returns-in-Ok-Ends-clause-left : goal.returns-in-Ok-Ends-clause-left
returns-in-Ok-Ends-clause-left g c = λ ki.
    let m = g.M.Machine in
    let shown = m.shows c.args.machine.now in
    let now = m.shows c.loop-count.machine in
    let whole = g.I.Input.rest c.args.input.now in
    let before = g.O.Output.held c.args.output.now in
    let held = g.O.Output.held c.loop-count.output in
    let old = c.loop-count.answers.items in
    let met = c.loop-count.met in
    let rest = g.I.Input.rest c.loop-count.input in
    let left = c.loop-count.window ++ rest in
    let goes = c.loop-count.invariant.goes in
    let O = c.octets-waiting.result.now in
    let count = c.in-Some.count in
    let line = take count O in
    let later = drop (count + 1) O in
    let cut : left ≡ line ++ 10 ∷ (later ++ rest) =
    ap (λ xs. xs ++ rest) (sym c.octets-waiting.ensures) ∙ split-at_feed O rest count c.in-Some.ensures.place c.in-Some.ensures.feed in
    let none = no-feed-front O count c.in-Some.ensures.before in
    let now' = m.shows c.answer_line.new.machine in
    let new = c.answer_line.new.answers.items in
    let passes = rw c.in-Ok-Ends.field-0-is at c.in-Ok-Ends.ensures.passes in
    let short : length later ≤ most_ahead = omega (arith, length-drop (count + 1) O, ap length c.octets-waiting.ensures, c.loop-count.invariant.bounded) in
    at-done c.give_last.result Ended _ c.give_last.ensures.done
    (enough m.rules shown now g.I.Input.is_known g.O.Output.is_known whole left (line ++ 10 ∷ []) later rest before held old passes.0 met most_ahead Ended ki
    (cut ∙ sym (append_assoc line (10 ∷ []) (later ++ rest))) short
    (line-ends m.rules now now' line [] old new met none passes) goes)

pub returns-then-is_err-clause-front : goal.returns-then-is_err-clause-front
returns-then-is_err-clause-front g c = λ ki ko.
    let m = g.M.Machine in
    let shown = m.shows c.args.machine.now in
    let now = m.shows c.loop-count.machine in
    let whole = g.I.Input.rest c.args.input.now in
    let before = g.O.Output.held c.args.output.now in
    let held = g.O.Output.held c.loop-count.output in
    let old = c.loop-count.answers.items in
    let met = c.loop-count.met in
    let rest = g.I.Input.rest c.loop-count.input in
    let left = c.loop-count.window ++ rest in
    let goes = c.loop-count.invariant.goes in
    let O = c.octets-waiting.result.now in
    let count = c.in-Some.count in
    let line = take count O in
    let later = drop (count + 1) O in
    let cut : left ≡ line ++ 10 ∷ (later ++ rest) =
    ap (λ xs. xs ++ rest) (sym c.octets-waiting.ensures) ∙ split-at_feed O rest count c.in-Some.ensures.place c.in-Some.ensures.feed in
    let none = no-feed-front O count c.in-Some.ensures.before in
    let now' = m.shows c.answer_line.new.machine in
    let new = c.answer_line.new.answers.items in
    let passes = rw c.in-Ok-GoesOn.field-0-is at c.in-Ok-GoesOn.ensures.passes in
    let on = progress-line m.rules shown now now' g.I.Input.is_known g.O.Output.is_known whole left line (later ++ rest) before held old new met none cut passes goes in
    front-of m.rules g.met.M.Machine.is_total shown now' g.I.Input.is_known g.O.Output.is_known whole (later ++ rest) before held (g.O.Output.held c.give_if_enough.new.output) new (met + 1) ki ko
    (at-err c.give_if_enough.result _ (sym c.is_err.ensures.value ∙ c.if-is_err.true) (c.give_if_enough.ensures.front ko)) on

pub loop-count-preserved-else-is_err : goal.loop-count-preserved-else-is_err
loop-count-preserved-else-is_err g c = record {
  met = let h = c.in-Ok-GoesOn.ensures.within c.in-Ok-GoesOn.field-0-is in omega arith;
  bounded = omega (arith, c.skip.ensures.length, c.loop-count.invariant.bounded);
  looked = omega arith;
  no_feed = λ k below. let none : k < 0 = below in absurd (omega arith);
  reading = c.loop-count.invariant.reading;
  writing = at-ok c.give_if_enough.result _ (sym c.is_err.ensures.value ∙ c.if-is_err.false) c.give_if_enough.ensures.calm ∙ c.loop-count.invariant.writing;
  goes =
      let m = g.M.Machine in
      let shown = m.shows c.args.machine.now in
      let now = m.shows c.loop-count.machine in
      let whole = g.I.Input.rest c.args.input.now in
      let before = g.O.Output.held c.args.output.now in
      let held = g.O.Output.held c.loop-count.output in
      let old = c.loop-count.answers.items in
      let met = c.loop-count.met in
      let rest = g.I.Input.rest c.loop-count.input in
      let left = c.loop-count.window ++ rest in
      let goes = c.loop-count.invariant.goes in
      let O = c.octets-waiting.result.now in
      let count = c.in-Some.count in
      let line = take count O in
      let later = drop (count + 1) O in
      let cut : left ≡ line ++ 10 ∷ (later ++ rest) =
      ap (λ xs. xs ++ rest) (sym c.octets-waiting.ensures) ∙ split-at_feed O rest count c.in-Some.ensures.place c.in-Some.ensures.feed in
      let none = no-feed-front O count c.in-Some.ensures.before in
      let now' = m.shows c.answer_line.new.machine in
      let new = c.answer_line.new.answers.items in
      let passes = rw c.in-Ok-GoesOn.field-0-is at c.in-Ok-GoesOn.ensures.passes in
      let on = progress-line m.rules shown now now' g.I.Input.is_known g.O.Output.is_known whole left line (later ++ rest) before held old new met none cut passes goes in
      let held' = g.O.Output.held c.give_if_enough.new.output in
      let new' = c.give_if_enough.new.answers.items in
      let given = progress-given m.rules shown now' g.I.Input.is_known g.O.Output.is_known whole (later ++ rest) before held held' new new' (met + 1)
      (λ ko. at-ok c.give_if_enough.result _ (sym c.is_err.ensures.value ∙ c.if-is_err.false) (c.give_if_enough.ensures.moved ko)) on in
      progress-left m.rules shown now' g.I.Input.is_known g.O.Output.is_known whole (later ++ rest) (c.skip.new.self ++ rest) before held' new' (met + 1)
      (λ _. ap (λ xs. xs ++ rest) (ap (λ xs. drop (count + 1) xs) c.octets-waiting.ensures ∙ sym c.skip.ensures.octets)) given;
}

pub returns-then-is_over_limits-clause-text : goal.returns-then-is_over_limits-clause-text
returns-then-is_over_limits-clause-text g c = λ ki ko.
    let m = g.M.Machine in
    let shown = m.shows c.args.machine.now in
    let now = m.shows c.loop-count.machine in
    let whole = g.I.Input.rest c.args.input.now in
    let before = g.O.Output.held c.args.output.now in
    let held = g.O.Output.held c.loop-count.output in
    let old = c.loop-count.answers.items in
    let met = c.loop-count.met in
    let rest = g.I.Input.rest c.loop-count.input in
    let left = c.loop-count.window ++ rest in
    let goes = c.loop-count.invariant.goes in
    let W = c.octets-waiting.result.now in
    let over : (later : List ℕ) → OfEach m.rules now (λ present. Prints m.rules met present (lines_of (c.loop-count.window ++ later)) m.rules.too_long Ended) =
    λ later. window-over m.rules now met (length W) c.loop-count.window W later c.is_over_limits.result
    c.octets-waiting.ensures refl c.if-looked-gt0.true c.in-None.ensures.none
    c.is_over_limits.ensures c.if-is_over_limits.true in
    at-given c.end_too_long.result Ended _ _ c.end_too_long.ensures.done (c.end_too_long.ensures.given ko)
    (λ given. text-of m.rules shown now g.I.Input.is_known g.O.Output.is_known whole left before held (g.O.Output.held c.end_too_long.new.output) old m.rules.too_long met Ended ki ko
    (over rest) given goes)

pub returns-then-is_over_limits-clause-front : goal.returns-then-is_over_limits-clause-front
returns-then-is_over_limits-clause-front g c = λ ki ko.
    let m = g.M.Machine in
    let shown = m.shows c.args.machine.now in
    let now = m.shows c.loop-count.machine in
    let whole = g.I.Input.rest c.args.input.now in
    let before = g.O.Output.held c.args.output.now in
    let held = g.O.Output.held c.loop-count.output in
    let old = c.loop-count.answers.items in
    let met = c.loop-count.met in
    let rest = g.I.Input.rest c.loop-count.input in
    let left = c.loop-count.window ++ rest in
    let goes = c.loop-count.invariant.goes in
    let W = c.octets-waiting.result.now in
    let over : (later : List ℕ) → OfEach m.rules now (λ present. Prints m.rules met present (lines_of (c.loop-count.window ++ later)) m.rules.too_long Ended) =
    λ later. window-over m.rules now met (length W) c.loop-count.window W later c.is_over_limits.result
    c.octets-waiting.ensures refl c.if-looked-gt0.true c.in-None.ensures.none
    c.is_over_limits.ensures c.if-is_over_limits.true in
    at-fault c.end_too_long.result _ _ (c.end_too_long.ensures.front ko)
    (λ part. front-of-last m.rules shown now g.I.Input.is_known g.O.Output.is_known whole left before held (g.O.Output.held c.end_too_long.new.output) old met ki ko
    (λ present sound is_shown. (m.rules.too_long, Ended, part, over rest present sound is_shown)) goes)

pub returns-then-is_over_limits-clause-left : goal.returns-then-is_over_limits-clause-left
returns-then-is_over_limits-clause-left g c = λ ki.
    let m = g.M.Machine in
    let shown = m.shows c.args.machine.now in
    let now = m.shows c.loop-count.machine in
    let whole = g.I.Input.rest c.args.input.now in
    let before = g.O.Output.held c.args.output.now in
    let held = g.O.Output.held c.loop-count.output in
    let old = c.loop-count.answers.items in
    let met = c.loop-count.met in
    let rest = g.I.Input.rest c.loop-count.input in
    let left = c.loop-count.window ++ rest in
    let goes = c.loop-count.invariant.goes in
    let W = c.octets-waiting.result.now in
    let over : (later : List ℕ) → OfEach m.rules now (λ present. Prints m.rules met present (lines_of (c.loop-count.window ++ later)) m.rules.too_long Ended) =
    λ later. window-over m.rules now met (length W) c.loop-count.window W later c.is_over_limits.result
    c.octets-waiting.ensures refl c.if-looked-gt0.true c.in-None.ensures.none
    c.is_over_limits.ensures c.if-is_over_limits.true in
    let none : length {A = ℕ} [] ≤ most_ahead = omega arith in
    at-done c.end_too_long.result Ended _ c.end_too_long.ensures.done
    (enough m.rules shown now g.I.Input.is_known g.O.Output.is_known whole left (c.loop-count.window ++ []) [] rest before held old m.rules.too_long met most_ahead Ended ki
    (ap (λ xs. xs ++ rest) (sym (append-nil c.loop-count.window))) none (over []) goes)

pub returns-in-Err-refill-clause-front : goal.returns-in-Err-refill-clause-front
returns-in-Err-refill-clause-front g c = λ ki ko.
    let m = g.M.Machine in
    let shown = m.shows c.args.machine.now in
    let now = m.shows c.loop-count.machine in
    let whole = g.I.Input.rest c.args.input.now in
    let before = g.O.Output.held c.args.output.now in
    let held = g.O.Output.held c.loop-count.output in
    let old = c.loop-count.answers.items in
    let met = c.loop-count.met in
    let rest = g.I.Input.rest c.loop-count.input in
    let left = c.loop-count.window ++ rest in
    let goes = c.loop-count.invariant.goes in
    front-of m.rules g.met.M.Machine.is_total shown now g.I.Input.is_known g.O.Output.is_known whole left before held (g.O.Output.held c.refill.new.output) old met ki ko
    (c.in-Err-refill.ensures.front ko) goes

pub returns-in-Ok-eq0-clause-text : goal.returns-in-Ok-eq0-clause-text
returns-in-Ok-eq0-clause-text g c = λ ki ko.
    let m = g.M.Machine in
    let shown = m.shows c.args.machine.now in
    let now = m.shows c.loop-count.machine in
    let whole = g.I.Input.rest c.args.input.now in
    let before = g.O.Output.held c.args.output.now in
    let held = g.O.Output.held c.loop-count.output in
    let old = c.loop-count.answers.items in
    let met = c.loop-count.met in
    let rest = g.I.Input.rest c.loop-count.input in
    let left = c.loop-count.window ++ rest in
    let goes = c.loop-count.invariant.goes in
    let O = c.octets.result.now in
    let held' = g.O.Output.held c.refill.new.output in
    let new = c.refill.new.answers.items in
    let none : c.in-Ok-eq0.field-0 ≡ 0 = omega arith in
    let at_end : g.I.Input.is_known → g.I.Input.rest c.refill.new.input ≡ [] = λ ki. c.in-Ok-eq0.ensures.end ki (ap (λ n. Ok n) none) in
    let last : g.I.Input.is_known → left ≡ O = λ ki. c.in-Ok-eq0.ensures.octets ki
    ∙ ap (λ xs. c.refill.new.window ++ xs) (at_end ki)
    ∙ append-nil c.refill.new.window ∙ sym c.octets.ensures in
    let given = progress-given m.rules shown now g.I.Input.is_known g.O.Output.is_known whole left before held held' old new met
    (λ ko. all-moved held held' old new (c.in-Ok-eq0.ensures.given ko) c.in-Ok-eq0.ensures.none) goes in
    let ready = progress-left m.rules shown now g.I.Input.is_known g.O.Output.is_known whole left O before held' new met last given in
    IfOk-weaker c.finish.result _ _
    (λ done end. text-of m.rules shown now g.I.Input.is_known g.O.Output.is_known whole O before held' (g.O.Output.held c.finish.new.output) new end.0 met done ki ko
    (λ present sound is_shown. (end.2 present sound is_shown).0) (end.1 ko) ready)
    c.finish.ensures.given

pub returns-in-Ok-eq0-clause-world : goal.returns-in-Ok-eq0-clause-world
returns-in-Ok-eq0-clause-world g c = λ ki is_whole.
    let m = g.M.Machine in
    let shown = m.shows c.args.machine.now in
    let now = m.shows c.loop-count.machine in
    let after = m.shows c.finish.new.machine in
    let whole = g.I.Input.rest c.args.input.now in
    let before = g.O.Output.held c.args.output.now in
    let held = g.O.Output.held c.loop-count.output in
    let old = c.loop-count.answers.items in
    let met = c.loop-count.met in
    let rest = g.I.Input.rest c.loop-count.input in
    let left = c.loop-count.window ++ rest in
    let goes = c.loop-count.invariant.goes in
    let O = c.octets.result.now in
    let held' = g.O.Output.held c.refill.new.output in
    let new = c.refill.new.answers.items in
    let none : c.in-Ok-eq0.field-0 ≡ 0 = omega arith in
    let at_end : g.I.Input.is_known → g.I.Input.rest c.refill.new.input ≡ [] = λ ki. c.in-Ok-eq0.ensures.end ki (ap (λ n. Ok n) none) in
    let last : g.I.Input.is_known → left ≡ O = λ ki. c.in-Ok-eq0.ensures.octets ki
    ∙ ap (λ xs. c.refill.new.window ++ xs) (at_end ki)
    ∙ append-nil c.refill.new.window ∙ sym c.octets.ensures in
    let given = progress-given m.rules shown now g.I.Input.is_known g.O.Output.is_known whole left before held held' old new met
    (λ ko. all-moved held held' old new (c.in-Ok-eq0.ensures.given ko) c.in-Ok-eq0.ensures.none) goes in
    let ready = progress-left m.rules shown now g.I.Input.is_known g.O.Output.is_known whole left O before held' new met last given in
    let end = at-result c.finish.result _ Whole is_whole c.finish.ensures.given in
    world-of m.rules shown now after g.I.Input.is_known g.O.Output.is_known whole O before held' (g.O.Output.held c.finish.new.output) new end.0 met ki
    (λ present sound is_shown. (end.2 present sound is_shown).1 refl) end.1 ready

pub returns-in-Ok-eq0-clause-front : goal.returns-in-Ok-eq0-clause-front
returns-in-Ok-eq0-clause-front g c = λ ki ko.
    let m = g.M.Machine in
    let shown = m.shows c.args.machine.now in
    let now = m.shows c.loop-count.machine in
    let whole = g.I.Input.rest c.args.input.now in
    let before = g.O.Output.held c.args.output.now in
    let held = g.O.Output.held c.loop-count.output in
    let old = c.loop-count.answers.items in
    let met = c.loop-count.met in
    let rest = g.I.Input.rest c.loop-count.input in
    let left = c.loop-count.window ++ rest in
    let goes = c.loop-count.invariant.goes in
    let O = c.octets.result.now in
    let held' = g.O.Output.held c.refill.new.output in
    let new = c.refill.new.answers.items in
    let none : c.in-Ok-eq0.field-0 ≡ 0 = omega arith in
    let at_end : g.I.Input.is_known → g.I.Input.rest c.refill.new.input ≡ [] = λ ki. c.in-Ok-eq0.ensures.end ki (ap (λ n. Ok n) none) in
    let last : g.I.Input.is_known → left ≡ O = λ ki. c.in-Ok-eq0.ensures.octets ki
    ∙ ap (λ xs. c.refill.new.window ++ xs) (at_end ki)
    ∙ append-nil c.refill.new.window ∙ sym c.octets.ensures in
    let given = progress-given m.rules shown now g.I.Input.is_known g.O.Output.is_known whole left before held held' old new met
    (λ ko. all-moved held held' old new (c.in-Ok-eq0.ensures.given ko) c.in-Ok-eq0.ensures.none) goes in
    let ready = progress-left m.rules shown now g.I.Input.is_known g.O.Output.is_known whole left O before held' new met last given in
    at-fault c.finish.result _ _ (c.finish.ensures.front ko)
    (λ closes. front-of-last m.rules shown now g.I.Input.is_known g.O.Output.is_known whole O before held' (g.O.Output.held c.finish.new.output) new met ki ko closes ready)

pub returns-in-Ok-eq0-clause-left : goal.returns-in-Ok-eq0-clause-left
returns-in-Ok-eq0-clause-left g c = λ ki.
    let m = g.M.Machine in
    let shown = m.shows c.args.machine.now in
    let now = m.shows c.loop-count.machine in
    let whole = g.I.Input.rest c.args.input.now in
    let before = g.O.Output.held c.args.output.now in
    let held = g.O.Output.held c.loop-count.output in
    let old = c.loop-count.answers.items in
    let met = c.loop-count.met in
    let rest = g.I.Input.rest c.loop-count.input in
    let left = c.loop-count.window ++ rest in
    let goes = c.loop-count.invariant.goes in
    let O = c.octets.result.now in
    let held' = g.O.Output.held c.refill.new.output in
    let new = c.refill.new.answers.items in
    let none : c.in-Ok-eq0.field-0 ≡ 0 = omega arith in
    let at_end : g.I.Input.is_known → g.I.Input.rest c.refill.new.input ≡ [] = λ ki. c.in-Ok-eq0.ensures.end ki (ap (λ n. Ok n) none) in
    let last : g.I.Input.is_known → left ≡ O = λ ki. c.in-Ok-eq0.ensures.octets ki
    ∙ ap (λ xs. c.refill.new.window ++ xs) (at_end ki)
    ∙ append-nil c.refill.new.window ∙ sym c.octets.ensures in
    let given = progress-given m.rules shown now g.I.Input.is_known g.O.Output.is_known whole left before held held' old new met
    (λ ko. all-moved held held' old new (c.in-Ok-eq0.ensures.given ko) c.in-Ok-eq0.ensures.none) goes in
    let ready = progress-left m.rules shown now g.I.Input.is_known g.O.Output.is_known whole left O before held' new met last given in
    let empty : length {A = ℕ} [] ≤ most_ahead = omega arith in
    let rest' = g.I.Input.rest c.refill.new.input in
    IfOk-weaker c.finish.result _ _
    (λ done end. enough m.rules shown now g.I.Input.is_known g.O.Output.is_known whole O O [] rest' before held' new end.0 met most_ahead done ki
    (sym (append-nil O) ∙ ap (λ xs. O ++ xs) (sym (at_end ki))) empty
    (λ present sound is_shown. (end.2 present sound is_shown).0) ready)
    c.finish.ensures.given

pub loop-count-preserved : goal.loop-count-preserved
loop-count-preserved g c = record {
  met = c.loop-count.invariant.met;
  bounded = c.in-Ok-refill.ensures.bounded;
  looked = omega (arith, ap length c.octets-waiting.ensures, c.in-Ok-refill.ensures.count);
  no_feed = none-longer c.octets-waiting.result.now c.loop-count.window c.refill.new.window c.octets-waiting.ensures c.in-Ok-refill.ensures.front_octets c.in-None.ensures.none;
  reading = c.in-Ok-refill.ensures.reading ∙ c.loop-count.invariant.reading;
  writing = c.in-Ok-refill.ensures.writing ∙ c.loop-count.invariant.writing;
  goes =
      let m = g.M.Machine in
      let shown = m.shows c.args.machine.now in
      let now = m.shows c.loop-count.machine in
      let whole = g.I.Input.rest c.args.input.now in
      let before = g.O.Output.held c.args.output.now in
      let held = g.O.Output.held c.loop-count.output in
      let old = c.loop-count.answers.items in
      let met = c.loop-count.met in
      let rest = g.I.Input.rest c.loop-count.input in
      let left = c.loop-count.window ++ rest in
      let goes = c.loop-count.invariant.goes in
      let held' = g.O.Output.held c.refill.new.output in
      let new = c.refill.new.answers.items in
      let given = progress-given m.rules shown now g.I.Input.is_known g.O.Output.is_known whole left before held held' old new met
      (λ ko. all-moved held held' old new (c.in-Ok-refill.ensures.given ko) c.in-Ok-refill.ensures.none) goes in
      progress-left m.rules shown now g.I.Input.is_known g.O.Output.is_known whole left (c.refill.new.window ++ g.I.Input.rest c.refill.new.input) before held' new met
      c.in-Ok-refill.ensures.octets given;
}
