-- Each turn of the loop keeps its invariant, and each exit says a text of the whole.
use Rattle.std.proofs.Common.{◌≡◌, ◌++◌, ℕ, List, [], Some, Ok, refl, ap, sym, ◌∙◌, subst, arith, append-nil}
use Rattle.captures.specs.Reading.{EndsReading}
use Rattle.captures_text.specs.CaptureText.{done_at}
use Rattle.captures_text.proofs.Progresses.{begun, if_done, if_given}
use Rattle.text_io.specs.declared.ending.Done.TheVariants.{Ended}
use Rattle.cmd_fit.specs.inner.LinkStates.{links_state}
use Rattle.cmd_fit.specs.LinksText.{links_lines}
use Rattle.cmd_fit.specs.declared.link_table.LinkTable.{LinkTable}
use Rattle.cmd_fit.specs.declared.links_reading.StepOutcome.{StepOutcome}
use Rattle.cmd_fit.specs.declared.links_reading.StepOutcome.TheVariants as outcome
use Rattle.cmd_fit.specs.inner.LinksSteps.{ReadsFrame, LinksHere, StepsLinks, WantsMore}
use Rattle.cmd_fit.proofs.LinksOfOctets.{end_before, fault_before, goes_near, goes_shorter, wants_none}
use Rattle.cmd_fit.proofs.LinksProgress.{enough_of, read_more, read_on, read_still, said_of, with_near}
use Rattle.cmd_fit.proofs.links_driver.read_on.Goals as goal

pub loop-reading-init : goal.loop-reading-init
loop-reading-init g c = record {
  bounded = c.requires;
  near = omega arith;
  read = refl;
  silent = refl;
  goes = begun (LinksHere c.args.reading) g.I.Input.is_known (Unit {0}) c.args.reading.window (g.I.Input.rest c.args.input.now) [];
}

pub loop-reading-preserved-in-Ok-GoesOn : goal.loop-reading-preserved-in-Ok-GoesOn
loop-reading-preserved-in-Ok-GoesOn g c =
    let before = c.loop-reading.reading in
    let on : ReadsFrame before c.step.new.self = subst (λ (how : StepOutcome). StepsLinks before how c.step.new.self) c.in-Ok-GoesOn.field-0-is c.in-Ok-GoesOn.ensures in
    record {
      bounded = goes_shorter before c.step.new.self 524288 on c.loop-reading.invariant.bounded;
      near = goes_near before c.step.new.self on;
      read = c.loop-reading.invariant.read;
      silent = c.loop-reading.invariant.silent;
      goes = read_on c.args.reading before c.step.new.self g.I.Input.is_known (g.I.Input.rest c.args.input.now) (g.I.Input.rest c.loop-reading.input)
          c.loop-reading.invariant.goes on;
    }

pub returns-in-Ok-Broken-clause-text : goal.returns-in-Ok-Broken-clause-text
returns-in-Ok-Broken-clause-text g c = λ ki.
    let before = c.loop-reading.reading in
    let after = c.step.new.self in
    let fault = c.in-Ok-Broken.fault in
    let broken : StepsLinks before (outcome.Broken fault) after = subst (λ (how : StepOutcome). StepsLinks before how after) c.in-Ok-Broken.field-0-is c.in-Ok-Broken.ensures in
    let here = links_lines (links_state before.table) (Some fault) in
    let said = fault_before (links_state before.table) before.reader after.reader fault before.window (g.I.Input.rest c.loop-reading.input) broken.0 in
    let whole = said_of c.args.reading before g.I.Input.is_known (g.I.Input.rest c.args.input.now) (g.I.Input.rest c.loop-reading.input) here Ended
    c.loop-reading.invariant.goes ki said in
    if_given c.finish.result Ended _ _ c.finish.ensures.done c.finish.ensures.said
    (λ gives. (
      here,
      gives ∙ ap (λ (t : LinkTable). c.loop-reading.answers.items ++ links_lines (links_state t) (Some fault)) broken.1 ∙ ap (λ xs. xs ++ here) c.loop-reading.invariant.silent,
      whole,
    ))

pub returns-in-Ok-Broken-clause-left : goal.returns-in-Ok-Broken-clause-left
returns-in-Ok-Broken-clause-left g c = λ ki.
    let before = c.loop-reading.reading in
    let after = c.step.new.self in
    let fault = c.in-Ok-Broken.fault in
    let broken : StepsLinks before (outcome.Broken fault) after = subst (λ (how : StepOutcome). StepsLinks before how after) c.in-Ok-Broken.field-0-is c.in-Ok-Broken.ensures in
    let here = links_lines (links_state before.table) (Some fault) in
    let said = fault_before (links_state before.table) before.reader after.reader fault before.window [] broken.0 in
    if_done c.finish.result Ended _ c.finish.ensures.done
    (enough_of c.args.reading before g.I.Input.is_known (g.I.Input.rest c.args.input.now) (g.I.Input.rest c.loop-reading.input) here Ended
    c.loop-reading.invariant.goes ki said)

pub returns-in-Ok-eq0-clause-text : goal.returns-in-Ok-eq0-clause-text
returns-in-Ok-eq0-clause-text g c = λ ki.
    let before = c.loop-reading.reading in
    let still = c.step.new.self in
    let near = c.fill.new.self in
    let after = with_near still near in
    let rest = g.I.Input.rest c.loop-reading.input in
    let rest' = g.I.Input.rest c.fill.new.input in
    let zero : c.in-Ok-eq0.field-0 ≡ 0 = omega arith in
    let same : near ≡ still.window = c.in-Ok-eq0.ensures.none (ap (λ n. Ok n) zero) in
    let at_end : rest' ≡ [] = c.in-Ok-eq0.ensures.end ki (ap (λ n. Ok n) zero) in
    let wants : WantsMore before still = subst (λ (how : StepOutcome). StepsLinks before how still) c.in-Ok-NeedsOctets.field-0-is c.in-Ok-NeedsOctets.ensures in
    let waits : c.octets.result.now ≡ near = c.octets.ensures in
    let ending = c.end-ending.result in
    let ends : EndsReading still.reader.format still.reader.at near ending =
    subst (λ (xs : List ℕ). EndsReading still.reader.format still.reader.at xs ending) waits
    (c.end-ending.ensures (wants_none before still c.octets.result.now wants (waits ∙ same)))
    in
    let here = links_lines (links_state still.table) ending in
    let said : LinksHere after (near ++ rest') here (done_at ending) =
    subst (λ (xs : List ℕ). LinksHere after xs here (done_at ending)) (sym (append-nil near) ∙ ap (λ xs. near ++ xs) (sym at_end))
    (end_before (links_state still.table) still.reader.format still.reader.count still.reader.at near ending ends)
    in
    let p = read_more c.args.reading still near g.I.Input.is_known (g.I.Input.rest c.args.input.now) rest rest'
    (read_still c.args.reading before still g.I.Input.is_known (g.I.Input.rest c.args.input.now) rest c.loop-reading.invariant.goes wants)
    c.in-Ok-eq0.ensures.front c.in-Ok-eq0.ensures.octets in
    let whole = said_of c.args.reading after g.I.Input.is_known (g.I.Input.rest c.args.input.now) rest' here (done_at ending) p ki said in
    if_given c.finish-in-Ok-eq0.result (done_at ending) _ _ c.finish-in-Ok-eq0.ensures.done c.finish-in-Ok-eq0.ensures.said
    (λ gives. (here, gives ∙ ap (λ xs. xs ++ here) c.loop-reading.invariant.silent, whole))

pub returns-in-Ok-eq0-clause-left : goal.returns-in-Ok-eq0-clause-left
returns-in-Ok-eq0-clause-left g c = λ ki.
    let before = c.loop-reading.reading in
    let still = c.step.new.self in
    let near = c.fill.new.self in
    let after = with_near still near in
    let rest = g.I.Input.rest c.loop-reading.input in
    let rest' = g.I.Input.rest c.fill.new.input in
    let zero : c.in-Ok-eq0.field-0 ≡ 0 = omega arith in
    let same : near ≡ still.window = c.in-Ok-eq0.ensures.none (ap (λ n. Ok n) zero) in
    let wants : WantsMore before still = subst (λ (how : StepOutcome). StepsLinks before how still) c.in-Ok-NeedsOctets.field-0-is c.in-Ok-NeedsOctets.ensures in
    let waits : c.octets.result.now ≡ near = c.octets.ensures in
    let ending = c.end-ending.result in
    let ends : EndsReading still.reader.format still.reader.at near ending =
    subst (λ (xs : List ℕ). EndsReading still.reader.format still.reader.at xs ending) waits
    (c.end-ending.ensures (wants_none before still c.octets.result.now wants (waits ∙ same)))
    in
    let here = links_lines (links_state still.table) ending in
    let said : LinksHere after (near ++ []) here (done_at ending) =
    subst (λ (xs : List ℕ). LinksHere after xs here (done_at ending)) (sym (append-nil near))
    (end_before (links_state still.table) still.reader.format still.reader.count still.reader.at near ending ends)
    in
    let p = read_more c.args.reading still near g.I.Input.is_known (g.I.Input.rest c.args.input.now) rest rest'
    (read_still c.args.reading before still g.I.Input.is_known (g.I.Input.rest c.args.input.now) rest c.loop-reading.invariant.goes wants)
    c.in-Ok-eq0.ensures.front c.in-Ok-eq0.ensures.octets in
    if_done c.finish-in-Ok-eq0.result (done_at ending) _ c.finish-in-Ok-eq0.ensures.done
    (enough_of c.args.reading after g.I.Input.is_known (g.I.Input.rest c.args.input.now) rest' here (done_at ending) p ki said)

pub loop-reading-preserved : goal.loop-reading-preserved
loop-reading-preserved g c =
    let before = c.loop-reading.reading in
    let still = c.step.new.self in
    let rest = g.I.Input.rest c.loop-reading.input in
    let wants : WantsMore before still = subst (λ (how : StepOutcome). StepsLinks before how still) c.in-Ok-NeedsOctets.field-0-is c.in-Ok-NeedsOctets.ensures in
    record {
      bounded = c.in-Ok.ensures.bounded;
      near = omega (arith, wants.place.at, c.loop-reading.invariant.near);
      read = c.in-Ok.ensures.calm ∙ c.loop-reading.invariant.read;
      silent = c.loop-reading.invariant.silent;
      goes = read_more c.args.reading still c.fill.new.self g.I.Input.is_known (g.I.Input.rest c.args.input.now) rest (g.I.Input.rest c.fill.new.input)
          (read_still c.args.reading before still g.I.Input.is_known (g.I.Input.rest c.args.input.now) rest c.loop-reading.invariant.goes wants)
          c.in-Ok.ensures.front c.in-Ok.ensures.octets;
    }
