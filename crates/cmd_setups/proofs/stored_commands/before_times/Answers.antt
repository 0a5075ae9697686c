-- One more line without a time is passed.
use Rattle.std.proofs.Common.{◌++◌, ◌+◌, ◌∷◌, ◌∙◌, List, ℕ, Option, Some, None, drop, length, length-append, take, ap, arith, subst, sym}
use Rattle.text_io.specs.Lines.{lines_of}
use Rattle.cmd_setups.specs.TimedLines.{octets_before_times}
use Rattle.cmd_setups.specs.inner.TimedScripts.{IsTimeOf}
use Rattle.cmd_setups.proofs.TimedLemmas.{passes_all, passes_line}
use Rattle.cmd_setups.proofs.stored_commands.before_times.Goals as goal

pub loop-octets-preserved : goal.loop-octets-preserved
loop-octets-preserved c =
    let script = c.args.script.now in
    let times = c.args.times.now in
    let left = c.loop-octets.left.now in
    let at = c.loop-octets.at in
    let met = c.loop-octets.met in
    let whole = c.in-Some.octets.now in
    let rest = c.in-Some.rest.now in
    let had = c.loop-octets.invariant in
    let time : IsTimeOf times met (Some None) =
    subst (λ (time : Option ℕ). IsTimeOf times met (Some time)) c.in-Some-None.field-0-is c.in-Some-None.ensures in
    let found = ap (λ (later : List (Option ℕ)). take at script ++ octets_before_times later (lines_of left)) (sym time.0) ∙ had.found in
    let size = ap (λ (xs : List ℕ). length xs) c.in-Some.ensures.whole in
    record {
      counted = omega (arith, had.counted, size, length-append whole rest);
      met = omega (arith, time.1);
      split = passes_all script left whole rest at had.counted had.split c.in-Some.ensures.whole;
      found = passes_line script left c.in-Some.field-0-0.now whole rest times (drop (met + 1) times) c.in-Some.field-0-1 at had.counted had.split
          c.in-Some.ensures.whole c.in-Some.ensures.lines found;
    }
