-- What was read up to the last step is what was read.
use Rattle.std.proofs.Common.{Option, subst}
use Rattle.captures_text.specs.declared.reading_ahead.StopReason.{StopReason}
use Rattle.captures_text.specs.inner.Ahead.{StepsTo}
use Rattle.captures_text.proofs.ReadingLemmas.{reads_nothing}
use Rattle.captures_text.proofs.reading_ahead.ReadingAhead.read.Goals as goal

pub loop-stop-init : goal.loop-stop-init
loop-stop-init c = reads_nothing c.args.self.now c.args.cells.now.items

pub returns-in-Some : goal.returns-in-Some
returns-in-Some c =
    subst (λ (found : Option StopReason). StepsTo c.args.self.now c.step.new.self c.args.cells.now.items c.step.new.cells.items found) c.in-Some.is
    (c.in_ok-stop.ensures.reads c.args.self.now c.args.cells.now.items
    (c.read_usual.ensures.reads c.args.self.now c.args.cells.now.items c.loop-stop.invariant))
