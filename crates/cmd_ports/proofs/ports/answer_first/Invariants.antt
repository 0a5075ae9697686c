-- The lines so far were answered, and none of them is a cell line.
use Rattle.std.proofs.Common.{length}
use Rattle.text_io.specs.Devices.{Adds}
use Rattle.cmd_ports.specs.inner.Script.{OfLines}
use Rattle.cmd_ports.proofs.FirstLemmas.{IsFirst}
use Rattle.cmd_ports.proofs.ports.answer_first.Given as goal

abbrev pub invariant-loop-line : goal.invariant-loop-line
invariant-loop-line g l =
    Adds (λ text. OfLines l.lines (λ whole. IsFirst l.card.side whole l.rest l.fn.desk.names l.desk.names text)) l.fn.answers.items l.answers.items

abbrev pub decreases-loop-line : goal.decreases-loop-line
decreases-loop-line g l = length l.rest
