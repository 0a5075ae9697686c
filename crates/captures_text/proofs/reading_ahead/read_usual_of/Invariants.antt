-- Loop invariant: the usual records so far were read.
use Rattle.std.proofs.Common.{◌≤◌, ◌-◌, length}
use Rattle.captures_text.specs.inner.Ahead.{ReadsUsual}
use Rattle.captures_text.proofs.reading_ahead.read_usual_of.Given as goal

abbrev pub invariant-loop-cells : goal.invariant-loop-cells
invariant-loop-cells l = (l.place ≤ length l.octets)
    × ReadsUsual l.fn.link_clock l.fn.reader l.octets l.fn.cells.items (record { reader = l.reader; clock = l.clock; place = l.place }) l.cells.items

-- Each record has some octets.
abbrev pub decreases-loop-cells : goal.decreases-loop-cells
decreases-loop-cells l = length l.octets - l.place
