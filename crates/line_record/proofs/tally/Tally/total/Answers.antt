use Rattle.std.proofs.Common.{◌+◌, drop, get_or, sym, ◌∙◌}
use Rattle.line_record.specs.Tally.{nothing, plus, total}
use Rattle.line_record.proofs.TotalLemmas.{total-from, FitsWords-part}
use Rattle.line_record.proofs.tally.Tally.total.Goals as goal

pub plus-sum-requires : goal.plus-sum-requires
plus-sum-requires c =
    let tallies = c.args.tallies.now in
    let place = c.loop-tally.tally-index in
    let from = total-from tallies place nothing c.loop-tally.sum c.loop-tally-test.true in
    FitsWords-part (plus c.loop-tally.sum (get_or tallies place nothing)) (total (drop (place + 1) tallies))
    (total tallies) (sym from ∙ c.loop-tally.invariant) c.requires

pub loop-tally-preserved : goal.loop-tally-preserved
loop-tally-preserved c =
    let from = total-from c.args.tallies.now c.loop-tally.tally-index nothing c.loop-tally.sum c.loop-tally-test.true in
    rw c.plus-sum.ensures (sym from ∙ c.loop-tally.invariant)
