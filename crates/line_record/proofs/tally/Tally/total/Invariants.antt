use Rattle.std.proofs.Common.{◌≡◌, drop}
use Rattle.line_record.specs.Tally.{plus, total}
use Rattle.line_record.proofs.tally.Tally.total.Given as goal

abbrev pub invariant-loop-tally : goal.invariant-loop-tally
invariant-loop-tally l = plus l.sum (total (drop l.tally-index l.tallies)) ≡ total l.tallies
