use Rattle.std.proofs.Common.{◌≡◌, ◌≤◌, ◌*◌, ◌^◌, take}
use Rattle.card_core.specs.Sums.{totals_of}
use Rattle.card_core.proofs.sums.totals_of.Given as goal

abbrev pub invariant-loop-line : goal.invariant-loop-line
invariant-loop-line l = record {
  sums : record { passed = l.passed; tagged = l.tagged; discarded = l.discarded; refused = l.refused } ≡ totals_of (take l.line-index l.lines);
  passed : l.passed ≤ l.line-index * 2 ^ 64;
  tagged : l.tagged ≤ l.line-index * 2 ^ 64;
  discarded : l.discarded ≤ l.line-index * 2 ^ 64;
  refused : l.refused ≤ l.line-index * 2 ^ 64;
}
