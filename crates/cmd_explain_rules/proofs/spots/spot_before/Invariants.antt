-- Loop invariant: the place after the tokens so far leads to the one that is looked for.
use Rattle.std.proofs.Common.{◌≡◌, length}
use Rattle.cmd_explain_rules.specs.Spots.{first_spot, spot_from}
use Rattle.cmd_explain_rules.proofs.spots.spot_before.Given as goal

abbrev pub invariant-loop-left : goal.invariant-loop-left
invariant-loop-left l = spot_from l.column l.spot l.left ≡ spot_from l.column first_spot l.words

abbrev pub decreases-loop-left : goal.decreases-loop-left
decreases-loop-left l = length l.left
