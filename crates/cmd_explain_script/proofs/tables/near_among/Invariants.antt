-- Loop invariant: the rows so far have words that aren't near.
use Rattle.std.proofs.Common.{◌≡◌, length, map}
use Rattle.cmd_explain_script.specs.Tables.{near_among}
use Rattle.cmd_explain_script.proofs.tables.near_among.Given as goal

abbrev pub invariant-loop-left : goal.invariant-loop-left
invariant-loop-left g l = near_among l.word (map (λ row. (row.0.now, row.1)) l.left) ≡ near_among l.word (map (λ row. (row.0.now, row.1)) l.rows)

abbrev pub decreases-loop-left : goal.decreases-loop-left
decreases-loop-left g l = length l.left
