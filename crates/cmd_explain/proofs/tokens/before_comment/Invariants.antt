-- Loop invariant: the octets so far are before the comment.
use Rattle.std.proofs.Common.{◌≡◌, ◌+◌, ◌==◌, length}
use Rattle.std.specs.List.{position_or_len}
use Rattle.cmd_explain.proofs.tokens.before_comment.Given as goal

abbrev pub invariant-loop-left : goal.invariant-loop-left
invariant-loop-left l = record {
  whole : l.size + length l.left ≡ length l.line;
  place : l.size + position_or_len (λ o. o == 59) l.left ≡ position_or_len (λ o. o == 59) l.line;
}

abbrev pub decreases-loop-left : goal.decreases-loop-left
decreases-loop-left l = length l.left
