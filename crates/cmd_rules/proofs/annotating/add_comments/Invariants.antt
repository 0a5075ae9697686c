use Rattle.std.proofs.Common.{◌≡◌, ◌++◌, take}
use Rattle.cmd_rules.specs.inner.Comments.{written_at}
use Rattle.cmd_rules.proofs.annotating.add_comments.Given as goal

abbrev pub invariant-loop-comment : goal.invariant-loop-comment
invariant-loop-comment l = l.answers.items ≡ l.fn.answers.items ++ written_at l.left (take l.comment-index l.comments)
