use Rattle.std.proofs.Common.{arith}
use Rattle.cmd_rules.proofs.CommentsKept.{written_more}
use Rattle.cmd_rules.proofs.annotating.add_comments.Goals as goal

pub loop-comment-preserved : goal.loop-comment-preserved
loop-comment-preserved c =
    written_more c.args.left c.args.comments.now c.loop-comment.comment-index c.comment-item.result c.args.answers.now.items c.loop-comment.answers.items c.add_comment_if.new.answers.items (omega arith)
    c.comment-item.is c.loop-comment.invariant c.in_ok-add_comment_if.ensures
