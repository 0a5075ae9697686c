use Rattle.cmd_rules.proofs.CommentsAdded.{comments_mean_nothing}
use Rattle.cmd_rules.proofs.laws.comment_lines_mean_nothing.Goals as goal

pub returns : goal.returns
returns c = comments_mean_nothing
