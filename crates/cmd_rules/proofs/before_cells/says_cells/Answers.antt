use Rattle.std.proofs.Common.{rules}
use Rattle.cmd_rules.proofs.WhySteps.{one_word, silent_line, several_line}
use Rattle.cmd_rules.proofs.before_cells.says_cells.Goals as goal

pub returns-in-One : goal.returns-in-One
returns-in-One c =
    one_word c.args.content.now c.before_comment.result.now c.in-One.word.now c.eq.result c.before_comment.ensures c.in-One.ensures.1 (search rules)

pub returns-in-Silent : goal.returns-in-Silent
returns-in-Silent c = silent_line c.args.content.now c.before_comment.result.now c.before_comment.ensures c.in-Silent.ensures

pub returns-in-Several : goal.returns-in-Several
returns-in-Several c =
    several_line c.args.content.now c.before_comment.result.now _ _ _ c.before_comment.ensures c.in-Several.ensures.1.3
