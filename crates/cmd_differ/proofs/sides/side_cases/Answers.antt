use Rattle.std.proofs.lemmas.Result.{IfOk-weaker}
use Rattle.cmd_differ.proofs.SideSteps.{cases_shown}
use Rattle.cmd_differ.proofs.sides.side_cases.Goals as goal

pub returns : goal.returns
returns c =
    IfOk-weaker c.compare_sides.result _ _
    (λ cases are. cases_shown c.args.old.now c.args.new.now c.shown.result c.shown-2.result cases.items c.shown.ensures c.shown-2.ensures are) c.compare_sides.ensures
