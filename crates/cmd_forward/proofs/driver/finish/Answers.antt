-- The end of the input is reported.
use Rattle.captures_text.proofs.Progresses.{if_done}
use Rattle.cmd_forward.proofs.ForwardProgress.{said_at_last}
use Rattle.cmd_forward.proofs.driver.finish.Goals as goal

pub returns-in-Ok-clause-said : goal.returns-in-Ok-clause-said
returns-in-Ok-clause-said g c =
    let j = g.J.CellJudge in
    if_done c.give_last.result c.done_at.result _ c.give_last.ensures.done
    (said_at_last j.rules c.args.others (j.shows c.args.judge.now) c.args.reading.now c.octets.result.now c.summary.result c.end-ending.result c.done_at.result
    c.args.report.now.items c.close.new.report.items c.in-Ok.ensures c.summary.ensures c.octets.ensures c.requires c.end-ending.ensures c.done_at.ensures)
