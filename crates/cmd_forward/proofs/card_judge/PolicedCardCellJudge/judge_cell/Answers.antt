use Rattle.cmd_forward.proofs.card_judge.PolicedCardCellJudge.judge_cell.Goals as goal

pub returns : goal.returns
returns c = λ world led shown.
    let on = c.in_ok-verdict.ensures world led shown in
    (on.0, on.1, (c.in_ok-verdict.verdict, on.2, c.onward_by.ensures))
