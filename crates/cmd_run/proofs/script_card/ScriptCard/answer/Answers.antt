-- The cell of the line is policed.
use Rattle.text_script.proofs.Public.{cell-line}
use Rattle.cmd_run.proofs.LineLemmas.{moves-cell_line}
use Rattle.cmd_run.proofs.MovesLemmas.{on-ok}
use Rattle.cmd_run.proofs.script_card.ScriptCard.answer.Goals as goal

pub returns-in-Some : goal.returns-in-Some
returns-in-Some c =
    let line = c.args.line.now in
    let moment = c.in-Some.arrival.moment in
    let cell = c.in-Some.arrival.cell in
    let is = c.in-Some.ensures.cell in
    let spells = cell-line line is.0 is.1 moment cell is.2 is.3 is.4 in
    on-ok c.police.result c.police.ensures (λ moves. moves-cell_line line moment cell _ _ _ _ spells moves)
