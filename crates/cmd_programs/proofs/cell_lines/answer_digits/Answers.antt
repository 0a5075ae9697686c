-- The answer to a line of digits alone is that of the cell.
use Rattle.text_io.specs.declared.machine.Turn.TheVariants.{GoesOn}
use Rattle.cmd_programs.specs.AfterProgram.{LaterLine}
use Rattle.cmd_programs.specs.CellLines.{cell_texts}
use Rattle.cmd_programs.proofs.CellLineLemmas.{adds-onward, digits-answered}
use Rattle.cmd_programs.proofs.cell_lines.answer_digits.Goals as goal

pub returns-in-Some : goal.returns-in-Some
returns-in-Some g c =
    let prints = g.C.CellUser.prints in
    let code = g.C.CellUser.code c.args.user.now in
    adds-onward c.answer_cell.result (prints code c.in-Some.cell) (λ here. LaterLine (cell_texts prints) code c.args.line.now here GoesOn)
    c.args.answers.now.items c.answer_cell.new.answers.items
    (λ text. digits-answered prints code c.args.line.now c.in-Some.cell text c.in-Some.ensures.cell) c.answer_cell.ensures
