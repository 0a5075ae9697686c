-- The line has the common form, so it is the command with this cell.
use Rattle.text_script.proofs.Public.{common-command}
use Rattle.text_script.proofs.cell_line.read_cell_line.Goals as goal

pub returns-in-Some : goal.returns-in-Some
returns-in-Some c =
    let found = common-command c.args.side c.args.line.now c.in-Some.arrival.moment c.in-Some.arrival.cell c.in-Some.ensures.cell in
    (found.0, found.1, found.2)
