-- The law is a lemma.
use Rattle.cmd_police.proofs.SpanRows.{rows_count_cells}
use Rattle.cmd_police.proofs.laws.rows_count_cells.Goals as goal

pub returns : goal.returns
returns c = rows_count_cells
