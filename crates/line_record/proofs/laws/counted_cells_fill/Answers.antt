use Rattle.line_record.proofs.FillLemmas.{counted-fill}
use Rattle.line_record.proofs.laws.counted_cells_fill.Goals as goal

pub returns : goal.returns
returns c = counted-fill
