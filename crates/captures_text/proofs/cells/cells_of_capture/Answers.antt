-- The run shows the state at first.
use Rattle.std.proofs.Common.{refl}
use Rattle.captures_text.specs.CellsText.{cells_start}
use Rattle.captures_text.proofs.cells.cells_of_capture.Goals as goal

pub returns : goal.returns
returns g c = c.follow_cells.ensures (cells_start c.args.numbered) tt refl
