-- The side of a card's cells.
use Rattle.std.specs.Prelude.{Option, Some, None}
use Rattle.upc_cell.specs.declared.side.Side.{Side}
use Rattle.cmd_run.specs.RunText.{RunWorld}

-- The side of the card's cells, if there is a card.
abbrev pub run_side : RunWorld → Option Side
run_side None = None
run_side (Some card) = Some card.world.shape.side
