-- Rates of cells. A rate is exactly `units_of` / `units_per_cell` cells a second.
use Rattle.std.specs.Prelude.{ℕ}
use Rattle.cmd_size.specs.declared.figures.CellRate.{CellRate}
use Rattle.cmd_size.specs.declared.figures.CellRate.TheVariants.{Cells, Bits}

-- The units a second: cells, or bits.
abbrev pub units_of : CellRate → ℕ
units_of (Cells count) = count
units_of (Bits count) = count

-- The units in a cell. On the line a cell has 53 octets, so 424 bits.
abbrev pub units_per_cell : CellRate → ℕ
units_per_cell (Cells count) = 1
units_per_cell (Bits count) = 424
