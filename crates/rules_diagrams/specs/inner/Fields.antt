-- The bits of a cell that a field is.
use Rattle.std.specs.Prelude.{◌≡◌, ◌≤◌, ℕ, ◌+◌, List}
use Rattle.rules_cells.specs.Fields.{IsCell, number_in}
use Rattle.rules_cells.specs.declared.field.Field.{Field}
use Rattle.upc_cell.specs.declared.side.Side.{Side}
use Rattle.rules_diagrams.specs.CellNumbers.{octets_number}
use Rattle.rules_diagrams.specs.inner.Spans.{bits_number}
use Rattle.rules_diagrams.specs.declared.span.Bits.{Bits}

-- The number of the field is that of these bits.
pub record AreBitsOf (side : Side) (field : Field) (bits : Bits) : Type 0 where
  pub width : bits.width ≤ 32
  pub inside : bits.bit + bits.width ≤ 416
  pub number : (cell : List ℕ) → IsCell cell → number_in side field cell ≡ bits_number (octets_number cell) bits.bit bits.width
