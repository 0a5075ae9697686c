-- The cards that C may make.
use Rattle.std.specs.Prelude.{◌≡◌, ◌⊎◌, ◌<◌, Some}
use Rattle.card_core.specs.Agreement.{CoreView, CoreAgrees}
use Rattle.card_core.specs.Shapes.{shape_fault}
use Rattle.card_core.specs.World.{opening_world}
use Rattle.card_core.specs.declared.fault.CardFault.{CardFault}
use Rattle.card_core.specs.declared.fault.CardFault.TheVariants.{Programs, Lines, Ports, Journal, NoMemory}
use Rattle.card_core.specs.declared.shape.Shape.{Shape}
use Rattle.upc_c.specs.CellHeader.{side_number}
use Rattle.upc_c.specs.Faults.{plain_fault, out_of_memory, unknown_side}
use Rattle.upc_c.specs.declared.fault.UpcFault.{UpcFault}
use Rattle.upc_c.specs.declared.shape.UpcShape.{UpcShape}

-- The shape with these numbers.
abbrev pub IsShapeOf : UpcShape → Shape → Type 0
IsShapeOf given shape = given ≡ record {
  side = side_number shape.side;
  programs = shape.programs;
  lines = shape.lines;
  ports = shape.ports;
  journal = shape.journal;
}

-- The core is that of an empty card with these numbers.
abbrev pub IsEmptyCard : UpcShape → CoreView → Type 0
IsEmptyCard given core = (shape : Shape) × IsShapeOf given shape × CoreAgrees core (opening_world shape)

-- The reason why a card can't be made, as an error for C.
abbrev pub card_fault_for_c : CardFault → UpcFault
card_fault_for_c Programs = plain_fault 9 1 0
card_fault_for_c Lines = plain_fault 9 2 0
card_fault_for_c Ports = plain_fault 9 3 0
card_fault_for_c Journal = plain_fault 9 4 0
card_fault_for_c NoMemory = out_of_memory

-- The error if no card was made: the side is unknown; else that of the first number out of its limits; or an allocation
-- failed.
abbrev pub IsNoCard : UpcShape → UpcFault → Type 0
IsNoCard given fault =
    ((3 < given.side) × (fault ≡ unknown_side))
    ⊎ ((shape : Shape) × IsShapeOf given shape × (found : CardFault) × (shape_fault shape ≡ Some found) × (fault ≡ card_fault_for_c found))
    ⊎ (fault ≡ out_of_memory)
