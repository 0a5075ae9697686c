-- The diagram of the values of a program.
use Rattle.std.specs.Prelude.{◌≡◌, ℕ, if◌then◌else◌, List}
use Rattle.bpf_code.specs.declared.instr.Instr.{Instr}
use Rattle.bpf_code.specs.declared.instr.Test.{Test}
use Rattle.bpf_interp.specs.Tests.{test_of}
use Rattle.bpf_interp.specs.Value.{Value}
use Rattle.rules_cells.specs.Fields.{IsCell}
use Rattle.rules_diagrams.specs.CellNumbers.{octets_number}
use Rattle.rules_diagrams.specs.inner.Values.{diagram_value, IsWithin}
use Rattle.rules_diagrams.specs.inner.Words.{word_number}
use Rattle.rules_diagrams.specs.declared.diagram.Diagram.{Diagram}
use Rattle.rules_diagrams.specs.declared.diagram.Node.{Node}
use Rattle.rules_diagrams.specs.declared.word.Bit.{Bit}

-- The diagram gives each cell the value of the code.
pub record GivesValue (nodes : List Node) (code : List Instr) (diagram : Diagram) : Type 0 where
  pub within : IsWithin nodes diagram
  pub value : (cell : List ℕ) → IsCell cell → (steps : ℕ) × Value code cell (diagram_value nodes diagram (octets_number cell)) steps

-- The diagram gives each cell the number of one of two diagrams: of `one` if the test of bits with a constant is true, of `other` if it is
-- false.
pub record IsBranch (old new : List Node) (test : Test) (bits : List Bit) (k : ℕ) (one other made : Diagram) : Type 0 where
  pub within : IsWithin new made
  pub value : (cell : ℕ) → diagram_value new made cell ≡ (if test_of test (word_number bits cell) k then diagram_value old one cell else diagram_value old other cell)
