-- Diagrams of tests of a number.
use Rattle.std.specs.Prelude.{◌≡◌, ℕ, Bool, true, false, List}
use Rattle.bpf_code.specs.declared.instr.Test.{Test}
use Rattle.bpf_code.specs.declared.instr.Test.TheVariants.{Eq, Gt, Ge, Set}
use Rattle.rules_diagrams.specs.inner.Spans.{truth}
use Rattle.rules_diagrams.specs.inner.Values.{diagram_value, IsWithin}
use Rattle.rules_diagrams.specs.inner.Words.{bit_in, word_number, test_after, test_bits}
use Rattle.rules_diagrams.specs.declared.diagram.Diagram.{Diagram}
use Rattle.rules_diagrams.specs.declared.diagram.Node.{Node}
use Rattle.rules_diagrams.specs.declared.word.Bit.{Bit}

-- The diagram gives 1 to the cells for which the function is true, 0 to all others.
pub record GivesTruth (nodes : List Node) (test : ℕ → Bool) (diagram : Diagram) : Type 0 where
  pub within : IsWithin nodes diagram
  pub value : (cell : ℕ) → diagram_value nodes diagram cell ≡ truth (test cell)

-- What the test of no bits gives.
abbrev pub test_of_none : Test → Bool
test_of_none Eq = true
test_of_none Gt = false
test_of_none Ge = true
test_of_none Set = false

-- The diagram shows the test of two bits, above those that another diagram shows.
abbrev pub IsStepped : List Node → List Node → Test → Bit → Bool → Diagram → Diagram → Type 0
IsStepped old new test bit other lower made = (before : ℕ → Bool) → GivesTruth old before lower → GivesTruth new (λ cell. test_bits test (bit_in bit cell) other (before cell)) made

-- The diagram shows the test of bits with a constant, above those that another diagram shows.
abbrev pub IsTestedAfter : List Node → List Node → Test → List Bit → ℕ → Diagram → Diagram → Type 0
IsTestedAfter old new test bits k lower made = (before : ℕ → Bool) → GivesTruth old before lower → GivesTruth new (λ cell. test_after test (word_number bits cell) k (before cell)) made
