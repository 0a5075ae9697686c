-- What one instruction makes of what is known of a machine.
use Rattle.std.specs.Prelude.{◌≡◌, ◌<◌, ℕ, ◌+◌, if◌then◌else◌, List, Option, Some, None, slice_get}
use Rattle.bpf_code.specs.declared.instr.By.{By}
use Rattle.bpf_code.specs.declared.instr.Instr.{Instr}
use Rattle.bpf_code.specs.declared.instr.Op.{Op}
use Rattle.bpf_code.specs.declared.instr.Op.TheVariants.{Add, Sub, Mul, Div, Mod}
use Rattle.bpf_interp.specs.Arithmetic.{result_of}
use Rattle.bpf_interp.specs.Operand.{operand_of}
use Rattle.bpf_interp.specs.Packet.{number_at}
use Rattle.bpf_interp.specs.ScratchMemory.{word_in}
use Rattle.bpf_interp.specs.State.{State, At, Ended}
use Rattle.bpf_interp.specs.Step.{Does, LoadsNumber}
use Rattle.bpf_interp.specs.Tests.{test_of}
use Rattle.bpf_interp.specs.Value.{EndsIn}
use Rattle.rules_cells.specs.Fields.{IsCell}
use Rattle.rules_diagrams.specs.CellNumbers.{octets_number}
use Rattle.rules_diagrams.specs.inner.Registers.{at_with}
use Rattle.rules_diagrams.specs.inner.Values.{diagram_value, IsWithin}
use Rattle.rules_diagrams.specs.inner.Words.{word_number}
use Rattle.rules_diagrams.specs.declared.contents.Contents.{Contents}
use Rattle.rules_diagrams.specs.declared.contents.Followed.{Followed}
use Rattle.rules_diagrams.specs.declared.contents.Followed.TheVariants.{Ends, Continues, Branches, Stops}
use Rattle.rules_diagrams.specs.declared.contents.Made.{Made}
use Rattle.rules_diagrams.specs.declared.contents.Made.TheVariants.{Word, Ends as MadeEnd, Unknown}
use Rattle.rules_diagrams.specs.declared.contents.Register.{Register}
use Rattle.rules_diagrams.specs.declared.contents.DiagramAt.{DiagramAt}
use Rattle.rules_diagrams.specs.declared.diagram.Node.{Node}
use Rattle.rules_diagrams.specs.declared.word.Bit.{Bit}

-- For this cell, A, X and the scratch words that are known are these.
pub record AreContents (contents : Contents) (cell a x : ℕ) (m : List (ℕ × ℕ)) : Type 0 where
  pub a_is : word_number contents.a cell ≡ a
  pub x_is : word_number contents.x cell ≡ x
  pub scratch : (index : ℕ) (word : List Bit) → slice_get contents.scratch index ≡ Some (Some word) → word_in m index ≡ Some (word_number word cell)

-- The condition is true of each cell, and of each machine with these contents.
abbrev pub OnEach : Contents → (List ℕ → ℕ → ℕ → List (ℕ × ℕ) → Type 0) → Type 0
OnEach contents is = (cell : List ℕ) → IsCell cell → (a x : ℕ) (m : List (ℕ × ℕ)) → AreContents contents (octets_number cell) a x m → is cell a x m

-- The instruction leads to a place, with these contents.
pub record LeadsWith (i : Instr) (place next : ℕ) (after : Contents) (cell : List ℕ) (a x : ℕ) (m : List (ℕ × ℕ)) : Type 0 where
  pub new_a : ℕ
  pub new_x : ℕ
  pub new_m : List (ℕ × ℕ)
  pub does : Does cell i place a x m (At next new_a new_x new_m)
  pub contents : AreContents after (octets_number cell) new_a new_x new_m

-- What was followed is what the instruction does at this place, for each cell.
abbrev pub IsFollowed : Instr → ℕ → Contents → Followed → Type 0
IsFollowed i place contents (Ends value) = OnEach contents (λ cell a x m. Does cell i place a x m (Ended value))
IsFollowed i place contents (Continues next after) = OnEach contents (LeadsWith i place next after)
IsFollowed i place contents (Branches test k one other) = OnEach contents (λ cell a x m. Does cell i place a x m (At (if test_of test a k then one else other) a x m))
IsFollowed i place contents Stops = Unit {0}

-- The instruction puts these bits into the register, at each place.
abbrev pub PutsInto : Register → Instr → Contents → List Bit → Type 0
PutsInto register i contents bits = (place : ℕ) → OnEach contents (λ cell a x m. Does cell i place a x m (at_with register (place + 1) (word_number bits (octets_number cell)) a x m))

-- The instruction puts this word into the register, or ends the program.
abbrev pub IsPutInto : Register → Instr → Contents → Made → Type 0
IsPutInto register i contents (Word word) = PutsInto register i contents word
IsPutInto register i contents (MadeEnd value) = (place : ℕ) → OnEach contents (λ cell a x m. Does cell i place a x m (Ended value))
IsPutInto register i contents Unknown = Unit {0}

-- The octets of each cell from this one on are the bits; there are none if a cell has too few.
abbrev pub AreLoaded : ℕ → ℕ → Option (List Bit) → Type 0
AreLoaded at many None = (cell : List ℕ) → IsCell cell → number_at cell at many ≡ None
AreLoaded at many (Some bits) = (cell : List ℕ) → IsCell cell → number_at cell at many ≡ Some (word_number bits (octets_number cell))

-- The instruction loads this many octets of the cell from this one on into A.
abbrev pub LoadsAt : Instr → ℕ → ℕ → Contents → Type 0
LoadsAt i at many contents = OnEach contents (λ cell a x m. (place : ℕ) (next : State) → LoadsNumber (number_at cell at many) (λ n. At (place + 1) n x m) next → Does cell i place a x m next)

-- The operand is this number.
abbrev pub IsOperand : By → Contents → ℕ → Type 0
IsOperand by contents k = (cell : ℕ) → operand_of by (word_number contents.x cell) ≡ k

-- The operand is these bits.
abbrev pub AreOperand : By → Contents → List Bit → Type 0
AreOperand by contents bits = (cell : ℕ) → word_number bits cell ≡ operand_of by (word_number contents.x cell)

-- The operation is one on numbers, and its divisor isn't 0.
abbrev pub IsCalculable : Op → ℕ → Type 0
IsCalculable Add k = Unit {0}
IsCalculable Sub k = Unit {0}
IsCalculable Mul k = Unit {0}
IsCalculable Div k = 0 < k
IsCalculable Mod k = 0 < k
IsCalculable _ k = ⊥

-- The number is the result of the operation on two numbers.
pub record IsComputed (op : Op) (a k number : ℕ) : Type 0 where
  pub calculable : IsCalculable op k
  pub is : number ≡ result_of op a k

-- The diagram gives each cell the value with which the machine ends from this place with these contents.
pub record IsTold (nodes : List Node) (code : List Instr) (told : DiagramAt) : Type 0 where
  pub within : IsWithin nodes told.diagram
  pub ends : OnEach told.contents (λ cell a x m. (steps : ℕ) × EndsIn code cell (At told.place a x m) (diagram_value nodes told.diagram (octets_number cell)) steps)
