-- The places that labels name.
use Rattle.std.specs.Prelude.{◌≡◌, ◌+◌, ◌≤◌, ℕ, List, [], ◌∷◌, ◌++◌, length, drop, Option, Some, None, slice_get}
use Rattle.std.specs.List.{filter_map}
use Rattle.bpf_asm.specs.Grammar.{SourceLine}
use Rattle.bpf_asm.specs.StatementSpelling.{Statement, plain, jump, branch}

-- The statements of lines, in order.
unfoldable pub statements_of : List SourceLine → List Statement
statements_of lines = filter_map (λ line. line.statement) lines

-- The line of this number, from 0, has the label.
abbrev pub HasLabel : List SourceLine → ℕ → List ℕ → Type 0
HasLabel lines at label = (line : SourceLine) × (slice_get lines at ≡ Some line) × (line.label ≡ Some label)

-- A label names the place whose number is how many instruction lines come before the label. So a label alone on its line
-- names the next instruction.
pub record NamesPlace (lines : List SourceLine) (label : List ℕ) (place : ℕ) : Type 0 where
  pub before : List SourceLine
  pub here : SourceLine
  pub after : List SourceLine
  pub split : lines ≡ before ++ here ∷ after
  pub named : here.label ≡ Some label
  pub counted : place ≡ length (statements_of before)

-- No label is in two lines.
abbrev pub EachLabelOnce : List SourceLine → Type 0
EachLabelOnce lines = (one other : ℕ) (label : List ℕ) → HasLabel lines one label → HasLabel lines other label → one ≡ other

-- The line has a label, and neither it nor any later line has an instruction.
abbrev pub IsDangling : List SourceLine → ℕ → Type 0
IsDangling lines at = (label : List ℕ) × HasLabel lines at label × (statements_of (drop at lines) ≡ [])

-- A label operand, and the largest offset that its field can hold.
pub record Operand : Type 0 where
  pub label : List ℕ
  pub most : ℕ

-- The largest offset of a branch, whose fields have 8 bits.
abbrev pub most_branch : ℕ
most_branch = 255

-- The largest offset of `ja`, whose field has 32 bits.
abbrev pub most_jump : ℕ
most_jump = 4294967295

-- The label operands of one side of a branch.
abbrev pub side : Option (List ℕ) → List Operand
side None = []
side (Some target) = record { label = target; most = most_branch } ∷ []

-- The label operands of a statement, from left to right.
abbrev pub operands_of : Statement → List Operand
operands_of (plain i) = []
operands_of (jump target) = record { label = target; most = most_jump } ∷ []
operands_of (branch test by met unmet) = side met ++ side unmet

-- The offset of a label operand in the instruction at this place: the label's place minus this place, minus 1.
pub record IsOffset (lines : List SourceLine) (place : ℕ) (operand : Operand) (offset : ℕ) : Type 0 where
  pub holds : NamesPlace lines operand.label (place + 1 + offset)
  pub fits : offset ≤ operand.most
