-- The one fault of a source that means no code.
use Rattle.std.specs.Prelude.{◌≡◌, ◌⊎◌, ◌+◌, ◌≤◌, ◌<◌, ℕ, List, [], ◌∷◌, ◌++◌, length, Some}
use Rattle.bpf_asm.specs.Grammar.{SourceLine, AreLines, IsSourceLine}
use Rattle.bpf_asm.specs.Labels.{EachLabelOnce, HasLabel, IsDangling, IsOffset, Operand, NamesPlace, operands_of, statements_of}
use Rattle.bpf_asm.specs.SourceLines.{source_lines}
use Rattle.bpf_asm.specs.StatementSpelling.{Statement}
use Rattle.bpf_asm.specs.Tokens.{HasBadNumber}
use Rattle.bpf_asm.specs.declared.fault.AsmKind.{AsmKind}
use Rattle.bpf_asm.specs.declared.fault.AsmKind.TheVariants.{BadLine, BadNumber, LabelTwice, UnknownLabel, Backward, TooFar, DanglingLabel, NoMemory}
use Rattle.bpf_asm.specs.declared.fault.AsmFault.{AsmFault}

-- This line, which comes after these lines, has the fault: BadNumber if it has a bad number; otherwise BadLine if it
-- isn't in the grammar; LabelTwice if it is in the grammar and an earlier line has the same label.
abbrev pub IsLineFault : List SourceLine → List ℕ → AsmKind → Type 0
IsLineFault before here BadNumber = HasBadNumber here
IsLineFault before here BadLine = (¬ HasBadNumber here) × ((line : SourceLine) → ¬ IsSourceLine here line)
IsLineFault before here LabelTwice =
    (line : SourceLine) × IsSourceLine here line × (label : List ℕ) × (line.label ≡ Some label) × (earlier : ℕ) × HasLabel before earlier label
IsLineFault before here _ = ⊥

-- The first line that has a fault. Lines count from 1.
pub record IsFirstLineFault (source : List (List ℕ)) (fault : AsmFault) : Type 0 where
  pub before : List (List ℕ)
  pub here : List ℕ
  pub after : List (List ℕ)
  pub split : source ≡ before ++ here ∷ after
  pub number : fault.line ≡ length before + 1
  pub lines : List SourceLine
  pub spelled : AreLines before lines
  pub once : EachLabelOnce lines
  pub faulty : IsLineFault lines here fault.kind

-- The first label that no instruction follows.
pub record IsFirstDangling (lines : List SourceLine) (fault : AsmFault) : Type 0 where
  pub kind : fault.kind ≡ DanglingLabel
  pub at : ℕ
  pub number : fault.line ≡ at + 1
  pub dangling : IsDangling lines at
  pub followed : (earlier : ℕ) → earlier < at → ¬ IsDangling lines earlier

-- The label operand of the instruction at this place has an offset.
abbrev pub HasOffset : List SourceLine → ℕ → Operand → Type 0
HasOffset lines place operand = (offset : ℕ) × IsOffset lines place operand offset

-- The fault of a label operand of the instruction at this place: no line has its label; the label's place is at most
-- this one; or the offset doesn't fit its field.
abbrev pub IsOperandFault : List SourceLine → ℕ → Operand → AsmKind → Type 0
IsOperandFault lines place operand UnknownLabel = (at : ℕ) → ¬ HasLabel lines at operand.label
IsOperandFault lines place operand Backward =
    (target : ℕ) × NamesPlace lines operand.label target × (target ≤ place)
IsOperandFault lines place operand TooFar =
    (target : ℕ) × NamesPlace lines operand.label target × (place + 1 + operand.most < target)
IsOperandFault lines place operand _ = ⊥

-- Each of these operands has an offset.
abbrev pub HasOffsets : List SourceLine → ℕ → List Operand → Type 0
HasOffsets lines place [] = Unit {0}
HasOffsets lines place (operand ∷ more) = HasOffset lines place operand × HasOffsets lines place more

-- The label operands of each of these statements, from this place on, have offsets.
abbrev pub HaveOffsets : List SourceLine → ℕ → List Statement → Type 0
HaveOffsets lines place [] = Unit {0}
HaveOffsets lines place (statement ∷ more) =
    HasOffsets lines place (operands_of statement) × HaveOffsets lines (place + 1) more

-- The first label operand of a statement, from left to right, that has no offset.
pub record IsStatementFault (lines : List SourceLine) (place : ℕ) (statement : Statement) (kind : AsmKind) : Type 0 where
  pub left : List Operand
  pub operand : Operand
  pub right : List Operand
  pub order : operands_of statement ≡ left ++ operand ∷ right
  pub well : HasOffsets lines place left
  pub faulty : IsOperandFault lines place operand kind

-- The first label operand that has no offset, by lines and in each line from left to right. The fault is at the line of
-- the instruction.
pub record IsFirstOperandFault (lines : List SourceLine) (fault : AsmFault) : Type 0 where
  pub before : List SourceLine
  pub here : SourceLine
  pub after : List SourceLine
  pub split : lines ≡ before ++ here ∷ after
  pub number : fault.line ≡ length before + 1
  pub earlier : HaveOffsets lines 0 (statements_of before)
  pub statement : Statement
  pub holds : here.statement ≡ Some statement
  pub faulty : IsStatementFault lines (length (statements_of before)) statement fault.kind

-- A fault of labels. All lines are in the grammar, and no label occurs twice. A label that no instruction follows comes
-- before all faults of operands.
pub record IsLabelFault (source : List (List ℕ)) (fault : AsmFault) : Type 0 where
  pub lines : List SourceLine
  pub spelled : AreLines source lines
  pub once : EachLabelOnce lines
  pub faulty : IsFirstDangling lines fault ⊎ (((at : ℕ) → ¬ IsDangling lines at) × IsFirstOperandFault lines fault)

-- The source has this fault. Faults of lines come before faults of labels.
abbrev pub IsFault : List ℕ → AsmFault → Type 0
IsFault source fault = IsFirstLineFault (source_lines source) fault ⊎ IsLabelFault (source_lines source) fault

-- An allocation failed. This fault has no line.
abbrev pub IsOutOfMemory : AsmFault → Type 0
IsOutOfMemory fault = (fault.line ≡ 0) × (fault.kind ≡ NoMemory)
