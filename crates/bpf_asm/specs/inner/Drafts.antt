-- The draft of a code: the assembler's state after the lines that it has read.
use Rattle.std.specs.Prelude.{◌≡◌, ◌+◌, ◌++◌, ℕ, Bool, true, false, List, [], ◌∷◌, length, map, filter, Option, Some, None}
use Rattle.bpf_asm.specs.Grammar.{AreLines, IsSourceLine, SourceLine}
use Rattle.bpf_asm.specs.Labels.{EachLabelOnce, HasLabel, NamesPlace, most_branch, statements_of}
use Rattle.bpf_asm.specs.SourceLines.{source_lines}
use Rattle.bpf_asm.specs.Faults.{IsLineFault, IsOperandFault, IsOutOfMemory}
use Rattle.bpf_asm.specs.Meaning.{MeanFrom}
use Rattle.bpf_asm.specs.inner.Pending.{IsPending}
use Rattle.bpf_asm.specs.inner.LabelPlaces.{label_place}
use Rattle.bpf_asm.specs.inner.Seen.{statement_seen}
use Rattle.bpf_asm.specs.StatementSpelling.{Statement}
use Rattle.bpf_asm.specs.declared.unresolved.Draft.{Draft}
use Rattle.bpf_asm.specs.declared.unresolved.Unresolved.{Unresolved}
use Rattle.bpf_asm.specs.declared.fault.AsmFault.{AsmFault}
use Rattle.bpf_asm.specs.declared.fault.AsmKind.{AsmKind}
use Rattle.bpf_asm.specs.declared.fault.AsmKind.TheVariants.{LabelTwice, NoMemory}
use Rattle.bpf_asm.specs.declared.statement.LentStatement.{LentStatement}
use Rattle.bpf_asm.specs.declared.statement.LentStatement.TheVariants.{Plain, Jump as LabelJump, Branch as LabelBranch}
use Rattle.bpf_code.specs.declared.instr.Instr.{Instr}
use Rattle.bpf_code.specs.declared.instr.Instr.TheVariants.{Jump, Branch}

-- For each label in the lines `find` has its place, and for no other name. `places` is the number of statements, which is the
-- next place. No label occurs twice.
pub record AgreesWith (lines : List SourceLine) (find : List ℕ → Option ℕ) (places : ℕ) : Type 0 where
  pub counted : places ≡ length (statements_of lines)
  pub once : EachLabelOnce lines
  pub holds : (name : List ℕ) (place : ℕ) → find name ≡ Some place → NamesPlace lines name place
  pub unknown : (name : List ℕ) → find name ≡ None → (at : ℕ) → ¬ HasLabel lines at name

-- The instruction of a statement, with offsets of 0 if it has labels.
abbrev pub drafted : LentStatement → Instr
drafted (Plain i) = i
drafted (LabelJump target) = Jump 0
drafted (LabelBranch test by met unmet) = Branch test by 0 0

-- Whether the statement has labels.
abbrev pub has_labels : LentStatement → Bool
has_labels (Plain i) = false
has_labels (LabelJump target) = true
has_labels (LabelBranch test by met unmet) = true

-- Whether the instruction has labels.
abbrev pub is_unresolved : Unresolved → Bool
is_unresolved u = has_labels u.statement

-- The statements of instructions.
abbrev pub statements_seen : List Unresolved → List Statement
statements_seen all = map (λ (u : Unresolved). statement_seen u.statement) all

-- The instructions of these statements, with offsets of 0.
abbrev pub first_forms : List Unresolved → List Instr
first_forms all = map (λ (u : Unresolved). drafted u.statement) all

-- The instruction is in the lines, after these others, at its line and its place.
pub record HoldsAfter (lines : List SourceLine) (front : List Unresolved) (u : Unresolved) : Type 0 where
  pub before : List SourceLine
  pub here : SourceLine
  pub after : List SourceLine
  pub split : lines ≡ before ++ here ∷ after
  pub number : u.line ≡ length before + 1
  pub holds : here.statement ≡ Some (statement_seen u.statement)
  pub earlier : statements_of before ≡ statements_seen front
  pub place : u.place ≡ length front

-- Each of these instructions is in the lines, after those before it.
abbrev pub EachHolds : List SourceLine → List Unresolved → Type 0
EachHolds lines all = (front : List Unresolved) (u : Unresolved) (back : List Unresolved) → all ≡ front ++ u ∷ back → HoldsAfter lines front u

-- The code and the instructions with labels are the draft of these lines.
pub record IsDraft (lines : List SourceLine) (code : List Instr) (unresolved : List Unresolved) : Type 0 where
  pub all : List Unresolved
  pub statements : statements_of lines ≡ statements_seen all
  pub each : EachHolds lines all
  pub forms : code ≡ first_forms all
  pub labelled : unresolved ≡ filter is_unresolved all

-- In a draft of these lines the labels of the first instructions, `front`, are resolved. Those of the others, `back`, are not
-- yet, and `unresolved` has the instructions of `back` with labels.
pub record IsResolvedTo (lines : List SourceLine) (code : List Instr) (unresolved : List Unresolved) : Type 0 where
  pub front : List Unresolved
  pub back : List Unresolved
  pub statements : statements_of lines ≡ statements_seen (front ++ back)
  pub each : EachHolds lines (front ++ back)
  pub done : List Instr
  pub means : MeanFrom lines 0 (statements_seen front) done
  pub forms : code ≡ done ++ first_forms back
  pub labelled : unresolved ≡ filter is_unresolved back

-- The assembler's draft is that of these lines.
pub record Drafts (lines : List SourceLine) (draft : Draft) : Type 0 where
  pub agree : AgreesWith lines (label_place draft.labels) (length draft.code.items)
  pub pending : IsPending lines draft.dangling
  pub code : IsDraft lines draft.code.items draft.unresolved.items

-- The instruction, if it is to be kept.
abbrev pub kept_of : Bool → Unresolved → List Unresolved
kept_of true u = u ∷ []
kept_of false u = []

-- The instruction at this line and place, if it has labels.
abbrev pub unresolved_of : ℕ → ℕ → LentStatement → List Unresolved
unresolved_of line place statement = kept_of (has_labels statement) (record { line = line; place = place; statement = statement })

-- An earlier line has the label of this line.
abbrev pub IsTwice : List SourceLine → SourceLine → Type 0
IsTwice lines line = (label : List ℕ) × (line.label ≡ Some label) × (earlier : ℕ) × HasLabel lines earlier label

-- A line may fail with this error when it is added to these: LabelTwice if an earlier line has its label. NoMemory is
-- allowed for any line.
abbrev pub IsAddFault : List SourceLine → SourceLine → AsmKind → Type 0
IsAddFault lines line LabelTwice = IsTwice lines line
IsAddFault lines line NoMemory = Unit {0}
IsAddFault lines line _ = ⊥

-- A line may fail with this error when it is read after these: a fault of the line. NoMemory is allowed for any line.
abbrev pub IsTakeFault : List SourceLine → List ℕ → AsmKind → Type 0
IsTakeFault lines octets NoMemory = Unit {0}
IsTakeFault lines octets kind = IsLineFault lines octets kind

-- The fault is of this kind and at this line. NoMemory has no line.
abbrev pub IsFaultAt : ℕ → AsmKind → AsmFault → Type 0
IsFaultAt line NoMemory fault = IsOutOfMemory fault
IsFaultAt line kind fault = (fault.line ≡ line) × (fault.kind ≡ kind)

-- The line is in the grammar, and it was added to the lines.
pub record AddsLine (lines : List SourceLine) (draft : Draft) (octets : List ℕ) : Type 0 where
  pub line : SourceLine
  pub spelled : IsSourceLine octets line
  pub drafts : Drafts (lines ++ line ∷ []) draft

-- The first `count` lines of the source were read and parse as `lines`; the lines `left` are not read yet.
pub record IsReadTo (source left : List (List ℕ)) (lines : List SourceLine) (count : ℕ) : Type 0 where
  pub done : List (List ℕ)
  pub split : source ≡ done ++ left
  pub spelled : AreLines done lines
  pub counted : count ≡ length done

-- The draft is that of the first `count` lines of the source; the lines `left` are not read yet.
pub record IsDraftTo (source left : List (List ℕ)) (draft : Draft) (count : ℕ) : Type 0 where
  pub lines : List SourceLine
  pub read : IsReadTo source left lines count
  pub counted : length lines ≡ count
  pub drafts : Drafts lines draft

-- The draft is that of the whole source.
pub record IsDraftOf (source : List ℕ) (draft : Draft) : Type 0 where
  pub lines : List SourceLine
  pub spelled : AreLines (source_lines source) lines
  pub drafts : Drafts lines draft

-- The fault of one side of a branch: that of its label, if it has one.
abbrev pub IsSideFault : List SourceLine → ℕ → Option (List ℕ) → AsmKind → Type 0
IsSideFault lines place None kind = ⊥
IsSideFault lines place (Some target) kind = IsOperandFault lines place (record { label = target; most = most_branch }) kind
