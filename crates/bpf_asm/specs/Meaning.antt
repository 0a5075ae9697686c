-- The code that a source means.
use Rattle.std.specs.Prelude.{◌≡◌, ◌+◌, ℕ, List, [], ◌∷◌, Option, Some, None}
use Rattle.bpf_asm.specs.Grammar.{SourceLine, AreLines}
use Rattle.bpf_asm.specs.Labels.{EachLabelOnce, IsDangling, IsOffset, most_branch, most_jump, statements_of}
use Rattle.bpf_asm.specs.SourceLines.{source_lines}
use Rattle.bpf_asm.specs.StatementSpelling.{Statement, plain, jump, branch}
use Rattle.bpf_code.specs.declared.instr.Instr.{Instr}
use Rattle.bpf_code.specs.declared.instr.Instr.TheVariants.{Jump, Branch}

-- The offset of one side of a branch. Without a label it is 0.
abbrev pub IsSide : List SourceLine → ℕ → Option (List ℕ) → ℕ → Type 0
IsSide lines place None offset = offset ≡ 0
IsSide lines place (Some target) offset = IsOffset lines place (record { label = target; most = most_branch }) offset

-- The statement at this place means this instruction.
abbrev pub Means : List SourceLine → ℕ → Statement → Instr → Type 0
Means lines place (plain i) meant = meant ≡ i
Means lines place (jump target) meant =
    (offset : ℕ) × (meant ≡ Jump offset) × IsOffset lines place (record { label = target; most = most_jump }) offset
Means lines place (branch test by met unmet) meant =
    (jt jf : ℕ) × (meant ≡ Branch test by jt jf) × IsSide lines place met jt × IsSide lines place unmet jf

-- The statements from this place on mean these instructions, in order.
abbrev pub MeanFrom : List SourceLine → ℕ → List Statement → List Instr → Type 0
MeanFrom lines place [] code = code ≡ []
MeanFrom lines place (statement ∷ more) [] = ⊥
MeanFrom lines place (statement ∷ more) (i ∷ code) = Means lines place statement i × MeanFrom lines (place + 1) more code

-- The lines mean the instructions of their instruction lines, in order. No label occurs twice, and an instruction
-- follows each label.
pub record LinesMean (lines : List SourceLine) (code : List Instr) : Type 0 where
  pub once : EachLabelOnce lines
  pub followed : (at : ℕ) → ¬ IsDangling lines at
  pub meant : MeanFrom lines 0 (statements_of lines) code

-- The source means this code.
pub record IsMeaning (source : List ℕ) (code : List Instr) : Type 0 where
  pub lines : List SourceLine
  pub spelled : AreLines (source_lines source) lines
  pub mean : LinesMean lines code
