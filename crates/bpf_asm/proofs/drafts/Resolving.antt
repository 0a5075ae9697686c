-- Statements become instructions, one after the other.
use Rattle.std.proofs.Common.{◌≡◌, ℕ, suc, ◌+◌, List, [], ◌∷◌, ◌++◌, length, Option, Some, None, refl, ap, ◌∙◌, subst, arith}
use Rattle.std.specs.Option.{option_to_list}
use Rattle.bpf_asm.specs.Faults.{HasOffsets, HaveOffsets, IsOperandFault, IsStatementFault}
use Rattle.bpf_asm.specs.Grammar.{SourceLine}
use Rattle.bpf_asm.specs.Labels.{Operand, operands_of, side, statements_of}
use Rattle.bpf_asm.specs.Meaning.{IsSide, MeanFrom, Means}
use Rattle.bpf_asm.specs.StatementSpelling.{Statement, plain, jump, branch}
use Rattle.bpf_asm.specs.inner.Drafts.{IsSideFault}
use Rattle.bpf_asm.specs.declared.fault.AsmKind.{AsmKind}
use Rattle.bpf_asm.proofs.drafts.Agreement.{statements_of-append}
use Rattle.bpf_code.specs.declared.instr.By.{By}
use Rattle.bpf_code.specs.declared.instr.Instr.{Instr}
use Rattle.bpf_code.specs.declared.instr.Test.{Test}

-- The fault of a jump's label.
pub jump_fault : (lines : List SourceLine) (place : ℕ) (target : List ℕ) (kind : AsmKind) → IsOperandFault lines place (record { label = target; most = 4294967295 }) kind → IsStatementFault lines place (jump target) kind
jump_fault lines place target kind f = record { left = []; operand = record { label = target; most = 4294967295 }; right = []; order = refl; well = tt; faulty = f }

-- The fault of the first label of a branch.
pub first_side : (lines : List SourceLine) (place : ℕ) (test : Test) (by : By) (met unmet : Option (List ℕ)) (kind : AsmKind) → IsSideFault lines place met kind → IsStatementFault lines place (branch test by met unmet) kind
first_side lines place test by None unmet kind f = absurd f
first_side lines place test by (Some target) unmet kind f = record { left = []; operand = record { label = target; most = 255 }; right = side unmet; order = refl; well = tt; faulty = f }

-- The fault of the second label of a branch.
pub second_side : (lines : List SourceLine) (place : ℕ) (test : Test) (by : By) (met unmet : Option (List ℕ)) (jt : ℕ) (kind : AsmKind) → IsSide lines place met jt → IsSideFault lines place unmet kind → IsStatementFault lines place (branch test by met unmet) kind
second_side lines place test by met None jt kind m f = absurd f
second_side lines place test by None (Some target) jt kind m f = record { left = []; operand = record { label = target; most = 255 }; right = []; order = refl; well = tt; faulty = f }
second_side lines place test by (Some first) (Some target) jt kind m f = record { left = record { label = first; most = 255 } ∷ []; operand = record { label = target; most = 255 }; right = []; order = refl; well = ((jt, m), tt); faulty = f }

side_has : (lines : List SourceLine) (place : ℕ) (label : Option (List ℕ)) (offset : ℕ) → IsSide lines place label offset → HasOffsets lines place (side label)
side_has lines place None offset m = tt
side_has lines place (Some target) offset m = ((offset, m), tt)

both_have : (lines : List SourceLine) (place : ℕ) (some more : List Operand) → HasOffsets lines place some → HasOffsets lines place more → HasOffsets lines place (some ++ more)
both_have lines place [] more h g = g
both_have lines place (operand ∷ some) more h g = (h.0, both_have lines place some more h.1 g)

-- The operands of a statement that means an instruction have offsets.
pub means_has : (lines : List SourceLine) (place : ℕ) (s : Statement) (i : Instr) → Means lines place s i → HasOffsets lines place (operands_of s)
means_has lines place (plain j) i m = tt
means_has lines place (jump target) i m = ((m.0, m.2), tt)
means_has lines place (branch test by met unmet) i m = both_have lines place (side met) (side unmet) (side_has lines place met m.0 m.3) (side_has lines place unmet m.1 m.4)

-- The operands of all statements that mean a code have offsets.
pub mean_have : (lines : List SourceLine) (place : ℕ) (ss : List Statement) (code : List Instr) → MeanFrom lines place ss code → HaveOffsets lines place ss
mean_have lines place [] code m = tt
mean_have lines place (s ∷ ss) [] m = absurd m
mean_have lines place (s ∷ ss) (i ∷ code) m = (means_has lines place s i m.0, mean_have lines (place + 1) ss code m.1)

-- There is an instruction for each statement.
pub mean_length : (lines : List SourceLine) (place : ℕ) (ss : List Statement) (code : List Instr) → MeanFrom lines place ss code → length code ≡ length ss
mean_length lines place [] code m = ap length m
mean_length lines place (s ∷ ss) [] m = absurd m
mean_length lines place (s ∷ ss) (i ∷ code) m = ap suc (mean_length lines (place + 1) ss code m.1)

-- One more statement.
pub mean_more : (lines : List SourceLine) (place : ℕ) (ss : List Statement) (code : List Instr) (s : Statement) (i : Instr) → MeanFrom lines place ss code → Means lines (place + length ss) s i → MeanFrom lines place (ss ++ s ∷ []) (code ++ i ∷ [])
mean_more lines place [] [] s i m here = let z : place + 0 ≡ place = omega arith in (subst (λ (p : ℕ). Means lines p s i) z here, refl)
mean_more lines place [] (j ∷ code) s i m here = cc
mean_more lines place (t ∷ ss) [] s i m here = absurd m
mean_more lines place (t ∷ ss) (j ∷ code) s i m here =
    let moved : place + length (t ∷ ss) ≡ place + 1 + length ss = omega arith in
    (m.0, mean_more lines (place + 1) ss code s i m.1 (subst (λ (p : ℕ). Means lines p s i) moved here))

-- The statement of one line.
statements_line : (line : SourceLine) (s : Option Statement) → line.statement ≡ s → statements_of (line ∷ []) ≡ option_to_list s
unfolding statements_of
statements_line line None e = rw e refl
statements_line line (Some s) e = rw e refl

-- The statements of one more line.
pub statements_more : (lines : List SourceLine) (line : SourceLine) → statements_of (lines ++ line ∷ []) ≡ statements_of lines ++ option_to_list line.statement
statements_more lines line = statements_of-append lines (line ∷ []) ∙ ap (λ (ss : List Statement). statements_of lines ++ ss) (statements_line line line.statement refl)
