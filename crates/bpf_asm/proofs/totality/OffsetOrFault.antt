-- A statement means an instruction, or a label operand of it has no offset.
use Rattle.std.proofs.Common.{◌≡◌, ◌⊎◌, ℕ, ◌+◌, ◌-◌, List, Option, Some, None, refl, subst, inl, inr, arith}
use Rattle.std.proofs.lemmas.Bool.{cases_lt}
use Rattle.bpf_asm.specs.Faults.{HasOffset, IsOperandFault, IsStatementFault}
use Rattle.bpf_asm.specs.Grammar.{SourceLine}
use Rattle.bpf_asm.specs.Labels.{Operand, NamesPlace}
use Rattle.bpf_asm.specs.Meaning.{IsSide, Means}
use Rattle.bpf_asm.specs.StatementSpelling.{Statement, plain, jump, branch}
use Rattle.bpf_asm.specs.inner.Drafts.{IsSideFault}
use Rattle.bpf_asm.specs.declared.fault.AsmKind.{AsmKind}
use Rattle.bpf_asm.specs.declared.fault.AsmKind.TheVariants.{UnknownLabel, Backward, TooFar}
use Rattle.bpf_asm.proofs.totality.LabelOrUnknown.{holds-or_unknown}
use Rattle.bpf_asm.proofs.drafts.Resolving.{first_side, jump_fault, second_side}
use Rattle.bpf_code.specs.declared.instr.Instr.{Instr}
use Rattle.bpf_code.specs.declared.instr.Instr.TheVariants.{Jump, Branch}

-- A label that names a place.
reached : (lines : List SourceLine) (place : ℕ) (operand : Operand) (target : ℕ) → NamesPlace lines operand.label target → HasOffset lines place operand ⊎ ((kind : AsmKind) × IsOperandFault lines place operand kind)
reached lines place operand target holds =
    elim (cases_lt place target) [
      | inr back ↦ inr (Backward, (target, holds, back))
      | inl ahead ↦ elim (cases_lt (place + 1 + operand.most) target) [
        | inl far ↦ inr (TooFar, (target, holds, far))
        | inr near ↦
            let there : target ≡ place + 1 + (target - (place + 1)) = omega arith in
            inl (target - (place + 1), record { holds = subst (λ (t : ℕ). NamesPlace lines operand.label t) there holds; fits = omega arith })
      ]
    ]

-- A label operand has an offset or a fault.
offset-or_fault : (lines : List SourceLine) (place : ℕ) (operand : Operand) → HasOffset lines place operand ⊎ ((kind : AsmKind) × IsOperandFault lines place operand kind)
offset-or_fault lines place operand =
    elim (holds-or_unknown lines operand.label) [
      | inl found ↦ reached lines place operand found.0 found.1
      | inr unknown ↦ inr (UnknownLabel, unknown)
    ]

-- A side of a branch has an offset or a fault.
side-or_fault : (lines : List SourceLine) (place : ℕ) (label : Option (List ℕ)) → ((offset : ℕ) × IsSide lines place label offset) ⊎ ((kind : AsmKind) × IsSideFault lines place label kind)
side-or_fault lines place None = inl (0, refl)
side-or_fault lines place (Some target) = offset-or_fault lines place (record { label = target; most = 255 })

-- A statement means an instruction or has a fault.
pub means-or_fault : (lines : List SourceLine) (place : ℕ) (s : Statement) → ((i : Instr) × Means lines place s i) ⊎ ((kind : AsmKind) × IsStatementFault lines place s kind)
means-or_fault lines place (plain i) = inl (i, refl)
means-or_fault lines place (jump target) =
    elim (offset-or_fault lines place (record { label = target; most = 4294967295 })) [
      | inl has ↦ inl (Jump has.0, (has.0, refl, has.1))
      | inr bad ↦ inr (bad.0, jump_fault lines place target bad.0 bad.1)
    ]
means-or_fault lines place (branch test by met unmet) =
    elim (side-or_fault lines place met) [
      | inr bad ↦ inr (bad.0, first_side lines place test by met unmet bad.0 bad.1)
      | inl one ↦ elim (side-or_fault lines place unmet) [
        | inr bad ↦ inr (bad.0, second_side lines place test by met unmet one.0 bad.0 one.1 bad.1)
        | inl other ↦ inl (Branch test by one.0 other.0, (one.0, other.0, refl, one.1, other.1))
      ]
    ]
