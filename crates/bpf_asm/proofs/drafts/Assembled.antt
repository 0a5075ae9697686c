-- The meaning or the fault of a source, from its lines.
use Rattle.std.proofs.Common.{◌≡◌, ◌⊎◌, ℕ, ◌+◌, List, Some, None, Result, Ok, Err, IfErr, inl, inr}
use Rattle.bpf_asm.specs.Faults.{IsFault, IsFirstOperandFault, IsOutOfMemory}
use Rattle.bpf_asm.specs.Grammar.{AreLines, SourceLine}
use Rattle.bpf_asm.specs.Labels.{EachLabelOnce, statements_of}
use Rattle.bpf_asm.specs.SourceLines.{source_lines}
use Rattle.bpf_asm.specs.Meaning.{IsMeaning, MeanFrom}
use Rattle.bpf_asm.specs.inner.Pending.{IsPending}
use Rattle.bpf_asm.specs.declared.fault.AsmFault.{AsmFault}
use Rattle.bpf_asm.specs.declared.fault.AsmKind.TheVariants.{DanglingLabel}
use Rattle.bpf_code.specs.declared.instr.Instr.{Instr}

-- A clause about an error implies another.
pub if_err : {A E : Type 0} (r : Result A E) (P Q : E → Type 0) → ((e : E) → P e → Q e) → IfErr r P → IfErr r Q
if_err (Ok v) P Q f h = tt
if_err (Err e) P Q f h = f e h

-- The meaning.
pub means_source : (source : List ℕ) (lines : List SourceLine) (code : List Instr) → AreLines (source_lines source) lines → EachLabelOnce lines → IsPending lines None → MeanFrom lines 0 (statements_of lines) code → IsMeaning source code
means_source source lines code spelled once none meant = record { lines = lines; spelled = spelled; mean = record { once = once; followed = none; meant = meant } }

-- The first label that no instruction follows.
pub dangling_source : (source : List ℕ) (lines : List SourceLine) (at : ℕ) (fault : AsmFault) → AreLines (source_lines source) lines → EachLabelOnce lines → IsPending lines (Some at) → (fault.line ≡ at + 1) × (fault.kind ≡ DanglingLabel) → IsFault source fault
dangling_source source lines at fault spelled once p n = inr (record {
  lines = lines;
  spelled = spelled;
  once = once;
  faulty = inl (record { kind = n.1; at = at; number = n.0; dangling = p.1; followed = p.2 });
})

-- The first label operand that has no offset.
pub operand_source : (source : List ℕ) (lines : List SourceLine) (fault : AsmFault) → AreLines (source_lines source) lines → EachLabelOnce lines → IsPending lines None → IsFirstOperandFault lines fault ⊎ IsOutOfMemory fault → IsFault source fault ⊎ IsOutOfMemory fault
operand_source source lines fault spelled once none f =
    elim f [ inl g ↦ inl (inr (record { lines = lines; spelled = spelled; once = once; faulty = inr (none, g) })) | inr m ↦ inr m ]
