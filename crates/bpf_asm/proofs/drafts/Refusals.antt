-- A source that means a code is refused only if an allocation fails. A source with a fault is never accepted.
use Rattle.std.proofs.Common.{◌⊎◌, ℕ, List, Result, Ok, Err, IfErr, IfOk, refl, inl, inr}
use Rattle.std.specs.Prelude.{IsErr}
use Rattle.bpf_asm.specs.Faults.{IsFault, IsOutOfMemory}
use Rattle.bpf_asm.specs.Meaning.{IsMeaning}
use Rattle.bpf_asm.specs.declared.fault.AsmFault.{AsmFault}
use Rattle.bpf_asm.proofs.meanings.NeverBoth.{never_both}
use Rattle.bpf_code.specs.declared.instr.Instr.{Instr}

-- If a source means a code, its only error is an allocation failure.
pub memory_alone : (source : List ℕ) (fault : AsmFault) → IsFault source fault ⊎ IsOutOfMemory fault → (code : List Instr) → IsMeaning source code → IsOutOfMemory fault
memory_alone source fault (inl faulty) code means = absurd (never_both source code fault means faulty)
memory_alone source fault (inr memory) code means = memory

-- The same for the error of a result.
pub refused_alone : {A : Type 0} (r : Result A AsmFault) (source : List ℕ) → IfErr r (λ fault. IsFault source fault ⊎ IsOutOfMemory fault) → (code : List Instr) → IsMeaning source code → IfErr r IsOutOfMemory
refused_alone (Ok v) source f code means = tt
refused_alone (Err fault) source f code means = memory_alone source fault f code means

-- If a source has a fault, the result is an error.
pub never_accepted : {A : Type 0} (r : Result A AsmFault) (items : A → List Instr) (source : List ℕ) → IfOk r (λ v. IsMeaning source (items v)) → (fault : AsmFault) → IsFault source fault → IsErr r
never_accepted (Ok v) items source means fault faulty = absurd (never_both source (items v) fault means faulty)
never_accepted (Err other) items source means fault faulty = refl
