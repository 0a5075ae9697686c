-- Lemmas for proofs of other crates: the public laws.
use Rattle.std.proofs.Common.{◌≡◌, ℕ, ◌⊎◌, List}
use Rattle.bpf_asm.proofs.totality.CodeOrFault as whole
use Rattle.bpf_asm.proofs.meanings.Fitting as fitting
use Rattle.bpf_asm.proofs.meanings.NeverBoth as both
use Rattle.bpf_asm.proofs.meanings.OneFault as faults
use Rattle.bpf_asm.proofs.meanings.OneMeaning as meanings
use Rattle.bpf_asm.specs.Faults.{IsFault}
use Rattle.bpf_asm.specs.Meaning.{IsMeaning}
use Rattle.bpf_asm.specs.declared.fault.AsmFault.{AsmFault}
use Rattle.bpf_code.specs.Encoding.{code_octets}
use Rattle.bpf_code.specs.OctetSpelling.{SpellsPlainly}
use Rattle.bpf_code.specs.declared.instr.Instr.{Instr}

-- A source means at most one code.
pub meaning_once : (source : List ℕ) (one other : List Instr) → IsMeaning source one → IsMeaning source other → one ≡ other
meaning_once = meanings.meaning_once

-- A source that means a code has no fault.
pub never_both : (source : List ℕ) (code : List Instr) (fault : AsmFault) → IsMeaning source code → IsFault source fault → ⊥
never_both = both.never_both

-- A source has at most one fault.
pub fault_once : (source : List ℕ) (one other : AsmFault) → IsFault source one → IsFault source other → one ≡ other
fault_once = faults.fault_once

-- A source means a code or has a fault.
pub meaning-or_fault : (source : List ℕ) → ((code : List Instr) × IsMeaning source code) ⊎ ((fault : AsmFault) × IsFault source fault)
meaning-or_fault = whole.meaning-or_fault

-- The octets of the code that a source means spell it, with 0 in all unused fields.
pub meaning-plainly : (source : List ℕ) (code : List Instr) → IsMeaning source code → SpellsPlainly (code_octets code) code
meaning-plainly = fitting.meaning-plainly
