-- What the machine reads in a step was written.
use Rattle.std.proofs.Common.{◌≡◌, ℕ, List, Option, Some, refl}
use Rattle.std.specs.Option.{IsSome}
use Rattle.bpf_code.specs.Scratch.{ReadsWord}
use Rattle.bpf_code.specs.declared.instr.Instr.{Instr}
use Rattle.bpf_code.specs.declared.instr.Instr.TheVariants.{LoadMem, LdxMem}
use Rattle.bpf_interp.specs.ScratchMemory.{word_in}
use Rattle.bpf_interp.specs.State.{State}
use Rattle.bpf_interp.specs.Step.{Does}

found_some : (o : Option ℕ) (n : ℕ) → o ≡ Some n → IsSome o
found_some o n e = rw e refl

-- An instruction that leads to some state reads only words that were written.
pub does_reads : (packet : List ℕ) (i : Instr) (pc a x : ℕ) (m : List (ℕ × ℕ)) (s : State) → Does packet i pc a x m s → (index : ℕ) → ReadsWord i index → IsSome (word_in m index)
does_reads packet (LoadMem n) pc a x m s d index r = rw r (found_some (word_in m n) d.0 d.1.1)
does_reads packet (LdxMem n) pc a x m s d index r = rw r (found_some (word_in m n) d.0 d.1.1)
does_reads packet _ pc a x m s d index r = absurd r
