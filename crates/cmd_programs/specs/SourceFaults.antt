-- The fault lines of sources.
use Rattle.std.specs.Prelude.{ℕ, List, ◌++◌, codes, decimal}
use Rattle.bpf_asm.specs.declared.fault.AsmFault.{AsmFault}
use Rattle.bpf_asm.specs.declared.fault.AsmKind.{AsmKind}
use Rattle.bpf_asm.specs.declared.fault.AsmKind.TheVariants as asm
use Rattle.text_words.specs.FaultLines.{line}

-- The answer to an error of this kind in the line of this number, from 1. NoMemory is never printed.
abbrev pub asm_fault_line : AsmKind → ℕ → List ℕ
asm_fault_line asm.BadLine at = line (codes "fault asm 1 BadLine " ++ decimal at)
asm_fault_line asm.BadNumber at = line (codes "fault asm 2 BadNumber " ++ decimal at)
asm_fault_line asm.LabelTwice at = line (codes "fault asm 3 LabelTwice " ++ decimal at)
asm_fault_line asm.UnknownLabel at = line (codes "fault asm 4 UnknownLabel " ++ decimal at)
asm_fault_line asm.Backward at = line (codes "fault asm 5 Backward " ++ decimal at)
asm_fault_line asm.TooFar at = line (codes "fault asm 6 TooFar " ++ decimal at)
asm_fault_line asm.DanglingLabel at = line (codes "fault asm 7 DanglingLabel " ++ decimal at)
asm_fault_line asm.NoMemory at = line (codes "fault asm 8 NoMemory " ++ decimal at)

-- The answer to a source with an error.
abbrev pub asm_fault : AsmFault → List ℕ
asm_fault fault = asm_fault_line fault.kind fault.line
