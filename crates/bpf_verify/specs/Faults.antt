-- The faults of a code, and which one is first.
use Rattle.std.specs.Prelude.{◌≡◌, ℕ, ◌-◌, ◌<◌, ◌≤◌, List, length, Any}
use Rattle.bpf_code.specs.declared.instr.Instr.{Instr}
use Rattle.bpf_code.specs.Flow.{IsInstrAt, IsReturn, JumpsTo}
use Rattle.bpf_code.specs.Operands.{DividesBy, ShiftsBy}
use Rattle.bpf_code.specs.Scratch.{NamesWord}
use Rattle.bpf_verify.specs.declared.fault.Fault.{Fault}
use Rattle.bpf_verify.specs.declared.fault.Fault.TheVariants.{Empty, TooLong, BadScratch, ZeroDivisor, BadShift, JumpOutside, NoReturn, Unwritten}
use Rattle.bpf_verify.specs.Accepted.{IsSized, IsSoundInstr, EndsInReturn}
use Rattle.bpf_verify.specs.Paths.{IsPath, IsWrittenAt, Reads, Stores}

-- The instruction has this fault by itself, at this place of a code of this many instructions.
abbrev pub IsOwnFault : ℕ → ℕ → Instr → Fault → Type 0
IsOwnFault size place i (BadScratch at) = (at ≡ place) × ((word : ℕ) × NamesWord i word × (16 ≤ word))
IsOwnFault size place i (ZeroDivisor at) = (at ≡ place) × DividesBy i 0
IsOwnFault size place i (BadShift at) = (at ≡ place) × ((count : ℕ) × ShiftsBy i count × (32 ≤ count))
IsOwnFault size place i (JumpOutside at) = (at ≡ place) × ((target : ℕ) × JumpsTo place i target × (size ≤ target))
IsOwnFault size place i _ = ⊥

-- Each instruction before this bound is sound by itself.
abbrev pub IsSoundBelow : List Instr → ℕ → Type 0
IsSoundBelow code bound =
    (place : ℕ) (i : Instr) → place < bound → IsInstrAt code place i → IsSoundInstr (length code) place i

-- The instruction at this place has this fault, and each instruction before it is sound by itself.
abbrev pub BreaksFirst : List Instr → ℕ → Fault → Type 0
BreaksFirst code place fault =
    IsSoundBelow code place × ((i : Instr) × IsInstrAt code place i × IsOwnFault (length code) place i fault)

-- The last instruction isn't a return.
abbrev pub LacksReturn : List Instr → Type 0
LacksReturn code = (i : Instr) → IsInstrAt code (length code - 1) i → ¬ IsReturn i

-- The instruction at this place reads the word, and some path to the place has passed no store of the word.
abbrev pub IsUnwrittenAt : List Instr → ℕ → ℕ → Type 0
IsUnwrittenAt code place word =
    Reads code word place × ((passed : List ℕ) × IsPath code passed place × (¬ Any (Stores code word) passed))

-- The fault is that of the first part of the check that fails. The parts, in order: the number of instructions; the
-- first instruction that isn't sound by itself; the return at the end; the first read of a word that some path to the
-- read doesn't store.
abbrev pub FailsFirst : List Instr → Fault → Type 0
FailsFirst code Empty = length code ≡ 0
FailsFirst code TooLong = 4096 < length code
FailsFirst code (BadScratch at) = IsSized code × BreaksFirst code at (BadScratch at)
FailsFirst code (ZeroDivisor at) = IsSized code × BreaksFirst code at (ZeroDivisor at)
FailsFirst code (BadShift at) = IsSized code × BreaksFirst code at (BadShift at)
FailsFirst code (JumpOutside at) = IsSized code × BreaksFirst code at (JumpOutside at)
FailsFirst code NoReturn = IsSized code × IsSoundBelow code (length code) × LacksReturn code
FailsFirst code (Unwritten at word) =
    IsSized code × IsSoundBelow code (length code) × EndsInReturn code
    × ((place : ℕ) → place < at → IsWrittenAt code place) × IsUnwrittenAt code at word
