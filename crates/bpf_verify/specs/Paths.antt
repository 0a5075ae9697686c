-- Paths through a code, and the scratch words that they store.
use Rattle.std.specs.Prelude.{◌≡◌, ℕ, List, [], ◌∷◌, Any}
use Rattle.bpf_code.specs.declared.instr.Instr.{Instr}
use Rattle.bpf_code.specs.Flow.{IsInstrAt, IsSuccessor}
use Rattle.bpf_code.specs.Scratch.{ReadsWord, StoresWord}

-- The instruction at this place reads the scratch word.
abbrev pub Reads : List Instr → ℕ → ℕ → Type 0
Reads code word place = (i : Instr) × IsInstrAt code place i × ReadsWord i word

-- The instruction at this place stores the scratch word.
abbrev pub Stores : List Instr → ℕ → ℕ → Type 0
Stores code word place = (i : Instr) × IsInstrAt code place i × StoresWord i word

-- A path from place 0 to this place. The list has the places that the path passed before this one, the latest first. In
-- the order of execution each place is a successor of the one before.
abbrev pub IsPath : List Instr → List ℕ → ℕ → Type 0
IsPath code [] place = place ≡ 0
IsPath code (latest ∷ passed) place = IsPath code passed latest × IsSuccessor code latest place

-- Each path to this place has passed a store of each word that the instruction here reads.
abbrev pub IsWrittenAt : List Instr → ℕ → Type 0
IsWrittenAt code place =
    (word : ℕ) (passed : List ℕ) → IsPath code passed place → Reads code word place
    → Any (Stores code word) passed
