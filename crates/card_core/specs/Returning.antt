-- What an accepted program does on a cell, in the terms of the machine (McCanne and Jacobson 1993).
use Rattle.std.specs.Prelude.{◌≡◌, ℕ, zero, suc, ◌<◌, ◌≤◌, List, [], length, IsSome}
use Rattle.bpf_code.specs.declared.instr.Instr.{Instr}
use Rattle.bpf_code.specs.Flow.{IsInstrAt}
use Rattle.bpf_code.specs.Scratch.{ReadsWord}
use Rattle.bpf_interp.specs.ScratchMemory.{word_in}
use Rattle.bpf_interp.specs.State.{State, At}
use Rattle.bpf_interp.specs.Step.{Step}
use Rattle.bpf_interp.specs.Value.{Value}

-- The machine comes to this state on the cell, in this many steps from place 0, with A and X at 0 and no scratch word
-- written.
abbrev pub ComesTo : List Instr → List ℕ → ℕ → State → Type 0
ComesTo code cell zero state = state ≡ At 0 0 0 []
ComesTo code cell (suc steps) state = (earlier : State) × ComesTo code cell steps earlier × Step code cell earlier state

-- The code returns on the cell, and nothing goes wrong on the way.
pub record ReturnsSafely (code : List Instr) (cell : List ℕ) : Type 0 where
  -- It returns one value, after at most as many steps as it has instructions.
  pub value : ℕ
  pub steps : ℕ
  pub returns : Value code cell value steps
  pub within : steps ≤ length code
  pub only : (other taken : ℕ) → Value code cell other taken → (other ≡ value) × (taken ≡ steps)
  -- It never leaves its code: each state that the machine comes to before it returns is at an instruction of the code.
  pub inside : (taken pc a x : ℕ) (m : List (ℕ × ℕ)) → ComesTo code cell taken (At pc a x m) → pc < length code
  -- It never reads an unwritten scratch word: each word that the instruction there reads has a value.
  pub written : (taken pc a x word : ℕ) (m : List (ℕ × ℕ)) (i : Instr) → ComesTo code cell taken (At pc a x m)
      → IsInstrAt code pc i → ReadsWord i word → IsSome (word_in m word)
  -- It never gets stuck: each such state has a next one.
  pub goes_on : (taken pc a x : ℕ) (m : List (ℕ × ℕ)) → ComesTo code cell taken (At pc a x m)
      → (next : State) × Step code cell (At pc a x m) next
