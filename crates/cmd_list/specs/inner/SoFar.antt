-- The invariant of the trace's loop.
use Rattle.std.specs.Prelude.{◌≡◌, ℕ, ◌+◌, ◌<◌, ◌≤◌, List, [], ◌++◌, length, drop}
use Rattle.bpf_asm.specs.SourceLines.{source_lines}
use Rattle.bpf_code.specs.declared.instr.Instr.{Instr}
use Rattle.bpf_interp.specs.Registers.{HoldsScratch}
use Rattle.bpf_interp.specs.State.{State, At}
use Rattle.bpf_interp.specs.Value.{EndsIn}
use Rattle.bpf_interp.specs.declared.registers.Registers.{Registers}
use Rattle.cmd_list.specs.Comments.{listed_lines}
use Rattle.cmd_list.specs.Trace.{GoesThrough, step_lines}

-- If the machine goes from here through these states, it goes from the start through states of which the first `steps`
-- have the lines that were added.
abbrev pub Joins : List Instr → List ℕ → State → ℕ → List ℕ → List ℕ → List State → ℕ → Type 0
Joins code packet here steps before after later value =
    (whole : List State) × GoesThrough code packet (At 0 0 0 []) whole value × (length whole ≡ steps + length later)
    × (before ++ step_lines code (At 0 0 0 []) whole ≡ after ++ step_lines code here later)

-- The lines of the steps so far were added, and the machine is in a state with these registers and words, from which it
-- ends.
pub record IsTraced (code : List Instr) (packet : List ℕ) (before after : List ℕ) (registers : Registers) (words : List ℕ) (steps : ℕ) (lines : List ℕ) : Type 0 where
  pub memory : List (ℕ × ℕ)
  pub agrees : HoldsScratch memory words
  pub ends : (value : ℕ) × (left : ℕ) × EndsIn code packet (At registers.pc registers.a registers.x memory) value left
  pub within : registers.pc < length code
  pub skipped : registers.skipped ≤ registers.pc
  pub counted : steps ≤ registers.pc
  pub left : source_lines lines ≡ drop registers.pc (listed_lines code)
  pub joins : (later : List State) (value : ℕ) → GoesThrough code packet (At registers.pc registers.a registers.x memory) later value
      → Joins code packet (At registers.pc registers.a registers.x memory) steps before after later value
