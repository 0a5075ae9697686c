-- What is promised of the code of lines.
use Rattle.std.specs.Prelude.{◌≡◌, ℕ, List, length}
use Rattle.bpf_code.specs.declared.instr.Instr.{Instr}
use Rattle.bpf_interp.specs.Value.{Value}
use Rattle.rules_code.specs.Lines.{value_of_lines}
use Rattle.rules_code.specs.declared.lines.Line.{Line}

-- On every packet of 52 octets the machine gives the value of the lines, and no other.
pub record Classifies (lines : List Line) (otherwise : ℕ) (code : List Instr) : Type 0 where
  pub gives : (packet : List ℕ) → length packet ≡ 52 → (steps : ℕ) × Value code packet (value_of_lines lines otherwise packet) steps
  pub only : (packet : List ℕ) (value steps : ℕ) → length packet ≡ 52 → Value code packet value steps → value ≡ value_of_lines lines otherwise packet
