-- The output of `upc eval`. The first line with words is a program. Each later line is a cell, and its answer is the
-- program's value.
use Rattle.std.specs.Prelude.{◌≡◌, ℕ, List, ◌++◌, codes, decimal}
use Rattle.bpf_code.specs.declared.instr.Instr.{Instr}
use Rattle.bpf_interp.specs.Value.{Value}
use Rattle.text_io.specs.declared.ending.Done.{Done}
use Rattle.text_words.specs.FaultLines.{line}
use Rattle.cmd_programs.specs.AfterProgram.{IsProgramText}
use Rattle.cmd_programs.specs.CellLines.{cell_texts}

-- The answer to a cell: the program's value, and the number of instructions executed.
abbrev pub PrintsValue : List Instr → List ℕ → List ℕ → Type 0
PrintsValue code octets text =
    (value : ℕ) × (steps : ℕ) × Value code octets value steps × (text ≡ line (codes "value " ++ decimal value ++ codes " steps " ++ decimal steps))

-- The output for a whole input, and how the run ends.
abbrev pub IsEvalText : List ℕ → List ℕ → Done → Type 0
IsEvalText = IsProgramText (cell_texts PrintsValue)
