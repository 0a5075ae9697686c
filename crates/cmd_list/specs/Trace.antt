-- The output of `upc-lab trace`. The first line with words is a program. Each later line is a cell, and its answer is a
-- line for each step of the machine on it, and then the answer of `upc eval`.
use Rattle.std.specs.Prelude.{◌≡◌, ℕ, List, [], ◌∷◌, ◌++◌, length, get_or, slice_get, codes, decimal, Option, Some, None}
use Rattle.bpf_code.specs.declared.instr.Instr.{Instr}
use Rattle.bpf_code.specs.declared.instr.Instr.TheVariants.{Store, StoreX}
use Rattle.bpf_interp.specs.State.{State, At, Ended}
use Rattle.bpf_interp.specs.Step.{Step}
use Rattle.byteorder.specs.Endian.{big_bytes}
use Rattle.hex.specs.Hex.{encode_lower}
use Rattle.cmd_list.specs.Comments.{commented, listed_lines}
use Rattle.text_io.specs.declared.ending.Done.{Done}
use Rattle.cmd_programs.specs.AfterProgram.{IsProgramText}
use Rattle.cmd_programs.specs.CellLines.{cell_texts}
use Rattle.text_words.specs.FaultLines.{line}

-- A number of 32 bits as eight hexadecimal digits.
abbrev pub word_text : ℕ → List ℕ
word_text number = encode_lower (big_bytes 4 number)

-- A scratch word: its index and its value.
abbrev pub scratch_text : ℕ → ℕ → List ℕ
scratch_text index value = codes " m" ++ decimal index ++ codes " " ++ word_text value

-- The scratch word that a store wrote: the latest write of the memory after it. Other instructions write none.
abbrev pub written_text : Instr → List (ℕ × ℕ) → List ℕ
written_text (Store k) (write ∷ m) = scratch_text write.0 write.1
written_text (StoreX k) (write ∷ m) = scratch_text write.0 write.1
written_text _ m = []

-- The registers A and X.
abbrev pub registers_text : ℕ → ℕ → List ℕ
registers_text a x = codes "a " ++ word_text a ++ codes " x " ++ word_text x

-- The value with which an instruction ended the program.
abbrev pub end_text : ℕ → List ℕ
end_text value = codes "ends " ++ word_text value

-- What the machine holds after the instruction: A, X and the scratch word that it wrote, or the value that it ended the
-- program with.
abbrev pub result_text : Instr → State → List ℕ
result_text i (At pc a x m) = registers_text a x ++ written_text i m
result_text i (Ended value) = end_text value

-- The line of the instruction at a place: its line in the listing, with what the machine holds after it.
abbrev pub instruction_line : List Instr → ℕ → Option Instr → State → List ℕ
instruction_line code place None next = []
instruction_line code place (Some i) next = commented (get_or (listed_lines code) place []) (result_text i next)

-- The line of the step from a state to the next.
abbrev pub step_line : List Instr → State → State → List ℕ
step_line code (At pc a x m) next = instruction_line code pc (slice_get code pc) next
step_line code (Ended value) next = []

-- The machine goes from the state through these later ones, by one step each, and the last has ended with the value.
abbrev pub GoesThrough : List Instr → List ℕ → State → List State → ℕ → Type 0
GoesThrough code packet here [] value = here ≡ Ended value
GoesThrough code packet here (next ∷ later) value = Step code packet here next × GoesThrough code packet next later value

-- The lines of the steps from the state through the later ones.
abbrev pub step_lines : List Instr → State → List State → List ℕ
step_lines code here [] = []
step_lines code here (next ∷ later) = step_line code here next ++ step_lines code next later

-- The answer to a cell: the lines of the steps from place 0, with A and X at 0 and no scratch word written, and then the
-- program's value and the number of those lines.
abbrev pub PrintsTrace : List Instr → List ℕ → List ℕ → Type 0
PrintsTrace code octets text =
    (later : List State) × (value : ℕ) × GoesThrough code octets (At 0 0 0 []) later value
    × (text ≡ step_lines code (At 0 0 0 []) later ++ line (codes "value " ++ decimal value ++ codes " steps " ++ decimal (length later)))

-- The output for a whole input, and how the run ends.
abbrev pub IsTraceText : List ℕ → List ℕ → Done → Type 0
IsTraceText = IsProgramText (cell_texts PrintsTrace)
