-- Lines after a program that are cells. A relation, `Prints`, says which texts may answer a cell.
use Rattle.std.specs.Prelude.{◌≡◌, ℕ, ◌==◌, List, [], ◌∷◌, ◌++◌, length, codes, decimal, MatchOption, MatchBool}
use Rattle.bpf_code.specs.declared.instr.Instr.{Instr}
use Rattle.text_io.specs.declared.machine.Turn.TheVariants.{GoesOn}
use Rattle.text_words.specs.Hexadecimal.{octets_of_digits, cell_of_octets}
use Rattle.text_words.specs.FaultLines.{line, bad_line, bad_hex, wrong_length}
use Rattle.cmd_programs.specs.AfterProgram.{ProgramTexts}

-- The answer to octets on a cell line: that of the cell if they are one, otherwise an error with their number.
abbrev pub OctetsLine : (List ℕ → List ℕ → Type 0) → List ℕ → List ℕ → Type 0
OctetsLine Prints octets text = MatchBool (length octets == 52) (Prints octets text) (text ≡ wrong_length (length octets))

-- The answer to a cell line, which has one hexadecimal word.
abbrev pub CellLine : (List ℕ → List ℕ → Type 0) → List (List ℕ) → List ℕ → Type 0
CellLine Prints [] text = text ≡ bad_line
CellLine Prints (word ∷ []) text = MatchOption (octets_of_digits word) (text ≡ bad_hex) (λ octets. OctetsLine Prints (cell_of_octets octets) text)
CellLine Prints (word ∷ other ∷ words) text = text ≡ bad_line

-- The answer to a program is the number of its instructions. Each later line is a cell, and its answer is what the
-- relation has for the code and the cell.
abbrev pub cell_texts : (List Instr → List ℕ → List ℕ → Type 0) → ProgramTexts
cell_texts Prints = record {
  first = λ code text. text ≡ line (codes "accepted " ++ decimal (length code));
  later = λ code words text turn. CellLine (Prints code) words text × (turn ≡ GoesOn);
}

-- Every cell has a text.
abbrev pub EachCellHasText : (List ℕ → List ℕ → Type 0) → Type 0
EachCellHasText Prints = (octets : List ℕ) → (text : List ℕ) × Prints octets text
