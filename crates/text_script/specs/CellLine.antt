-- The content of a cell line: a cell at a moment, or one of three errors.
use Rattle.std.specs.Prelude.{◌≡◌, ◌≢◌, ℕ, List, Option, Some}
use Rattle.text_words.specs.CellWord.{IsCellWord}
use Rattle.text_words.specs.declared.hexadecimal.CellWord.{CellWord}
use Rattle.text_words.specs.declared.hexadecimal.CellWord.TheVariants.{OfCell, OfOthers, NoDigits}
use Rattle.text_script.specs.ScriptCommands.{Command, cell}
use Rattle.text_script.specs.declared.cell_line.CellLine.{CellLine}
use Rattle.text_script.specs.declared.cell_line.CellLine.TheVariants.{Comes, IsFaulty}
use Rattle.text_script.specs.declared.cell_line.CellLineFault.TheVariants.{BadLine, BadHex, WrongLength}

-- The command is a cell at this moment, whose word has this meaning.
abbrev pub Brings : Option Command → ℕ → CellWord → Type 0
Brings command moment found = (digits : List ℕ) × (command ≡ Some (cell moment digits)) × IsCellWord digits found

-- The command is a cell; or a cell whose word has an error; or no cell.
abbrev pub IsCellLine : Option Command → CellLine → Type 0
IsCellLine command (Comes moment octets) = Brings command moment (OfCell octets)
IsCellLine command (IsFaulty (WrongLength count)) = (moment : ℕ) × Brings command moment (OfOthers count)
IsCellLine command (IsFaulty BadHex) = (moment : ℕ) × Brings command moment NoDigits
IsCellLine command (IsFaulty BadLine) = (moment : ℕ) (digits : List ℕ) → command ≢ Some (cell moment digits)
