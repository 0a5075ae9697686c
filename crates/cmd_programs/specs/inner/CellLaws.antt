-- Each line after a program has an answer if each cell has one. These laws are in `specs/` because implementations for cells
-- cite them.
use Rattle.std.proofs.Common.{◌≡◌, ℕ, ◌==◌, Bool, true, false, List, [], ◌∷◌, ◌++◌, Option, Some, None, length, codes, decimal, refl}
use Rattle.std.specs.Bool.{MatchBool}
use Rattle.std.specs.Option.{MatchOption}
use Rattle.bpf_code.specs.declared.instr.Instr.{Instr}
use Rattle.bpf_interp.proofs.Public.{Value-some}
use Rattle.bpf_verify.specs.Accepted.{IsAccepted}
use Rattle.cmd_programs.specs.AfterProgram.{AnswersAlways, LaterLine}
use Rattle.cmd_programs.specs.CellLines.{CellLine, EachCellHasText, OctetsLine, cell_texts}
use Rattle.cmd_programs.specs.Eval.{PrintsValue}
use Rattle.text_io.specs.declared.machine.Turn.TheVariants.{GoesOn}
use Rattle.text_words.specs.FaultLines.{line, bad_line, bad_hex, wrong_length}
use Rattle.text_words.specs.Hexadecimal.{octets_of_digits, cell_of_octets}

-- The text answers a line with this content after the program line, and the run goes on.
abbrev pub AnswersCellLine : (List Instr → List ℕ → List ℕ → Type 0) → List Instr → List ℕ → List ℕ → Type 0
AnswersCellLine Prints code content text = LaterLine (cell_texts Prints) code content text GoesOn

module _ (Prints : List ℕ → List ℕ → Type 0) (each : EachCellHasText Prints) where
  octets-line : (octets : List ℕ) (whole : Bool) → (text : List ℕ) × MatchBool whole (Prints octets text) (text ≡ wrong_length (length octets))
  octets-line octets true = each octets
  octets-line octets false = (wrong_length (length octets), refl)

  word-line : (octets : Option (List ℕ)) → (text : List ℕ) × MatchOption octets (text ≡ bad_hex) (λ found. OctetsLine Prints (cell_of_octets found) text)
  word-line None = (bad_hex, refl)
  word-line (Some octets) = octets-line (cell_of_octets octets) (length (cell_of_octets octets) == 52)

  cell-line : (words : List (List ℕ)) → (text : List ℕ) × CellLine Prints words text
  cell-line [] = (bad_line, refl)
  cell-line (word ∷ []) = word-line (octets_of_digits word)
  cell-line (word ∷ other ∷ words) = (bad_line, refl)

pub cells-total : (Prints : List Instr → List ℕ → List ℕ → Type 0) → ((code : List Instr) → IsAccepted code → EachCellHasText (Prints code)) → AnswersAlways (cell_texts Prints)
cells-total Prints each = record {
  first = λ code accepted. (line (codes "accepted " ++ decimal (length code)), refl);
  later = λ code accepted words. let printed = cell-line (Prints code) (each code accepted) words in (printed.0, GoesOn, (printed.1, refl));
}

-- An accepted code has a value on every cell.
pub prints-value : (code : List Instr) → IsAccepted code → EachCellHasText (PrintsValue code)
prints-value code accepted octets =
    let value = Value-some code octets accepted in
    (line (codes "value " ++ decimal value.0 ++ codes " steps " ++ decimal value.1), (value.0, value.1, value.2, refl))
