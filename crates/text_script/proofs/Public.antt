-- The facts that higher crates may use in their proofs.
use Rattle.std.proofs.Common.{◌≡◌, ◌∙◌, ℕ, suc, if◌then◌else◌, false, List, [], ◌∷◌, ◌++◌, Option, Some, ap, codes, length}
use Rattle.std.specs.Option.{option_map}
use Rattle.text_io.specs.Words.{is_silent, words_of}
use Rattle.gen_arena.specs.SameId.{is_same_id}
use Rattle.gen_arena.specs.declared.id.Id.{Id}
use Rattle.text_words.specs.CellWord.{IsCellWord}
use Rattle.text_words.specs.declared.hexadecimal.CellWord.TheVariants.{OfCell}
use Rattle.upc_cell.specs.declared.side.Side.{Side}
use Rattle.text_script.specs.CommonLine.{IsCommonLine}
use Rattle.text_script.specs.Dealing.{AreLinesOf}
use Rattle.text_script.specs.ProgramNames.{number_of_program}
use Rattle.text_script.specs.ScriptCommands.{cell, command_of}
use Rattle.text_script.specs.ScriptWords.{number_of_digits}
use Rattle.text_script.specs.inner.SpelledCell.{SpellsCell}
use Rattle.text_script.proofs.LineLemmas as cutting
use Rattle.text_script.proofs.NamingLemmas as naming
use Rattle.text_script.proofs.SpelledCellLemmas as spelled

-- A line that begins as a cell line isn't silent.
pub command-asks : (line rest : List ℕ) → line ≡ codes "cell " ++ rest → is_silent (words_of line) ≡ false
command-asks = spelled.command-asks

-- A line of the common form has three words, of which the first is `cell`.
pub common-words : (line : List ℕ) (moment : ℕ) (here : List ℕ) → IsCommonLine line moment here
    → (number : List ℕ) × (word : List ℕ) × (words_of line ≡ codes "cell" ∷ number ∷ word ∷ [])
common-words line moment here is =
    let spells = spelled.cell-line line is.0 is.1 moment here is.2 is.3 is.4 in
    (spells.0, spells.1, spells.2)

-- A line of the common form is the command that brings its cell, on a card of either side.
pub common-command : (side : Side) (line : List ℕ) (moment : ℕ) (here : List ℕ) → IsCommonLine line moment here
    → (word : List ℕ) × (command_of side (words_of line) ≡ Some (cell moment word)) × IsCellWord word (OfCell here)
common-command side line moment here is =
    let spells = spelled.cell-line line is.0 is.1 moment here is.2 is.3 is.4 in
    (spells.1, ap (command_of side) spells.2 ∙ ap (λ (found : Option ℕ). option_map (λ ticks. cell ticks spells.1) found) spells.3, spells.4)

-- A line of the common form is three words that spell its cell.
pub cell-line : (line number word : List ℕ) (moment : ℕ) (here : List ℕ) → line ≡ codes "cell " ++ (number ++ 32 ∷ word)
    → number_of_digits number ≡ Some moment → IsCellWord word (OfCell here) → SpellsCell line moment here
cell-line = spelled.cell-line

-- The number of a program after one more was loaded.
pub number-push : (id last : Id) (ids : List Id)
    → number_of_program (ids ++ last ∷ []) id ≡ (if is_same_id id last then suc (length ids) else number_of_program ids id)
number-push = naming.number-push

-- No octet of the line is a line feed.
abbrev pub NoneBefore : List ℕ → List ℕ → Type 0
NoneBefore = cutting.NoneBefore

-- The first line is the octets before the first line feed, and the others are the lines of the octets after it.
pub starts_with : (line rest octets : List ℕ) (lines : List (List ℕ)) → octets ≡ line ++ 10 ∷ rest → NoneBefore line octets
    → AreLinesOf octets lines → cutting.StartsWith line rest lines
starts_with = cutting.starts_with

-- Octets without a line feed are the text of no lines.
pub no_lines : (octets : List ℕ) (lines : List (List ℕ)) → NoneBefore octets octets → AreLinesOf octets lines → lines ≡ []
no_lines = cutting.no_lines
