-- When the words of a line are a command, by the words that each command takes.
use Rattle.std.specs.Prelude.{◌≡◌, ℕ, ◌==◌, nat_le, ◌&&◌, Bool, false, List, [], ◌∷◌, length, Option, Some, None}
use Rattle.std.specs.Option.{is_some}
use Rattle.text_io.specs.Words.{words_of}
use Rattle.upc_cell.specs.declared.side.Side.{Side}
use Rattle.text_script.specs.ScriptCommands.{command_of}
use Rattle.cmd_explain_script.specs.FoundWords.{found_words, word_octets}
use Rattle.cmd_explain_script.specs.ScriptForms.{card_commands, slots_after, words_fitting}
use Rattle.cmd_explain_script.specs.Tables.{value_among}
use Rattle.cmd_explain_script.specs.declared.forms.ScriptForm.{ScriptForm}
use Rattle.cmd_explain_script.specs.declared.forms.ScriptForm.TheVariants as form
use Rattle.cmd_explain_script.specs.declared.found_words.FoundWord.{FoundWord}

-- The least number of words after a command.
abbrev pub least_words : ScriptForm → ℕ
least_words form.Opening = 4
least_words form.Loading = 1
least_words form.Retiring = 1
least_words form.Setting = 4
least_words form.Reloading = 3
least_words form.OneConnection = 2
least_words form.Arrival = 2

-- Whether these words may follow a command: there are enough, and each fits its slot.
abbrev pub fits_form : Side → List ℕ → List FoundWord → Option ScriptForm → Bool
fits_form side line words None = false
fits_form side line words (Some form) =
    nat_le (least_words form) (length words) && (words_fitting side line (slots_after form) words == length words)

-- Whether the words of a line are those of a command.
abbrev pub fits_command : Side → List ℕ → List FoundWord → Bool
fits_command side line [] = false
fits_command side line (first ∷ words) = fits_form side line words (value_among (word_octets line first) card_commands)

-- A line is a command of an open card exactly if its first word is the name of one, there are words enough after it, and each fits.
abbrev pub CommandsFit : Type 0
CommandsFit = (side : Side) (line : List ℕ) → is_some (command_of side (words_of line)) ≡ fits_command side line (found_words line)
