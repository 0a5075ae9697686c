-- The words that each command of a script takes.
use Rattle.std.specs.Prelude.{ℕ, ◌+◌, Bool, true, if◌then◌else◌, List, [], ◌∷◌, codes, Option, Some, None}
use Rattle.std.specs.Option.{is_some}
use Rattle.std.specs.Str.{bytes_eq}
use Rattle.text_card.specs.CardLine.{side_of}
use Rattle.upc_cell.specs.Side.{last_vpi}
use Rattle.upc_cell.specs.declared.side.Side.{Side}
use Rattle.text_script.specs.ScriptWords.{channel_named, number_of_digits, number_up_to, program_of, wanted_of}
use Rattle.cmd_explain_script.specs.FoundWords.{word_octets}
use Rattle.cmd_explain_script.specs.declared.forms.ScriptForm.{ScriptForm}
use Rattle.cmd_explain_script.specs.declared.forms.ScriptForm.TheVariants as form
use Rattle.cmd_explain_script.specs.declared.forms.ScriptSlot.{ScriptSlot}
use Rattle.cmd_explain_script.specs.declared.forms.ScriptSlot.TheVariants as slot
use Rattle.cmd_explain_script.specs.declared.found_words.FoundWord.{FoundWord}

-- The line that opens a card.
abbrev pub opening_commands : List (List ℕ × ScriptForm)
opening_commands = (codes "card", form.Opening) ∷ []

-- The commands of an open card.
abbrev pub card_commands : List (List ℕ × ScriptForm)
card_commands =
    (codes "cell", form.Arrival) ∷ (codes "load", form.Loading) ∷ (codes "retire", form.Retiring) ∷ (codes "setup", form.Setting)
    ∷ (codes "reload", form.Reloading) ∷ (codes "release", form.OneConnection) ∷ (codes "cut", form.OneConnection) ∷ []

-- The commands that a line may have: without a card, with none known, that which opens one.
abbrev pub commands_at : Option Side → List (List ℕ × ScriptForm)
commands_at None = opening_commands
commands_at (Some side) = card_commands

-- The words that may follow, in order. Of the contracts one is enough. The side may be left out, and so may `paths` after it.
abbrev pub slots_after : ScriptForm → List ScriptSlot
slots_after form.Opening = slot.Size ∷ slot.Size ∷ slot.Size ∷ slot.Size ∷ slot.Side ∷ slot.Paths ∷ []
slots_after form.Loading = slot.Digits ∷ []
slots_after form.Retiring = slot.Program ∷ []
slots_after form.Setting =
    slot.Path ∷ slot.Channel ∷ slot.Program ∷ slot.Contract ∷ slot.Contract ∷ slot.Contract ∷ slot.Contract ∷ []
slots_after form.Reloading = slot.Path ∷ slot.Channel ∷ slot.Program ∷ []
slots_after form.OneConnection = slot.Path ∷ slot.Channel ∷ []
slots_after form.Arrival = slot.Moment ∷ slot.Digits ∷ []

-- The side of a card, or the user side if there is none yet.
abbrev pub side_or_user : Option Side → Side
side_or_user None = Side.Uni
side_or_user (Some side) = side

-- Whether a word may be in a slot, on a card of this side.
abbrev pub fits_script_slot : Side → ScriptSlot → List ℕ → Bool
fits_script_slot side slot.Size word = is_some (number_of_digits word)
fits_script_slot side slot.Side word = is_some (side_of word)
fits_script_slot side slot.Paths word = bytes_eq word (codes "paths")
fits_script_slot side slot.Path word = is_some (number_up_to (last_vpi side) word)
fits_script_slot side slot.Channel word = is_some (channel_named side word)
fits_script_slot side slot.Program word = is_some (program_of word)
fits_script_slot side slot.Contract word = is_some (wanted_of word)
fits_script_slot side slot.Moment word = is_some (number_of_digits word)
fits_script_slot side slot.Digits word = true

-- How many of the first words fit these slots.
abbrev pub words_fitting : Side → List ℕ → List ScriptSlot → List FoundWord → ℕ
words_fitting side line [] words = 0
words_fitting side line (one ∷ slots) [] = 0
words_fitting side line (one ∷ slots) (word ∷ words) =
    if fits_script_slot side one (word_octets line word) then 1 + words_fitting side line slots words else 0
