-- What is wrong in a line that is no command.
use Rattle.std.specs.Prelude.{ℕ, ◌==◌, Bool, true, false, if◌then◌else◌, List, [], ◌∷◌, ◌++◌, ◌||◌, codes, slice_get, take, Option, Some, None, option_map}
use Rattle.std.specs.Option.{is_some}
use Rattle.std.specs.Str.{bytes_eq}
use Rattle.upc_cell.specs.declared.side.Side.{Side}
use Rattle.upc_cell.specs.Side.{has_paths}
use Rattle.upc_cell.specs.declared.side.Side.TheVariants.{Uni, Nni, UniPaths, NniPaths}
use Rattle.text_script.specs.ScriptWords.{number_of_digits}
use Rattle.cmd_explain_script.specs.FoundWords.{word_octets}
use Rattle.cmd_explain_script.specs.Meant.{perhaps_text}
use Rattle.cmd_explain_script.specs.Places.{quoted}
use Rattle.cmd_explain_script.specs.ScriptForms.{card_commands, commands_at, opening_commands, side_or_user, slots_after, words_fitting}
use Rattle.cmd_explain_script.specs.Tables.{near_among, value_among}
use Rattle.cmd_explain_script.specs.declared.forms.ScriptForm.{ScriptForm}
use Rattle.cmd_explain_script.specs.declared.forms.ScriptForm.TheVariants as form
use Rattle.cmd_explain_script.specs.declared.forms.ScriptSlot.{ScriptSlot}
use Rattle.cmd_explain_script.specs.declared.forms.ScriptSlot.TheVariants as slot
use Rattle.cmd_explain_script.specs.declared.found_words.FoundWord.{FoundWord}

-- The word that is wrong, if one is: the name of no command, or the first word that the command doesn't take. None is wrong if the
-- line ends too early.
abbrev pub wrong_after : Side → List ℕ → FoundWord → List FoundWord → Option ScriptForm → Option FoundWord
wrong_after side line first words None = Some first
wrong_after side line first words (Some form) = slice_get words (words_fitting side line (slots_after form) words)

-- The word that is wrong in a line, by all its words.
abbrev pub wrong_word : Option Side → List ℕ → List FoundWord → Option FoundWord
wrong_word side line [] = None
wrong_word side line (first ∷ words) =
    wrong_after (side_or_user side) line first words (value_among (word_octets line first) (commands_at side))

-- Whether octets are a kind of contract with two buckets, and the colon after it.
abbrev pub is_vbr : List ℕ → Bool
is_vbr octets = bytes_eq octets (codes "vbr1:") || (bytes_eq octets (codes "vbr2:") || bytes_eq octets (codes "vbr3:"))

-- What is wrong with a word that is no contract, after the word: its kind, or the buckets after that.
abbrev pub no_contract_text : List ℕ → List ℕ
no_contract_text word =
    if bytes_eq (take 5 word) (codes "cbr1:") then codes " is no contract; after `cbr1:` comes one bucket `T/L`, its increment and its limit in ticks" else
    (if is_vbr (take 5 word) then
    codes " is no contract; after its kind come two buckets `T/L:T/L`, the increment and the limit of each in ticks, that of the peak rate first" else
    codes " is no contract; a contract is `cbr1:T/L`, `vbr1:T/L:T/L`, `vbr2:T/L:T/L` or `vbr3:T/L:T/L`, with increment T and limit L of each bucket")

-- What is wrong with a word that names no program, after the word.
abbrev pub no_program_text : List ℕ → List ℕ
no_program_text word =
    if is_some (number_of_digits word) then codes " names no program; perhaps `p" ++ (word ++ codes "` is meant")
    else codes " names no program; a name is `p` and a number, as `p1`"

-- What is wrong with a word that is no path at the user side, after the word.
abbrev pub user_paths_text : List ℕ
user_paths_text = codes " is no VPI; at the user side a VPI is at most 255, and between nodes (`nni` in the line of the card) at most 4095"

-- What is wrong with a word that is no path between nodes, after the word.
abbrev pub node_paths_text : List ℕ
node_paths_text = codes " is no VPI; between nodes a VPI is at most 4095"

-- What is wrong with a word that is no path, after the word.
abbrev pub no_path_text : Side → List ℕ
no_path_text Uni = user_paths_text
no_path_text Nni = node_paths_text
no_path_text UniPaths = user_paths_text
no_path_text NniPaths = node_paths_text

-- What is wrong with a word that is no channel, after the word.
abbrev pub no_channel_text : Side → List ℕ → List ℕ
no_channel_text side word =
    if has_paths side then codes " is no channel; the channel on a card of paths is `*`" else
    (if bytes_eq word (codes "*") then codes " is no VCI; `*` is the channel only on a card of paths" else
    codes " is no VCI; a VCI is at most 65535")

-- What is wrong with a word in a slot, after the word.
abbrev pub slot_text : Side → ScriptSlot → List ℕ → List ℕ
slot_text side slot.Size word = codes " is no number; the sizes of a card are decimal"
slot_text side slot.Side word = codes " is no side; the sides are `uni` and `nni`"
slot_text side slot.Paths word = codes " is no word of this line; after the side comes `paths` or nothing"
slot_text side slot.Path word = no_path_text side
slot_text side slot.Channel word = no_channel_text side word
slot_text side slot.Program word = no_program_text word
slot_text side slot.Contract word = no_contract_text word
slot_text side slot.Moment word = codes " is no moment; a moment is a decimal number of ticks"
slot_text side slot.Digits word = codes " is no word of digits"

-- What a command takes, in words, on a card of paths or of channels.
abbrev pub takes_text : ScriptForm → Bool → List ℕ
takes_text form.Opening paths =
    codes "the numbers of programs, lines and ports, the cells of a journal, perhaps `uni` or `nni`, and then perhaps `paths`"
takes_text form.Loading paths = codes "one word, the octets of a program"
takes_text form.Retiring paths = codes "the name of a program, as `p1`"
takes_text form.Setting false = codes "a VPI, a VCI, the name of a program, and one to four contracts"
takes_text form.Setting true = codes "a VPI, `*`, the name of a program, and one to four contracts"
takes_text form.Reloading false = codes "a VPI, a VCI and the name of a program"
takes_text form.Reloading true = codes "a VPI, `*` and the name of a program"
takes_text form.OneConnection false = codes "a VPI and a VCI"
takes_text form.OneConnection true = codes "a VPI and `*`"
takes_text form.Arrival paths = codes "a moment, and one word with the octets of a cell"

-- The sentence about the words that a command takes.
abbrev pub takes_sentence : Side → List ℕ → ScriptForm → List ℕ
takes_sentence side name form = quoted name ++ (codes " takes " ++ takes_text form (has_paths side))

-- Whether a word would begin a remark as the first of a line.
abbrev pub begins_remark : List ℕ → Bool
begins_remark [] = false
begins_remark (octet ∷ rest) = octet == 35

-- The sentence about a word in a slot, or after the last one.
abbrev pub slot_sentence : Side → List ℕ → ScriptForm → Option ScriptSlot → List ℕ → List ℕ
slot_sentence side name form None word = takes_sentence side name form
slot_sentence side name form (Some slot) word = quoted word ++ slot_text side slot word

-- The sentence about the word that a command doesn't take, or about a line that ends too early.
abbrev pub operand_sentence : Side → List ℕ → ScriptForm → Option ScriptSlot → Option (List ℕ) → List ℕ
operand_sentence side name form slot None = takes_sentence side name form
operand_sentence side name form slot (Some word) =
    if begins_remark word then codes "a remark has a line of its own, which begins with `#`" else slot_sentence side name form slot word

-- What follows a word that names no command: the command that was perhaps meant, or this text.
abbrev pub meant_or : Option (List ℕ) → List ℕ → List ℕ
meant_or None text = text
meant_or (Some command) text = perhaps_text (Some command)

-- What follows a word that opens no card: that the command was perhaps meant, or its form.
unfoldable pub meant_opening : List ℕ → List ℕ
meant_opening word =
    meant_or (near_among word opening_commands) (codes "; the first line with words is `card PROGRAMS LINES PORTS JOURNAL`, perhaps with a side")

-- What follows a word that is no command of an open card: the one that was perhaps meant, or all of them.
unfoldable pub meant_command : List ℕ → List ℕ
meant_command word =
    meant_or (near_among word card_commands) (codes "; the commands are cell, load, retire, setup, reload, release and cut")

-- A text, if there is one, or else this other.
abbrev pub text_or : Option (List ℕ) → List ℕ → List ℕ
text_or None other = other
text_or (Some text) other = text

-- What follows the word that begins the line of a setup with its tick, if this is that word.
abbrev pub tick_text : List ℕ → Option (List ℕ)
tick_text word =
    if bytes_eq word (codes "tick") then Some (codes "; a setup of `upc-lab police` may begin with one line `tick TIME`, as `tick 1us`") else None

-- What follows a word that begins lines of a setup and no command of `upc run`, if this is one.
abbrev pub setup_word_text : List ℕ → Option (List ℕ)
setup_word_text word =
    if bytes_eq word (codes "rules") then Some (codes "; a setup of `upc-lab police` has lines `rules NAME`, with nothing after the name") else
    (if bytes_eq word (codes "at") then Some (codes "; a setup of `upc-lab police` has lines `at TIME COMMAND`, as `at 5ms retire p1`") else tick_text word)

-- What follows a word that opens no card: the line of a setup that it begins, or what was perhaps meant.
unfoldable pub unopened_text : List ℕ → List ℕ
unopened_text word = text_or (tick_text word) (meant_opening word)

-- What follows a word that is no command of an open card: the line of a setup that it begins, or what was perhaps meant.
unfoldable pub uncommanded_text : List ℕ → List ℕ
uncommanded_text word = text_or (setup_word_text word) (meant_command word)

-- The sentence about the first word of a script, which opens no card.
unfoldable pub unopened_sentence : List ℕ → List ℕ
unopened_sentence word =
    quoted word ++ (codes " opens no card" ++ unopened_text word)

-- The sentence about a word that is no command of an open card.
unfoldable pub uncommanded_sentence : List ℕ → List ℕ
uncommanded_sentence word = quoted word ++ (codes " is no command" ++ uncommanded_text word)

-- The sentence about a word that names no command.
abbrev pub unknown_sentence : Option Side → List ℕ → List ℕ
unknown_sentence None word = unopened_sentence word
unknown_sentence (Some side) word =
    if bytes_eq word (codes "card") then codes "the card is open already; a script opens one" else uncommanded_sentence word

-- The sentence about a line that is no command, by what its first word takes.
abbrev pub command_sentence : Option Side → List ℕ → List ℕ → List FoundWord → Option ScriptForm → List ℕ
command_sentence side line name words None = unknown_sentence side name
command_sentence side line name words (Some form) =
    operand_sentence (side_or_user side) name form
    (slice_get (slots_after form) (words_fitting (side_or_user side) line (slots_after form) words))
    (option_map (word_octets line) (slice_get words (words_fitting (side_or_user side) line (slots_after form) words)))

-- The sentence about a line that is no command, by all its words.
abbrev pub wrong_sentence : Option Side → List ℕ → List FoundWord → List ℕ
wrong_sentence side line [] = codes "the line has no words"
wrong_sentence side line (first ∷ words) =
    command_sentence side line (word_octets line first) words (value_among (word_octets line first) (commands_at side))
