-- The words of a line, with their columns.
use Rattle.std.specs.Prelude.{◌≡◌, ℕ, ◌+◌, ◌-◌, Bool, false, ◌&&◌, not, if◌then◌else◌, List, [], ◌∷◌, ◌++◌, map, take, drop, Option, Some, None}
use Rattle.text_io.specs.Words.{is_blank, words_of}
use Rattle.cmd_explain_script.specs.declared.found_words.FoundWord.{FoundWord}

-- How many octets the word at the beginning of these octets has.
abbrev pub word_size : List ℕ → ℕ
word_size [] = 0
word_size (octet ∷ rest) = if is_blank octet then 0 else 1 + word_size rest

-- Whether a word begins with this octet. `inside` says that the octet before it belongs to a word.
abbrev pub begins_word : Bool → ℕ → Bool
begins_word inside octet = not inside && not (is_blank octet)

-- The word that begins with the first of these octets, which is in this column, if one does.
abbrev pub word_here : ℕ → Bool → List ℕ → List FoundWord
word_here column inside [] = []
word_here column inside (octet ∷ rest) =
    if begins_word inside octet then record { column = column; size = word_size (octet ∷ rest) } ∷ [] else []

-- The words of octets of a line, the first of which is in this column.
abbrev pub words_from : ℕ → Bool → List ℕ → List FoundWord
words_from column inside [] = []
words_from column inside (octet ∷ rest) = word_here column inside (octet ∷ rest) ++ words_from (column + 1) (not (is_blank octet)) rest

-- The words of a line. Columns count octets from 1.
unfoldable pub found_words : List ℕ → List FoundWord
found_words line = words_from 1 false line

-- The octets of a word.
abbrev pub word_octets : List ℕ → FoundWord → List ℕ
word_octets line word = take word.size (drop (word.column - 1) line)

-- The column of a word, if there is one.
abbrev pub column_of : Option FoundWord → Option ℕ
column_of None = None
column_of (Some word) = Some word.column

-- The octets of the words that are found are the words of the line, in order.
abbrev pub FindsWords : Type 0
FindsWords = (line : List ℕ) → map (word_octets line) (found_words line) ≡ words_of line
