-- The tokens of a source line, with their columns. They are those of the assembler: the longest runs of octets of words, and each
-- other octet that is no blank.
use Rattle.std.specs.Prelude.{◌≡◌, ℕ, ◌+◌, Bool, false, ◌&&◌, not, if◌then◌else◌, List, [], ◌∷◌, ◌++◌, map, codes, Option, Some, None}
use Rattle.std.specs.List.{filter_map}
use Rattle.std.specs.Str.{bytes_eq}
use Rattle.bpf_asm.specs.Tokens.{is_word, token_of, tokens_of}
use Rattle.text_io.specs.Words.{is_blank, is_digit}
use Rattle.cmd_explain_script.specs.FoundWords.{word_octets}
use Rattle.cmd_explain_script.specs.declared.found_words.FoundWord.{FoundWord}

-- How many octets of a word these octets begin with.
abbrev pub run_size : List ℕ → ℕ
run_size [] = 0
run_size (octet ∷ rest) = if is_word octet then 1 + run_size rest else 0

-- How many octets the token has that these octets begin with.
abbrev pub token_size : List ℕ → ℕ
token_size [] = 0
token_size (octet ∷ rest) = if is_word octet then run_size (octet ∷ rest) else 1

-- Whether a token begins with this octet. `inside` says that the octet before it belongs to a word.
abbrev pub begins_token : Bool → ℕ → Bool
begins_token inside octet = if is_word octet then not inside else not (is_blank octet)

-- The token that begins with the first of these octets, which is in this column, if one does.
abbrev pub token_here : ℕ → Bool → List ℕ → List FoundWord
token_here column inside [] = []
token_here column inside (octet ∷ rest) =
    if begins_token inside octet then record { column = column; size = token_size (octet ∷ rest) } ∷ [] else []

-- The tokens of octets of a line, the first of which is in this column.
abbrev pub found_from : ℕ → Bool → List ℕ → List FoundWord
found_from column inside [] = []
found_from column inside (octet ∷ rest) =
    token_here column inside (octet ∷ rest) ++ found_from (column + 1) (is_word octet) rest

-- The tokens of a line. Columns count octets from 1.
unfoldable pub found_tokens : List ℕ → List FoundWord
found_tokens text = found_from 1 false text

-- The octets of the tokens that are found are those of the assembler's tokens, in order.
abbrev pub FindsTokens : Type 0
FindsTokens = (text : List ℕ) → filter_map token_of (map (word_octets text) (found_tokens text)) ≡ tokens_of text

-- The octets are a word that doesn't begin with a digit.
abbrev pub is_name : List ℕ → Bool
is_name [] = false
is_name (octet ∷ rest) = is_word octet && not (is_digit octet)

-- Two tokens are a label: a name, and `:`.
abbrev pub is_label : List ℕ → FoundWord → FoundWord → Bool
is_label text first second = is_name (word_octets text first) && bytes_eq (word_octets text second) (codes ":")

-- The tokens after the label of a line, if it has one.
abbrev pub after_label : List ℕ → List FoundWord → List FoundWord
after_label text [] = []
after_label text (first ∷ []) = first ∷ []
after_label text (first ∷ second ∷ rest) = if is_label text first second then rest else first ∷ second ∷ rest

-- The label of a line, if it has one.
abbrev pub label_of : List ℕ → List FoundWord → Option (List ℕ)
label_of text [] = None
label_of text (first ∷ []) = None
label_of text (first ∷ second ∷ rest) = if is_label text first second then Some (word_octets text first) else None
