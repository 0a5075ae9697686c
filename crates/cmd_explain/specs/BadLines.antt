-- What is wrong in a line of a source, whatever the other lines are: a word that is no number, or tokens outside the grammar.
use Rattle.std.specs.Prelude.{ℕ, Bool, false, ◌&&◌, if◌then◌else◌, List, [], ◌∷◌, ◌++◌, codes, slice_get, Option, Some, None}
use Rattle.std.specs.Option.{is_none, is_some}
use Rattle.bpf_asm.specs.Numbers.{number_of_word}
use Rattle.text_io.specs.Words.{is_digit}
use Rattle.cmd_explain.specs.FoundTokens.{is_name}
use Rattle.cmd_explain_script.specs.FoundWords.{word_octets}
use Rattle.cmd_explain_script.specs.Meant.{perhaps_text}
use Rattle.cmd_explain_script.specs.Places.{quoted}
use Rattle.cmd_explain_script.specs.Tables.{near_among, value_among}
use Rattle.cmd_explain.specs.Forms.{known_mnemonics, most_fitting, operands_text, shapes_of}
use Rattle.cmd_explain.specs.declared.forms.Form.{Form}
use Rattle.cmd_explain_script.specs.declared.found_words.FoundWord.{FoundWord}

-- The octets begin with a digit and spell no number of at most 4294967295.
abbrev pub is_bad_number : List ℕ → Bool
is_bad_number [] = false
is_bad_number (octet ∷ rest) = is_digit octet && is_none (number_of_word (octet ∷ rest))

-- The first of these tokens that begins with a digit and spells no number.
abbrev pub first_bad_number : List ℕ → List FoundWord → Option FoundWord
first_bad_number text [] = None
first_bad_number text (token ∷ tokens) = if is_bad_number (word_octets text token) then Some token else first_bad_number text tokens

-- The first of these tokens that is a number.
abbrev pub first_number : List ℕ → List FoundWord → Option FoundWord
first_number text [] = None
first_number text (token ∷ tokens) = if is_some (number_of_word (word_octets text token)) then Some token else first_number text tokens

-- The octets of a token, if there is one.
abbrev pub octets_of : List ℕ → Option FoundWord → List ℕ
octets_of text None = []
octets_of text (Some token) = word_octets text token

-- The sentence about a word that is no number.
abbrev pub no_number_sentence : List ℕ → List ℕ
no_number_sentence word = quoted word ++ codes " is no number; a number is of decimal digits, or of hexadecimal digits after 0x, and at most 4294967295"

-- The sentence about a word that isn't a mnemonic.
unfoldable pub no_mnemonic_sentence : List ℕ → List ℕ
no_mnemonic_sentence word =
    if is_name word then quoted word ++ (codes " is no mnemonic" ++ perhaps_text (near_among word known_mnemonics))
    else quoted word ++ codes " begins no instruction and no label; a comment begins with `;`"

-- The sentence about the operands of a mnemonic.
abbrev pub operands_sentence : List ℕ → Form → List ℕ
operands_sentence mnemonic form = quoted mnemonic ++ (codes " takes " ++ operands_text form)

-- The sentence about a word that begins an instruction, by its entry among the mnemonics.
abbrev pub first_word_sentence : List ℕ → Option Form → List ℕ
first_word_sentence word None = no_mnemonic_sentence word
first_word_sentence word (Some form) = operands_sentence word form

-- The sentence about a line outside the grammar, by the tokens after its label.
abbrev pub bad_line_sentence : List ℕ → List FoundWord → List ℕ
bad_line_sentence text [] = codes "a line has a label, an instruction, both or nothing"
bad_line_sentence text (first ∷ operands) =
    first_word_sentence (word_octets text first) (value_among (word_octets text first) known_mnemonics)

-- The token that is wrong in a line outside the grammar, if one is: the first word, or the first operand that fits no form of the
-- mnemonic. None is wrong if the line ends too early.
abbrev pub wrong_operand : List ℕ → FoundWord → List FoundWord → Option Form → Option FoundWord
wrong_operand text first operands None = Some first
wrong_operand text first operands (Some form) = slice_get operands (most_fitting text (shapes_of form) operands)

-- The token that is wrong in a line outside the grammar, by the tokens after the label of the line.
abbrev pub wrong_token : List ℕ → List FoundWord → Option FoundWord
wrong_token text [] = None
wrong_token text (first ∷ operands) =
    wrong_operand text first operands (value_among (word_octets text first) known_mnemonics)
