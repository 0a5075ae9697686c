-- The tokens of a line of rules.
use Rattle.std.specs.Prelude.{ℕ, zero, suc, ◌+◌, ◌-◌, ◌==◌, ◌&&◌, ◌||◌, Bool, false, if◌then◌else◌, codes, take, slice_index, unwrap_or, List, [], ◌∷◌, Option, Some, None}
use Rattle.std.specs.Str.{bytes_eq}
use Rattle.bpf_asm.specs.Numbers.{number_of_word}
use Rattle.bpf_asm.specs.Tokens.{is_word}
use Rattle.bpf_code.specs.declared.instr.Size.{Size}
use Rattle.bpf_code.specs.declared.instr.Size.TheVariants.{Octet, Half, Word}
use Rattle.text_io.specs.Words.{is_blank, is_digit}
use Rattle.rules_text.specs.RulesRead.{FieldRead, gfc_field, vpi_field, vci_field, pti_field, clp_field, TestRead, any_cell, f5_cell, user_cell}
use Rattle.rules_text.specs.declared.lexer.Sign.{Sign}
use Rattle.rules_text.specs.declared.lexer.Sign.TheVariants.{Equal as equal_sign, Unequal as unequal_sign, Less as less_sign, AtMost as at_most_sign, Greater as greater_sign, AtLeast as at_least_sign}
use Rattle.rules_text.specs.TestWords.{cell_of_channel, cell_of_type, f4_cell, oam_cell, idle_cell}

-- A token: a word of the language (of those that are tests, the test), a number, a word that begins with a digit and is no number, any other
-- word, which may be a name, a mark, or anything else. The value of a contract comes from its name alone, and `no_room` from a name whose
-- tokens are more than names may add.
pub data RuleToken : Type 0 where
  test_word : TestRead → RuleToken
  not_word : RuleToken
  and_word : RuleToken
  or_word : RuleToken
  otherwise_word : RuleToken
  refuse_word : RuleToken
  side_word : RuleToken
  uni_word : RuleToken
  nni_word : RuleToken
  define_word : RuleToken
  contract_word : RuleToken
  name_word : RuleToken
  contract_value : ℕ → RuleToken
  no_room : RuleToken
  field_word : FieldRead → RuleToken
  size_word : Size → RuleToken
  number_word : ℕ → RuleToken
  bad_number : RuleToken
  arrow_mark : RuleToken
  open_brace : RuleToken
  close_brace : RuleToken
  open_parenthesis : RuleToken
  close_parenthesis : RuleToken
  mask_mark : RuleToken
  comma_mark : RuleToken
  dots_mark : RuleToken
  slash_mark : RuleToken
  star_mark : RuleToken
  sign_mark : Sign → RuleToken
  no_token : RuleToken

-- The words of the language. The last six of those that are tests are tcpdump's for channels.
abbrev pub rule_words : List (List ℕ × RuleToken)
rule_words =
    (codes "any", test_word any_cell) ∷ (codes "user", test_word user_cell) ∷ (codes "oam", test_word oam_cell)
    ∷ (codes "oamf4", test_word f4_cell) ∷ (codes "oamf4s", test_word (cell_of_channel 3))
    ∷ (codes "oamf4e", test_word (cell_of_channel 4)) ∷ (codes "oamf5", test_word f5_cell)
    ∷ (codes "oamf5s", test_word (cell_of_type 4)) ∷ (codes "oamf5e", test_word (cell_of_type 5))
    ∷ (codes "rm", test_word (cell_of_type 6)) ∷ (codes "metasig", test_word (cell_of_channel 1))
    ∷ (codes "bcast", test_word (cell_of_channel 2)) ∷ (codes "signal", test_word (cell_of_channel 5))
    ∷ (codes "ilmi", test_word (cell_of_channel 16)) ∷ (codes "idle", test_word idle_cell)
    ∷ (codes "oamf4sc", test_word (cell_of_channel 3)) ∷ (codes "oamf4ec", test_word (cell_of_channel 4))
    ∷ (codes "metac", test_word (cell_of_channel 1)) ∷ (codes "bcc", test_word (cell_of_channel 2))
    ∷ (codes "sc", test_word (cell_of_channel 5)) ∷ (codes "ilmic", test_word (cell_of_channel 16)) ∷ (codes "not", not_word)
    ∷ (codes "and", and_word) ∷ (codes "or", or_word) ∷ (codes "otherwise", otherwise_word) ∷ (codes "refuse", refuse_word)
    ∷ (codes "drop", refuse_word) ∷ (codes "side", side_word) ∷ (codes "uni", uni_word) ∷ (codes "nni", nni_word)
    ∷ (codes "define", define_word) ∷ (codes "contract", contract_word) ∷ (codes "gfc", field_word gfc_field)
    ∷ (codes "vpi", field_word vpi_field) ∷ (codes "vci", field_word vci_field) ∷ (codes "pti", field_word pti_field)
    ∷ (codes "clp", field_word clp_field) ∷ (codes "octet", size_word Octet) ∷ (codes "half", size_word Half)
    ∷ (codes "word", size_word Word) ∷ []

-- The marks of two octets.
abbrev pub long_marks : List (List ℕ × RuleToken)
long_marks =
    (codes "->", arrow_mark) ∷ (codes "..", dots_mark) ∷ (codes "&&", and_word) ∷ (codes "||", or_word)
    ∷ (codes "==", sign_mark equal_sign) ∷ (codes "!=", sign_mark unequal_sign) ∷ (codes "<=", sign_mark at_most_sign)
    ∷ (codes ">=", sign_mark at_least_sign) ∷ []

-- The marks of one octet.
abbrev pub short_marks : List (List ℕ × RuleToken)
short_marks =
    (codes "{", open_brace) ∷ (codes "}", close_brace) ∷ (codes "(", open_parenthesis) ∷ (codes ")", close_parenthesis)
    ∷ (codes "&", mask_mark) ∷ (codes ",", comma_mark) ∷ (codes "/", slash_mark) ∷ (codes "*", star_mark) ∷ (codes "!", not_word)
    ∷ (codes "=", sign_mark equal_sign) ∷ (codes "<", sign_mark less_sign) ∷ (codes ">", sign_mark greater_sign) ∷ []

-- The token that a table has for these octets, if it has one.
abbrev pub row_token : List ℕ → List (List ℕ × RuleToken) → Option RuleToken
row_token octets [] = None
row_token octets (row ∷ rows) = if bytes_eq octets row.0 then Some row.1 else row_token octets rows

-- A number token, or the bad one if there is no number.
abbrev pub number_read : Option ℕ → RuleToken
number_read (Some value) = number_word value
number_read None = bad_number

-- The token of a longest sequence of letters, digits and `_`.
unfoldable pub token_of_letters : List ℕ → RuleToken
token_of_letters letters =
    if is_digit (slice_index letters 0) then number_read (number_of_word letters) else unwrap_or (row_token letters rule_words) name_word

-- How many letters, digits and `_` octets begin with.
unfoldable pub letters_len : List ℕ → ℕ
letters_len [] = 0
letters_len (octet ∷ rest) = if is_word octet then letters_len rest + 1 else 0

-- A token, and how many octets it has.
pub record TokenCut : Type 0 where
  pub token : RuleToken
  pub size : ℕ

-- The longest mark, or one octet that begins none.
abbrev pub longest_mark : Option RuleToken → Option RuleToken → TokenCut
longest_mark (Some token) short = record { token = token; size = 2 }
longest_mark None short = record { token = unwrap_or short no_token; size = 1 }

-- The token that octets begin with, which don't begin with a blank or a comment.
unfoldable pub first_cut : List ℕ → TokenCut
first_cut octets =
    if is_word (slice_index octets 0)
    then record { token = token_of_letters (take (letters_len octets) octets); size = letters_len octets }
    else longest_mark (row_token (take 2 octets) long_marks) (row_token (take 1 octets) short_marks)

-- A token in its line: its column, and the column after it. Columns count from 1.
pub record RuleFound : Type 0 where
  pub token : RuleToken
  pub column : ℕ
  pub after : ℕ

-- The token in its line.
abbrev pub found_at : ℕ → TokenCut → RuleFound
found_at column cut = record { token = cut.token; column = column; after = column + cut.size }

-- Whether octets begin with a line feed (10).
abbrev pub begins_with_feed : List ℕ → Bool
begins_with_feed [] = false
begins_with_feed (octet ∷ rest) = octet == 10

-- Whether an octet with these after it separates tokens: a space, a tab, a line end, which is a line feed, or a carriage return (13)
-- before one, or `;` (59), which is always the last octet of its line.
abbrev pub separates : ℕ → List ℕ → Bool
separates octet rest = is_blank octet || ((octet == 10) || ((octet == 59) || ((octet == 13) && begins_with_feed rest)))

-- How many octets come before the end of a source line.
unfoldable pub before_feed : List ℕ → ℕ
before_feed [] = 0
before_feed (octet ∷ rest) = if octet == 10 then 0 else suc (before_feed rest)

-- The tokens of octets of a line, the first of which is at this column. The first `passed` octets belong to a token or a comment that began
-- before them, and are skipped. Blanks and line ends separate tokens. A comment begins at `#` (35) and ends with its source line.
unfoldable pub tokens_from : ℕ → ℕ → List ℕ → List RuleFound
tokens_from column passed [] = []
tokens_from column (suc passed) (octet ∷ rest) = tokens_from (column + 1) passed rest
tokens_from column zero (octet ∷ rest) =
    if separates octet rest then tokens_from (column + 1) zero rest else (
    if octet == 35 then tokens_from (column + 1) (before_feed rest) rest else (
    (found_at column (first_cut (octet ∷ rest)) ∷ tokens_from (column + 1) ((first_cut (octet ∷ rest)).size - 1) rest)))

-- The tokens of a line.
abbrev pub rule_tokens : List ℕ → List RuleFound
rule_tokens line = tokens_from 1 0 line
