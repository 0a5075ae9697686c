-- The tokens of a line.
use Rattle.std.specs.Prelude.{ℕ, ◌-◌, ◌%◌, ◌^◌, Bool, true, false, ◌&&◌, ◌||◌, ◌==◌, nat_le, if◌then◌else◌, List, [], ◌∷◌, Option, Some, None, IsTrue}
use Rattle.std.specs.List.{filter_map}
use Rattle.bpf_asm.specs.SourceLines.{without_comment}
use Rattle.bpf_asm.specs.Numbers.{number_of_word}
use Rattle.text_io.specs.Words.{is_blank, is_digit}

-- A token: a name, a number, a word that begins with a digit and is no number, or any other octet. The grammar uses
-- only the octets `# [ ] + - * ( ) & , :`.
pub data Token : Type 0 where
  name : List ℕ → Token
  number : ℕ → Token
  faulty : Token
  mark : ℕ → Token

-- Whether the octet belongs to words: an ASCII letter, a digit or `_`.
abbrev pub is_word : ℕ → Bool
is_word octet = is_digit octet || (nat_le 65 octet && nat_le octet 90) || (nat_le 97 octet && nat_le octet 122) || octet == 95

-- Whether the piece is a run of octets of words. Its first octet decides: any other piece is a single octet.
abbrev pub is_run : List ℕ → Bool
is_run [] = false
is_run (octet ∷ rest) = is_word octet

-- The pieces of a line with one more octet in front. An octet of a word joins the run that follows; any other octet is a
-- piece of its own.
abbrev pub joined : ℕ → List (List ℕ) → List (List ℕ)
joined octet [] = (octet ∷ []) ∷ []
joined octet (piece ∷ pieces) = if is_word octet && is_run piece then (octet ∷ piece) ∷ pieces else (octet ∷ []) ∷ piece ∷ pieces

-- The pieces of a line: the longest runs of octets of words, and each other octet.
unfoldable pub pieces_of : List ℕ → List (List ℕ)
pieces_of [] = []
pieces_of (octet ∷ rest) = joined octet (pieces_of rest)

-- A number token, or the faulty token if there is no number.
abbrev pub number_token : Option ℕ → Token
number_token (Some value) = number value
number_token None = faulty

-- The token of a word: a number if it begins with a digit, otherwise a name.
unfoldable pub word_token : List ℕ → Token
word_token [] = name []
word_token (octet ∷ rest) = if is_digit octet then number_token (number_of_word (octet ∷ rest)) else name (octet ∷ rest)

-- The token of a piece. A blank has none.
abbrev pub token_of : List ℕ → Option Token
token_of [] = None
token_of (octet ∷ rest) =
    if is_word octet then Some (word_token (octet ∷ rest)) else (
    if is_blank octet then None else Some (mark octet))

-- The tokens of these octets of a line.
unfoldable pub tokens_of : List ℕ → List Token
tokens_of octets = filter_map token_of (pieces_of octets)

-- Whether the token is a word that begins with a digit and is no number.
abbrev pub is_faulty : Token → Bool
is_faulty faulty = true
is_faulty _ = false

-- Whether some token is faulty.
abbrev pub has_faulty : List Token → Bool
has_faulty [] = false
has_faulty (token ∷ tokens) = is_faulty token || has_faulty tokens

-- These tokens with one more in front: `#` before `-` and a number becomes `#` and 2^32 minus the number, modulo 2^32.
abbrev pub signed_after : Token → List Token → List Token
signed_after (mark hash) (mark minus ∷ number value ∷ tokens) =
    if hash == 35 && minus == 45 then mark hash ∷ number ((2 ^ 32 - value) % 2 ^ 32) ∷ tokens else mark hash ∷ mark minus ∷ number value ∷ tokens
signed_after token tokens = token ∷ tokens

-- The tokens, with each `-n` after a `#` as one number.
unfoldable pub signed : List Token → List Token
signed [] = []
signed (token ∷ tokens) = signed_after token (signed tokens)

-- The tokens that the grammar reads in these octets of a line.
unfoldable pub tokens_read : List ℕ → List Token
tokens_read octets = signed (tokens_of octets)

-- The tokens that the grammar reads in a line, before its comment.
unfoldable pub tokens_in : List ℕ → List Token
tokens_in line = tokens_read (without_comment line)

-- Some word of the line, before its comment, begins with a digit and is no number of at most 4294967295.
unfoldable pub HasBadNumber : List ℕ → Type 0
HasBadNumber line = IsTrue (has_faulty (tokens_of (without_comment line)))
