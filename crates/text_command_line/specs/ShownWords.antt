-- The words of a command line, as they are shown.
use Rattle.std.specs.Prelude.{ℕ, nat_lt, if◌then◌else◌, ◌<◌, List, [], ◌∷◌, Option, Some, None, chars, drop, encode_utf8_all, length, map}
use Rattle.std.specs.Char.{is_control}
use Rattle.std.specs.Str.Lossy.{utf8_lossy}

-- There is a word, and it has more than `most` octets.
abbrev pub IsLonger : ℕ → Option (List ℕ) → Type 0
IsLonger most None = ⊥
IsLonger most (Some word) = most < length word

-- Each command line has fewer words than this, 2^64 - 1.
abbrev pub most_words : ℕ
most_words = 18446744073709551615

-- The maximum number of octets of a word that is read.
abbrev pub most_word_octets : ℕ
most_word_octets = 1024

-- The character as it is shown: U+FFFD (65533) for a control character.
abbrev pub shown_character : ℕ → ℕ
shown_character character = if is_control character then 65533 else character

-- The octets as they are shown: their characters, with U+FFFD for each control character and for octets that aren't UTF-8.
abbrev pub shown_text : List ℕ → List ℕ
shown_text octets = encode_utf8_all (map shown_character (chars (utf8_lossy octets)))

-- The word as it is shown. A word that is too long is shown as U+FFFD: octet 255 stands for it, which is never UTF-8.
abbrev pub shown_word : List ℕ → List ℕ
shown_word word = shown_text (if nat_lt most_word_octets (length word) then 255 ∷ [] else word)

-- One shown word for each word after the program's name, in order.
abbrev pub shown_words : List (List ℕ) → List (List ℕ)
shown_words words = map shown_word (drop 1 words)
