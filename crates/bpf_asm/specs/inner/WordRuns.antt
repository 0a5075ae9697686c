-- Octets of words, and octets that are tokens by themselves.
use Rattle.std.specs.Prelude.{ℕ, Bool, true, not, ◌&&◌, ◌==◌, List, [], ◌∷◌}
use Rattle.bpf_asm.specs.Tokens.{is_word}
use Rattle.text_io.specs.Words.{is_blank}

-- Whether every octet belongs to words.
abbrev pub all_word : List ℕ → Bool
all_word [] = true
all_word (octet ∷ rest) = is_word octet && all_word rest

-- Whether the octet is a token by itself: it belongs to no word, is no blank and begins no comment.
abbrev pub is_mark : ℕ → Bool
is_mark octet = not (is_word octet) && (not (octet == 59) && not (is_blank octet))
