-- The words of a line: the longest sequences of octets without spaces and tabs.
use Rattle.std.specs.Prelude.{ℕ, ◌==◌, ◌&&◌, ◌||◌, nat_le, Bool, true, false, if◌then◌else◌, List, [], ◌∷◌, filter}

-- Spaces (32) and tabs (9) separate words; no other octet does.
abbrev pub is_blank : ℕ → Bool
is_blank octet = (octet == 32) || (octet == 9)

-- An ASCII digit: 0 (48) to 9 (57).
abbrev pub is_digit : ℕ → Bool
is_digit octet = nat_le 48 octet && nat_le octet 57

-- Puts an octet in front of the first part.
abbrev pub part_begun_with : ℕ → List (List ℕ) → List (List ℕ)
part_begun_with octet [] = (octet ∷ []) ∷ []
part_begun_with octet (part ∷ parts) = (octet ∷ part) ∷ parts

-- The parts before, between and after the blanks; some may be empty.
abbrev pub parts_of : List ℕ → List (List ℕ)
parts_of [] = [] ∷ []
parts_of (octet ∷ octets) = if is_blank octet then [] ∷ parts_of octets else part_begun_with octet (parts_of octets)

-- The part isn't empty.
abbrev pub is_filled : List ℕ → Bool
is_filled [] = false
is_filled (octet ∷ octets) = true

-- The words: the parts that aren't empty.
abbrev pub words_of : List ℕ → List (List ℕ)
words_of octets = filter is_filled (parts_of octets)

-- A comment: the first word begins with `#` (35).
abbrev pub is_remark : List (List ℕ) → Bool
is_remark [] = false
is_remark ([] ∷ words) = false
is_remark ((octet ∷ octets) ∷ words) = octet == 35

-- The line has no words or is a comment.
abbrev pub is_silent : List (List ℕ) → Bool
is_silent [] = true
is_silent (word ∷ words) = is_remark (word ∷ words)
