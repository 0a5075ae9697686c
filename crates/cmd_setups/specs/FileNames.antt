-- How a message shows the name of a file that isn't a text for a terminal.
use Rattle.std.specs.Prelude.{ℕ, ◌==◌, ◌&&◌, not, nat_le, nat_lt, Bool, if◌then◌else◌, List, [], ◌∷◌, ◌++◌, codes}
use Rattle.hex.specs.Hex.{encode_lower}

-- A printable octet of ASCII, and no backslash (92).
abbrev pub is_printable : ℕ → Bool
is_printable octet = nat_le 32 octet && (nat_lt octet 127 && not (octet == 92))

-- The octet itself, or else a backslash, `x` and its two hexadecimal digits.
abbrev pub escaped_octet : ℕ → List ℕ
escaped_octet octet = if is_printable octet then octet ∷ [] else codes "\\x" ++ encode_lower (octet ∷ [])

-- Each octet of a name so.
abbrev pub escaped_name : List ℕ → List ℕ
escaped_name [] = []
escaped_name (octet ∷ octets) = escaped_octet octet ++ escaped_name octets
