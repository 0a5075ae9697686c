-- The spelling of numbers.
use Rattle.std.specs.Prelude.{ℕ, ◌+◌, ◌-◌, ◌*◌, ◌^◌, Bool, false, ◌&&◌, ◌||◌, ◌==◌, nat_lt, nat_le, if◌then◌else◌, List, [], ◌∷◌, drop, Option, Some, None}

-- The value of a digit of base 16, and so of base 10. It is 16 for any other octet.
abbrev pub digit_of : ℕ → ℕ
digit_of octet =
    if nat_le 48 octet && nat_le octet 57 then octet - 48 else (
    if nat_le 97 octet && nat_le octet 102 then octet - 87 else (
    if nat_le 65 octet && nat_le octet 70 then octet - 55 else 16))

-- The number that digits of this base spell, the highest first, after digits with the value `high`.
unfoldable pub value_after : ℕ → ℕ → List ℕ → Option ℕ
value_after base high [] = Some high
value_after base high (octet ∷ rest) =
    if nat_lt (digit_of octet) base then value_after base (high * base + digit_of octet) rest else None

-- The number that one or more digits of this base spell.
abbrev pub value_in : ℕ → List ℕ → Option ℕ
value_in base [] = None
value_in base (octet ∷ rest) = value_after base 0 (octet ∷ rest)

-- Whether a word begins with `0x` or `0X`.
abbrev pub is_hexadecimal : List ℕ → Bool
is_hexadecimal (zero_digit ∷ sign ∷ digits) = zero_digit == 48 && (sign == 120 || sign == 88)
is_hexadecimal _ = false

-- The number of a word: hexadecimal after `0x` or `0X`, otherwise decimal. There is no octal.
abbrev pub value_of : List ℕ → Option ℕ
value_of word = if is_hexadecimal word then value_in 16 (drop 2 word) else value_in 10 word

-- The number, if there is one and it is at most 4294967295.
abbrev pub within_word : Option ℕ → Option ℕ
within_word None = None
within_word (Some value) = if nat_lt value (2 ^ 32) then Some value else None

-- The number of a word, if it spells one of at most 4294967295.
unfoldable pub number_of_word : List ℕ → Option ℕ
number_of_word word = within_word (value_of word)
