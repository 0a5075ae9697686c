-- Hexadecimal words.
use Rattle.std.specs.Prelude.{ℕ, ◌/◌, ◌%◌, ◌==◌, if◌then◌else◌, List, [], ◌∷◌, ◌++◌, length, replicate, Option}
use Rattle.std.specs.Result.{result_ok}
use Rattle.hex.specs.Hex.{decode_of, encode_lower}

-- The octets of a word of hexadecimal digits, two digits an octet, upper or lower case. None if the word has another
-- character or an odd number of digits.
abbrev pub octets_of_digits : List ℕ → Option (List ℕ)
octets_of_digits word = result_ok (decode_of word)

-- The cell of these octets. Four octets are a header, and the payload is zeros; any other number of octets is
-- unchanged.
abbrev pub cell_of_octets : List ℕ → List ℕ
cell_of_octets octets = if length octets == 4 then octets ++ replicate 48 0 else octets

-- A number below 2^16 as four hexadecimal digits.
abbrev pub four_digits : ℕ → List ℕ
four_digits n = encode_lower (n / 256 ∷ n % 256 ∷ [])
