-- Fault lines: the part that found the error, the error's number and name, and for some errors a place or a length.
use Rattle.std.specs.Prelude.{ℕ, List, ◌++◌, codes, decimal}

-- The text and a line feed.
abbrev pub line : List ℕ → List ℕ
line text = text ++ codes "\n"

-- The answer to a line with the wrong form.
abbrev pub bad_line : List ℕ
bad_line = codes "fault script 1 BadLine\n"

-- The answer to a word that should be hexadecimal and isn't.
abbrev pub bad_hex : List ℕ
bad_hex = codes "fault script 3 BadHex\n"

-- The answer to an input without a program.
abbrev pub no_program : List ℕ
no_program = codes "fault script 4 NoProgram\n"

-- The answer to a line or an input over the limits.
abbrev pub too_long : List ℕ
too_long = codes "fault script 5 TooLong\n"

-- The answer to octets that aren't a cell, with their number.
abbrev pub wrong_length : ℕ → List ℕ
wrong_length octets = line (codes "fault cell 1 WrongLength " ++ decimal octets)
