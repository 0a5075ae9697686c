-- Limits of an input that is answered line by line, and of reading ahead.
use Rattle.std.specs.Prelude.{ℕ, ◌^◌, ◌||◌, Bool, nat_le, nat_lt, length}
use Rattle.text_io.specs.Lines.{Line}

-- The maximum number of lines of an input.
abbrev pub most_input_lines : ℕ
most_input_lines = 1000000

-- The maximum number of octets of a line, with its carriage return and without its line feed.
abbrev pub most_line_octets : ℕ
most_line_octets = 70000

-- The line is over the limits: too many lines came before it (`met` is their number), or it is too long.
abbrev pub is_over : ℕ → Line → Bool
is_over met line = nat_le most_input_lines met || nat_lt most_line_octets (length line.octets)

-- The maximum number of octets read before they are needed.
abbrev pub most_ahead : ℕ
most_ahead = 2 ^ 17
