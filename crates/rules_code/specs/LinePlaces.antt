-- Where the code of each line begins.
use Rattle.std.specs.Prelude.{ℕ, List, [], ◌∷◌, length, Option, None}
use Rattle.rules_code.specs.LineCode.{known_after_line, lines_coded}
use Rattle.rules_code.specs.declared.lines.Line.{Line}
use Rattle.rules_code.specs.declared.packet_part.Part.{Part}

-- For each line the number of instructions from the first of its own to the last of the code, where A holds this at the first line
-- if anything is known of it. A line without code has the number of the line after it.
unfoldable pub starts_where_held : List Line → Option Part → ℕ → List ℕ
starts_where_held [] held otherwise = []
starts_where_held (line ∷ lines) held otherwise =
    length (lines_coded (line ∷ lines) held otherwise).code ∷ starts_where_held lines (known_after_line line held) otherwise

-- For each line the number of instructions from the first of its own to the last of the code. These are all lines, so nothing is known of A
-- at the first.
abbrev pub line_starts_from_end : List Line → ℕ → List ℕ
line_starts_from_end lines otherwise = starts_where_held lines None otherwise
