-- The lines of a source.
use Rattle.std.specs.Prelude.{ℕ, ◌==◌, List, map}
use Rattle.std.specs.List.{before_first}
use Rattle.text_io.specs.Lines.{lines_of, line_content}

-- The lines of a source. Each ends with a line feed, and a carriage return just before it is dropped.
unfoldable pub source_lines : List ℕ → List (List ℕ)
source_lines source = map line_content (lines_of source)

-- The line before its comment, which begins at the first `;`.
abbrev pub without_comment : List ℕ → List ℕ
without_comment line = before_first (λ octet. octet == 59) line
