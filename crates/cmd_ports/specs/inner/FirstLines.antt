-- The lines of a script before its first cell line.
use Rattle.std.specs.Prelude.{ℕ, if◌then◌else◌, List, [], ◌∷◌}
use Rattle.text_io.specs.Words.{words_of}
use Rattle.text_script.specs.Dealing.{is_cell_line}

-- The lines from the first cell line on.
abbrev pub from_first_cell : List (List ℕ) → List (List ℕ)
from_first_cell [] = []
from_first_cell (line ∷ lines) = if is_cell_line (words_of line) then line ∷ lines else from_first_cell lines
