-- The answers to the lines of a running script, one for each line, in the script's order.
use Rattle.std.specs.Prelude.{◌≡◌, ℕ, List, [], ◌∷◌, ◌++◌}
use Rattle.gen_arena.specs.declared.id.Id.{Id}
use Rattle.line_record.specs.Tally.{nothing, plus}
use Rattle.line_record.specs.declared.tally.Tally.{Tally}
use Rattle.upc_cell.specs.declared.side.Side.{Side}
use Rattle.text_io.specs.Words.{words_of}
use Rattle.cmd_ports.specs.LineAnswers.{MayAnswerLine}

-- The text is one answer for each line, in order, and nothing else. `names` are the ids of the programs that were loaded
-- before these lines, `names'` those afterwards. The counts are those of the cells that the answers say are judged.
abbrev pub AnswersEach : Side → List Id → List (List ℕ) → List Id → List ℕ → List Id → Tally → Type 0
AnswersEach side all [] names text names' counts = (text ≡ []) × (names' ≡ names) × (counts ≡ nothing)
AnswersEach side all (line ∷ lines) names text names' counts =
    (here : List ℕ) × (more : List ℕ) × (next : List Id) × (one : Tally) × (others : Tally)
    × (text ≡ here ++ more) × (counts ≡ plus one others)
    × MayAnswerLine side all (words_of line) names here next one × AnswersEach side all lines next more names' others

-- The text of a script's lines: its last names are those by which the cells' answers name programs.
abbrev pub AnswersScript : Side → List (List ℕ) → List ℕ → Tally → Type 0
AnswersScript side lines text counts = (all : List Id) × AnswersEach side all lines [] text all counts
