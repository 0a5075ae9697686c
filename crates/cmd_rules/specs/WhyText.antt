-- The output of `upc-lab why`. The lines before the line `cells` are a text of rules, and each line after it has a cell. The answer to a
-- cell is the line of the rule that decides it, and its value. With `--count` cells have no answer, and at the end of the input each rule
-- has a line that says how many of them it decided.
use Rattle.std.specs.Prelude.{◌≡◌, ◌⊎◌, ◌≤◌, ℕ, ◌==◌, ◌&&◌, nat_le, Bool, false, if◌then◌else◌, List, [], ◌∷◌, ◌++◌, length, codes, decimal, Option, Some, None, Result, Ok, Err}
use Rattle.std.specs.List.{list_all}
use Rattle.std.specs.Str.{bytes_eq}
use Rattle.bpf_code.specs.declared.instr.Instr.{Instr}
use Rattle.rules_cells.specs.declared.deciding.Decision.{Decision}
use Rattle.rules_text.specs.CodeOfText.{IsCodeOfText}
use Rattle.rules_text.specs.DecisionsRead.{rules_decide}
use Rattle.rules_text.specs.TextOfRules.{PlacedRulesRead, placed_rules_in}
use Rattle.rules_text.specs.declared.place.RulePlace.{RulePlace}
use Rattle.text_io.specs.Gathered.{gathered}
use Rattle.text_io.specs.Limits.{most_line_octets}
use Rattle.text_io.specs.Lines.{Line, line_content, line_with_feed, lines_of}
use Rattle.text_io.specs.Printing.{Rules, Prints}
use Rattle.text_io.specs.Words.{is_digit, is_silent, words_of}
use Rattle.text_io.specs.declared.ending.Done.{Done}
use Rattle.text_io.specs.declared.ending.Done.TheVariants.{Whole}
use Rattle.text_words.specs.FaultLines.{line, bad_line, bad_hex, too_long, wrong_length}
use Rattle.text_words.specs.Hexadecimal.{octets_of_digits, cell_of_octets}
use Rattle.cmd_rules.specs.CountText.{counts_text, decider_text}
use Rattle.cmd_rules.specs.RulesAnswers.{AnswersBy, AreRulesOf, PrintsFault, PrintsLongCode, most_rules_octets}

-- The words say that cells follow.
abbrev pub are_cells : List (List ℕ) → Bool
are_cells [] = false
are_cells (word ∷ []) = bytes_eq word (codes "cells")
are_cells (word ∷ other ∷ words) = false

-- A line before its comment, which begins at the first `#` (35).
abbrev pub before_comment : List ℕ → List ℕ
before_comment [] = []
before_comment (octet ∷ octets) = if octet == 35 then [] else octet ∷ before_comment octets

-- The content of a line says that cells follow.
unfoldable pub says_cells : List ℕ → Bool
says_cells content = are_cells (words_of (before_comment content))

-- The line says that cells follow. A longer line than a cell's may be is one of the rules.
abbrev pub is_cells_line : Line → Bool
is_cells_line line = nat_le (length line.octets) most_line_octets && says_cells (line_content line)

-- The octets of the lines before the first line `cells`, or of all lines if there is none. They are the text of the rules.
abbrev pub rules_before : List Line → List ℕ
rules_before [] = []
rules_before (line ∷ lines) = if is_cells_line line then [] else line_with_feed line ++ rules_before lines

-- The lines after the first line `cells`.
abbrev pub lines_after : List Line → List Line
lines_after [] = []
lines_after (line ∷ lines) = if is_cells_line line then lines else lines_after lines

-- The value, which ends the answer's line.
abbrev pub value_text : ℕ → List ℕ
value_text value = line (codes " value " ++ decimal value)

-- The answer to a cell: the line that decides it, and its value.
abbrev pub decision_text : List RulePlace → Decision → List ℕ
decision_text begins decision = decider_text begins decision.line ++ value_text decision.value

-- The cell that octets are, or the answer to another number of octets.
abbrev pub cell_octets_read : List ℕ → Result (List ℕ) (List ℕ)
cell_octets_read octets = if length octets == 52 then Ok octets else Err (wrong_length (length octets))

-- The cell of a word, by the octets that it spells.
abbrev pub cell_word_read : Option (List ℕ) → Result (List ℕ) (List ℕ)
cell_word_read None = Err bad_hex
cell_word_read (Some octets) = cell_octets_read (cell_of_octets octets)

-- Whether a word is that of a moment: all of it is decimal digits. Which moment it is doesn't matter.
abbrev pub is_moment : List ℕ → Bool
is_moment = list_all is_digit

-- The word of the cell among the words of a line `cell MOMENT CELL`, as scripts have it.
abbrev pub word_of_cell_line : List (List ℕ) → Option (List ℕ)
word_of_cell_line (name ∷ moment ∷ word ∷ []) = if bytes_eq name (codes "cell") && is_moment moment then Some word else None
word_of_cell_line _ = None

-- The cell of a word, if there is one.
abbrev pub cell_if_word : Option (List ℕ) → Result (List ℕ) (List ℕ)
cell_if_word None = Err bad_line
cell_if_word (Some word) = cell_word_read (octets_of_digits word)

-- The cell of a line with words: one hexadecimal word, or the words of a line `cell MOMENT CELL`.
abbrev pub cell_words_read : List (List ℕ) → Result (List ℕ) (List ℕ)
cell_words_read [] = Err bad_line
cell_words_read (word ∷ []) = cell_word_read (octets_of_digits word)
cell_words_read (word ∷ other ∷ words) = cell_if_word (word_of_cell_line (word ∷ other ∷ words))

-- The cell of a line after the line `cells`, or the answer to a line without one. The answer to a line without words, and to a comment, is
-- empty.
abbrev pub cell_line_read : List (List ℕ) → Result (List ℕ) (List ℕ)
cell_line_read words = if is_silent words then Err [] else cell_words_read words

-- What the answers depend on: the rules, whether cells are counted, and the places of the rules that decided the cells so far, the last
-- cell's first. Only these places change.
pub record WhyWorld : Type 0 where
  pub placed_rules : PlacedRulesRead
  pub counts : Bool
  pub decided : List (Option ℕ)

-- The world before the first cell.
abbrev pub first_world : Bool → PlacedRulesRead → WhyWorld
first_world counts placed_rules = record { placed_rules = placed_rules; counts = counts; decided = [] }

-- The answer to a line after the line `cells`. A cell that is counted has none.
abbrev pub why_text : PlacedRulesRead → Bool → Result (List ℕ) (List ℕ) → List ℕ
why_text placed_rules counts (Ok cell) = if counts then [] else decision_text placed_rules.begins (rules_decide placed_rules.rules cell)
why_text placed_rules counts (Err answer) = answer

-- The world after such a line.
abbrev pub world_after_line : WhyWorld → Result (List ℕ) (List ℕ) → WhyWorld
world_after_line world (Ok cell) = record world { decided = (rules_decide world.placed_rules.rules cell).line ∷ world.decided }
world_after_line world (Err answer) = world

-- The answer to a line after the line `cells`, and the next world.
abbrev pub WhySteps : WhyWorld → List ℕ → List ℕ → Option WhyWorld → Type 0
WhySteps world content here next =
    (here ≡ why_text world.placed_rules world.counts (cell_line_read (words_of content)))
    × (next ≡ Some (world_after_line world (cell_line_read (words_of content))))

-- The answer to the end of the input: the counts, if cells are counted.
abbrev pub counts_at_end : WhyWorld → List ℕ
counts_at_end world = if world.counts then counts_text world.placed_rules world.decided else []

-- The end of the input.
abbrev pub WhyCloses : WhyWorld → List ℕ → Done → Type 0
WhyCloses world here done = (here ≡ counts_at_end world) × (done ≡ Whole)

-- The rules of `why` for the lines after the line `cells`.
abbrev pub why_rules : Rules WhyWorld
why_rules = record { steps = WhySteps; closes = WhyCloses; too_long = too_long; is_sound = λ world. Unit {0} }

-- The code that is defined for the text isn't too long: it has at most 4096 instructions.
pub record HasCode (text : List ℕ) : Type 0 where
  pub code : List Instr
  pub of_text : IsCodeOfText text code
  pub within : length code ≤ 4096

-- The answers to lines of cells by the rules of a text, or its fault. The code isn't needed to decide cells, but a text
-- of rules is one that can be compiled.
abbrev pub PrintsDecisions : Bool → List Line → List ℕ → List ℕ → Done → Type 0
PrintsDecisions counts cells text answer done =
    ((placed_rules : PlacedRulesRead) × (placed_rules_in text ≡ Ok placed_rules) × HasCode text × Prints why_rules 0 (first_world counts placed_rules) cells answer done)
    ⊎ PrintsFault text answer done

-- The text of the rules that come before the cells of an input, if it is within the limit of texts of rules.
abbrev pub rules_of_why : List ℕ → Option (List ℕ)
rules_of_why octets = gathered most_rules_octets (rules_before (lines_of octets))

-- The output for a whole input, and how the run ends. `counts` says whether cells are counted in place of answered.
abbrev pub IsWhyText : Bool → List ℕ → List ℕ → Done → Type 0
IsWhyText counts octets answer done = AnswersBy (PrintsDecisions counts (lines_after (lines_of octets))) (rules_of_why octets) answer done

-- As `IsWhyText`, but the code of any rules may be reported as too long. Every input has such an output, so if a device fails, what was
-- written is the beginning of one.
abbrev pub MayBeWhyText : Bool → List ℕ → List ℕ → Done → Type 0
MayBeWhyText counts octets answer done = IsWhyText counts octets answer done ⊎ (AreRulesOf (rules_of_why octets) × PrintsLongCode answer done)
