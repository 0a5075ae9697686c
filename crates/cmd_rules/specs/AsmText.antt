-- The output of `upc-lab asm`. The whole input is a text of rules. The answer is a source of assembly: the listing of the program that
-- the rules are compiled to, and before the code of each line of rules a comment with that line.
use Rattle.std.specs.Prelude.{◌≡◌, ◌⊎◌, ℕ, ◌+◌, ◌-◌, ◌==◌, ◌&&◌, not, if◌then◌else◌, List, [], ◌∷◌, ◌++◌, length, codes, get_or, drop, Option, Some, None}
use Rattle.bpf_asm.specs.Listing.{listing_of}
use Rattle.bpf_asm.specs.Meaning.{IsMeaning}
use Rattle.bpf_asm.specs.SourceLines.{source_lines}
use Rattle.bpf_verify.specs.Accepted.{IsAccepted}
use Rattle.rules_text.specs.PlacesOfText.{IsCodeWithPlaces}
use Rattle.rules_text.specs.ValuesRead.{FollowsText}
use Rattle.rules_text.specs.declared.compiler.CodeWithPlaces.{CodeWithPlaces}
use Rattle.rules_text.specs.declared.place.RulePlace.{RulePlace}
use Rattle.text_io.specs.Lines.{Line, line_with_feed, lines_of}
use Rattle.text_io.specs.declared.ending.Done.{Done}
use Rattle.text_io.specs.declared.ending.Done.TheVariants.{Whole}
use Rattle.cmd_rules.specs.RuleBegins.{begin_at, begin_text}
use Rattle.cmd_rules.specs.RulesAnswers.{IsAnswerBy, MayBeAnswerBy, PrintsFault}

-- These lines, each after what `put` gives for its place. The first of them is at this place.
abbrev pub lines_with : (ℕ → List ℕ) → ℕ → List Line → List ℕ
lines_with put place [] = []
lines_with put place (line ∷ lines) = put place ++ (line_with_feed line ++ lines_with put (place + 1) lines)

-- A comment line of assembly.
abbrev pub comment_line : List ℕ → List ℕ
comment_line text = codes "; " ++ (text ++ codes "\n")

-- A source line from a column on, counted from 1; the whole line if there is no column.
abbrev pub from_column : Option ℕ → List ℕ → List ℕ
from_column None line = line
from_column (Some column) line = drop (column - 1) line

-- The comment of a line of rules: where it begins, and its source line from there on.
abbrev pub rule_comment : List (List ℕ) → RulePlace → List ℕ
rule_comment lines begin = comment_line (begin_text begin ++ (codes ": " ++ from_column begin.column (get_or lines (begin.line - 1) [])))

-- How many instructions the code has from the next line of rules on: the last return is one.
abbrev pub next_start_from_end : List ℕ → ℕ
next_start_from_end [] = 1
next_start_from_end (size ∷ starts_from_end) = size

-- The comment of the line of rules at this place, if its code begins where `left` instructions are left. `size` is the number of
-- instructions from the line on, and `next` the number from the next line on.
abbrev pub comment_at : List (List ℕ) → List RulePlace → ℕ → ℕ → ℕ → ℕ → List ℕ
comment_at lines begins left place size next =
    if size == left && not (size == next) then rule_comment lines (begin_at begins place) else []

-- The comments where `left` instructions are left: those of the lines of rules from this place on whose code begins there, and that
-- of `otherwise` before the last instruction. `starts_from_end` has the number of instructions from each line on.
abbrev pub comments_from : List (List ℕ) → List RulePlace → ℕ → ℕ → List ℕ → List ℕ
comments_from lines begins left place [] = if left == 1 then comment_line (codes "otherwise") else []
comments_from lines begins left place (size ∷ starts_from_end) =
    comment_at lines begins left place size (next_start_from_end starts_from_end) ++ comments_from lines begins left (place + 1) starts_from_end

-- The listing of a code of rules with its comments.
abbrev pub asm_text : List (List ℕ) → CodeWithPlaces → List ℕ
asm_text lines made =
    lines_with (λ place. comments_from lines made.begins.items (length made.placed.code.items - place) 0 made.placed.starts_from_end.items) 0
    (lines_of (listing_of made.placed.code.items))

-- The answer is the listing with its comments, and it means the code, which is accepted and on every cell gives the value of the
-- text's rules.
pub record PrintsAsmCode (text answer : List ℕ) (made : CodeWithPlaces) : Type 0 where
  pub accepted : IsAccepted made.placed.code.items
  pub follows : FollowsText text made.placed.code.items
  pub places : IsCodeWithPlaces text made
  pub answer_is : answer ≡ asm_text (source_lines text) made
  pub meaning : IsMeaning answer made.placed.code.items

-- The answer to a text of rules: the source of its program, or its fault.
abbrev pub PrintsAsm : List ℕ → List ℕ → Done → Type 0
PrintsAsm text answer done = ((made : CodeWithPlaces) × PrintsAsmCode text answer made × (done ≡ Whole)) ⊎ PrintsFault text answer done

-- The output for a whole input, and how the run ends.
abbrev pub IsAsmText : List ℕ → List ℕ → Done → Type 0
IsAsmText = IsAnswerBy PrintsAsm

-- As `IsAsmText`, but the code of any rules may be reported as too long.
abbrev pub MayBeAsmText : List ℕ → List ℕ → Done → Type 0
MayBeAsmText = MayBeAnswerBy PrintsAsm
