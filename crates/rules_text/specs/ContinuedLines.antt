-- The lines of rules of a text, and the places of their octets. A line of rules ends where its source line ends, but not inside
-- parentheses: there a line end is a blank. `;`, `{` and `}` end a line of rules earlier.
use Rattle.std.specs.Prelude.{ℕ, ◌+◌, ◌-◌, ◌==◌, ◌&&◌, ◌||◌, Bool, true, false, not, if◌then◌else◌, List, [], ◌∷◌, Some, None}
use Rattle.rules_text.specs.declared.place.RulePlace.{RulePlace}
use Rattle.rules_text.specs.declared.place.TextPlace.{TextPlace}

-- What is around an octet of a line: how many parentheses are open there, and whether it is in a comment.
pub record Enclosing : Type 0 where
  pub parentheses : ℕ
  pub comment : Bool

-- Where a line begins.
abbrev pub nothing_around : Enclosing
nothing_around = record { parentheses = 0; comment = false }

-- What is around the octet after this one, which is in no comment. A comment begins at `#` (35). `-` (45) begins only `->`, which ends a
-- test, so no parenthesis is open after it.
abbrev pub around_after : Enclosing → ℕ → Enclosing
around_after around octet =
    if octet == 35 then record around { comment = true } else (
    if octet == 40 then record around { parentheses = around.parentheses + 1 } else (
    if octet == 41 then record around { parentheses = around.parentheses - 1 } else (
    if octet == 45 then record around { parentheses = 0 } else around)))

-- What is around the next octet. A comment ends with its source line.
abbrev pub around_next : Enclosing → ℕ → Enclosing
around_next around octet =
    if around.comment
    then (if octet == 10 then record around { comment = false } else around)
    else around_after around octet

-- Whether a line of rules ends with this octet: a line feed (10) where no parenthesis is open; or outside of comments `;` (59), `{` (123)
-- or `}` (125).
abbrev pub is_line_end : Enclosing → ℕ → Bool
is_line_end around octet =
    if octet == 10 then around.parentheses == 0 else (not around.comment && ((octet == 59) || ((octet == 123) || (octet == 125))))

-- Whether octets begin with a `}` that ends a block.
abbrev pub closes_block : Enclosing → List ℕ → Bool
closes_block around [] = false
closes_block around (octet ∷ rest) = not around.comment && (octet == 125)

-- Whether a line of rules ends with this octet, where these octets come after it. It also ends just before a `}`.
abbrev pub ends_rule_line : Enclosing → ℕ → List ℕ → Bool
ends_rule_line around octet rest = is_line_end around octet || closes_block (around_next around octet) rest

-- These lines, with this octet put before the first.
abbrev pub first_begun_with : ℕ → List (List ℕ) → List (List ℕ)
first_begun_with octet [] = (octet ∷ []) ∷ []
first_begun_with octet (line ∷ lines) = (octet ∷ line) ∷ lines

-- The lines of rules of octets. The first of these lines began before, with this around its next octet.
unfoldable pub lines_going_on : Enclosing → List ℕ → List (List ℕ)
lines_going_on around [] = []
lines_going_on around (octet ∷ rest) =
    if ends_rule_line around octet rest
    then (octet ∷ []) ∷ lines_going_on nothing_around rest
    else first_begun_with octet (lines_going_on (around_next around octet) rest)

-- The lines of rules of a text. Each octet is in one of them.
unfoldable pub rule_lines : List ℕ → List (List ℕ)
rule_lines text = lines_going_on nothing_around text

-- How many line feeds octets have.
unfoldable pub feed_count : List ℕ → ℕ
feed_count [] = 0
feed_count (octet ∷ rest) = if octet == 10 then feed_count rest + 1 else feed_count rest

-- The beginning of a source line.
abbrev pub line_begin : ℕ → TextPlace
line_begin number = record { line = number; column = 1 }

-- The place after an octet at this place.
abbrev pub place_next : TextPlace → ℕ → TextPlace
place_next place octet = if octet == 10 then line_begin (place.line + 1) else record place { column = place.column + 1 }

-- The place after the last of these octets. The first is at this place.
unfoldable pub place_past : TextPlace → List ℕ → TextPlace
place_past place [] = place
place_past place (octet ∷ rest) = place_past (place_next place octet) rest

-- The place of the first token of a line of rules that begins at this place, where the token is at this column of the line. No source
-- line ends before that token.
abbrev pub first_token_place : TextPlace → ℕ → TextPlace
first_token_place begin column = record begin { column = begin.column + (column - 1) }

-- Where a line of rules begins, as it is printed: the number of its source line, and if the line doesn't begin that source line, the column
-- of its first token.
abbrev pub rule_place : TextPlace → ℕ → RulePlace
rule_place begin column = record {
  line = begin.line;
  column = (if begin.column == 1 then None else Some (first_token_place begin column).column);
}
