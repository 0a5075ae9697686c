-- The lines of a text of rules.
use Rattle.std.specs.Prelude.{ℕ, ◌+◌, ◌-◌, ◌==◌, Bool, true, false, not, ◌&&◌, ◌||◌, if◌then◌else◌, nat_lt, min, length, List, [], ◌∷◌, Option, Some, None}
use Rattle.std.specs.Str.{bytes_eq}
use Rattle.cmd_explain_rules.specs.WordsFound.{rule_word_octets, words_found}
use Rattle.cmd_explain_rules.specs.declared.token_parts.Part.{Part}
use Rattle.cmd_explain_rules.specs.declared.token_parts.Part.TheVariants as part
use Rattle.rules_text.specs.ContinuedLines.{place_past}
use Rattle.rules_text.specs.declared.fault.RuleFaultKind.{RuleFaultKind}
use Rattle.rules_text.specs.declared.fault.RuleFaultKind.TheVariants as kind
use Rattle.rules_text.specs.declared.place.TextPlace.{TextPlace}
use Rattle.cmd_explain_rules.specs.declared.rule_tokens.RuleWord.{RuleWord}

-- Whether a place comes before another.
abbrev pub comes_before : TextPlace → TextPlace → Bool
comes_before one other = nat_lt one.line other.line || ((one.line == other.line) && nat_lt one.column other.column)

-- Whether octets begin with `}` (125).
abbrev pub begins_with_close : List ℕ → Bool
begins_with_close [] = false
begins_with_close (octet ∷ rest) = octet == 125

-- Whether a line of rules that ends at this place has a fault of this kind at that one, where these lines follow. The last line has each
-- fault that no line before it has. A line that ends too early before a `}` has its fault at the `}`, which begins the next line.
abbrev pub has_fault : RuleFaultKind → TextPlace → TextPlace → List (List ℕ) → Bool
has_fault kind fault end [] = true
has_fault kind.BadLine fault end (next ∷ lines) = comes_before fault end || (begins_with_close next && not (comes_before end fault))
has_fault _ fault end (next ∷ lines) = comes_before fault end

-- The line of rules that has a fault of this kind at this place, and before it the place where the line begins. The first of these lines
-- begins at `begin`.
abbrev pub line_holding : TextPlace → List (List ℕ) → RuleFaultKind → TextPlace → TextPlace × List ℕ
line_holding begin [] kind fault = (begin, [])
line_holding begin (line ∷ lines) kind fault =
    if has_fault kind fault (place_past begin line) lines then (begin, line) else line_holding (place_past begin line) lines kind fault

-- How many octets the first `source_lines` source lines of a line of rules have.
abbrev pub octets_before : ℕ → List ℕ → ℕ
octets_before source_lines [] = 0
octets_before source_lines (octet ∷ rest) =
    if source_lines == 0 then 0 else octets_before (if octet == 10 then source_lines - 1 else source_lines) rest + 1

-- A column of the source line in which a line of rules begins, counted in the line of rules; a column of any other source line as it is.
abbrev pub column_from : TextPlace → TextPlace → ℕ
column_from begin place = if nat_lt begin.line place.line then place.column else place.column - (begin.column - 1)

-- The column of a place, counted in the line of rules that begins at another.
abbrev pub column_within : List ℕ → TextPlace → TextPlace → ℕ
column_within line begin place = octets_before (place.line - begin.line) line + min (column_from begin place) (length line + 1)

-- Whether a line that begins with this token gives a name.
abbrev pub begins_giving : Part → Bool
begins_giving part.Define = true
begins_giving part.Contract = true
begins_giving _ = false

-- Whether a line of these tokens gives this name.
abbrev pub gives : List ℕ → List ℕ → List RuleWord → Bool
gives name text [] = false
gives name text (first ∷ []) = false
gives name text (first ∷ second ∷ words) = begins_giving first.part && bytes_eq (rule_word_octets text second) name

-- The number of the source line in which the first line of rules begins that gives this name, if one does. The first of these lines begins
-- at this place.
abbrev pub giving_line : List ℕ → TextPlace → List (List ℕ) → Option ℕ
giving_line name begin [] = None
giving_line name begin (line ∷ lines) =
    if gives name line (words_found line) then Some begin.line else giving_line name (place_past begin line) lines

-- How many parentheses are open after a token.
abbrev pub depth_after : Part → ℕ → ℕ
depth_after part.LeftParenthesis depth = depth + 1
depth_after part.RightParenthesis depth = depth - 1
depth_after _ depth = depth

-- Whether a test ends before a token.
abbrev pub ends_test : Part → Bool
ends_test part.Arrow = true
ends_test part.LeftBrace = true
ends_test _ = false

-- How many parentheses are open where the test of these tokens ends, if this many were before them.
abbrev pub depth_from : ℕ → List RuleWord → ℕ
depth_from depth [] = depth
depth_from depth (word ∷ words) = if ends_test word.part then depth else depth_from (depth_after word.part depth) words

-- How many parentheses are open before this column, if this many were before these tokens.
abbrev pub depth_before : ℕ → ℕ → List RuleWord → ℕ
depth_before column depth [] = depth
depth_before column depth (word ∷ words) =
    if nat_lt word.column column then depth_before column (depth_after word.part depth) words else depth

-- The token in a column, if there is one.
abbrev pub word_at : ℕ → List RuleWord → Option RuleWord
word_at column [] = None
word_at column (word ∷ words) = if word.column == column then Some word else word_at column words
