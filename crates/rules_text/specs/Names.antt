-- The names of a text, and how a line with names is read: as if what a name means stood there in its place.
use Rattle.std.specs.Prelude.{ℕ, ◌-◌, Bool, true, false, if◌then◌else◌, nat_lt, slice_range, length, map, List, [], ◌∷◌, ◌++◌, Option, Some, None}
use Rattle.std.specs.Str.{bytes_eq}
use Rattle.bpf_code.specs.declared.instr.Size.TheVariants.{Word}
use Rattle.rules_text.specs.LineGrammar.{Awaited, Reading, awaits_start, awaits_low, awaits_only_value, awaits_unit, field_list, may_be_name, nothing_read, subject_of}
use Rattle.rules_text.specs.RulesRead.{octets_field}
use Rattle.rules_text.specs.RuleTokens.{RuleFound, RuleToken, name_word, no_room, refuse_word, number_word, bad_number, arrow_mark, open_brace, open_parenthesis, close_parenthesis, comma_mark, dots_mark, slash_mark, no_token}

-- A name: its letters, and the tokens that it means.
pub record NameRead : Type 0 where
  pub letters : List ℕ
  pub tokens : List RuleToken

-- What a name means, if it was given.
abbrev pub name_meaning : List NameRead → List ℕ → Option (List RuleToken)
name_meaning [] letters = None
name_meaning (name ∷ names) letters = if bytes_eq letters name.letters then Some name.tokens else name_meaning names letters

-- The letters of a token of a line.
abbrev pub letters_of : List ℕ → RuleFound → List ℕ
letters_of line found = slice_range line (found.column - 1) (found.after - 1)

-- What is read: a line of rules, the value of a contract, or what a definition means, a test or a list.
pub data FormRead : Type 0 where
  rule_form : FormRead
  value_form : FormRead
  test_form : FormRead
  list_form : FormRead

-- What a line, a value or a definition begins with. The field that the numbers of a list are compared with is known only where the name is
-- used; until then each number of 32 bits fits.
abbrev pub first_awaited : FormRead → Awaited
first_awaited rule_form = awaits_start
first_awaited value_form = awaits_only_value
first_awaited test_form = awaits_unit
first_awaited list_form = awaits_low (field_list (subject_of (octets_field Word 0)))

-- Nothing was read in this form.
abbrev pub form_start : FormRead → Reading
form_start form = record nothing_read { awaited = first_awaited form }

-- The token, if this form admits it, otherwise one that fits nowhere. A definition has no `->` and no `{`, and a list has only numbers,
-- names, `,` and `..`.
abbrev pub admitted : FormRead → RuleToken → RuleToken
admitted rule_form token = token
admitted value_form token = token
admitted test_form arrow_mark = no_token
admitted test_form open_brace = no_token
admitted test_form token = token
admitted list_form (number_word k) = number_word k
admitted list_form bad_number = bad_number
admitted list_form name_word = name_word
admitted list_form comma_mark = comma_mark
admitted list_form dots_mark = dots_mark
admitted list_form _ = no_token

-- The tokens that are read after those of a line. After a definition they are `-> refuse`, so its test must be complete, as before the `->`
-- of a rule.
abbrev pub ending : FormRead → List RuleToken
ending rule_form = []
ending value_form = []
ending test_form = arrow_mark ∷ refuse_word ∷ []
ending list_form = arrow_mark ∷ refuse_word ∷ []

-- These tokens, each with the columns of the one token in whose place they are read.
abbrev pub all_at : ℕ → ℕ → List RuleToken → List RuleFound
all_at column after tokens = map (λ token. record { token = token; column = column; after = after }) tokens

-- The most tokens that the names of a text add: the tokens of a name count wherever it is read.
abbrev pub most_added : ℕ
most_added = 262144

-- What is read for a name with this meaning, where names may still add this many tokens: all of it, or `no_room` if it has more.
abbrev pub within_room : ℕ → Option (List RuleToken) → List RuleToken
within_room room None = []
within_room room (Some tokens) = if nat_lt room (length tokens) then no_room ∷ [] else tokens

-- The tokens that a token means, if it is a name that was given.
abbrev pub meant : List NameRead → ℕ → List ℕ → RuleFound → List RuleToken
meant names room line found = if may_be_name found.token then within_room room (name_meaning names (letters_of line found)) else []

-- What is read in place of a token: what it means, or itself.
abbrev pub read_for : FormRead → RuleToken → List RuleToken → List RuleToken
read_for form token [] = admitted form token ∷ []
read_for form token (first ∷ more) = first ∷ more

-- How many tokens names may still add after a token.
abbrev pub room_after_token : List NameRead → ℕ → List ℕ → RuleFound → ℕ
room_after_token names room line found = room - length (meant names room line found)

-- What is read for the tokens of a line, up to its end, where names may still add this many. The column is the one after the token before
-- them.
unfoldable pub expanded : List NameRead → ℕ → FormRead → List ℕ → ℕ → List RuleFound → List RuleFound
expanded names room form line column [] = all_at column column (ending form)
expanded names room form line column (found ∷ rest) =
    all_at found.column found.after (read_for form found.token (meant names room line found))
    ++ expanded names (room_after_token names room line found) form line found.after rest

-- How many tokens names may still add after the tokens of a line.
unfoldable pub room_left : List NameRead → ℕ → List ℕ → List RuleFound → ℕ
room_left names room line [] = room
room_left names room line (found ∷ rest) = room_left names (room_after_token names room line found) line rest

-- Whether tokens after a number don't make a path of it.
abbrev pub is_no_path : List RuleToken → Bool
is_no_path (slash_mark ∷ rest) = false
is_no_path _ = true

-- Whether a definition is a list: it begins with a number that is no path.
abbrev pub is_list : List RuleToken → Bool
is_list (number_word k ∷ rest) = is_no_path rest
is_list (bad_number ∷ rest) = is_no_path rest
is_list _ = false

-- The form in which a definition of these tokens is read.
abbrev pub definition_form : List RuleToken → FormRead
definition_form tokens = if is_list tokens then list_form else test_form

-- The tokens that a name with this definition means: a list as it stands, a test in parentheses.
abbrev pub defined_as : List RuleToken → List RuleToken
defined_as tokens = if is_list tokens then tokens else open_parenthesis ∷ (tokens ++ close_parenthesis ∷ [])
