-- The lines of a setup script that name files of rules.
use Rattle.std.specs.Prelude.{ℕ, nat_lt, if◌then◌else◌, List, [], ◌∷◌, codes, length, Option, Some, None}
use Rattle.std.specs.Str.{bytes_eq}
use Rattle.text_io.specs.Limits.{most_line_octets}
use Rattle.text_io.specs.Lines.{Line, lines_of, line_content}
use Rattle.text_io.specs.Words.{words_of}

-- The second of exactly two words, if the first is `rules`.
abbrev pub word_after_rules : List (List ℕ) → Option (List ℕ)
word_after_rules [] = None
word_after_rules (word ∷ []) = None
word_after_rules (word ∷ name ∷ []) = if bytes_eq word (codes "rules") then Some name else None
word_after_rules (word ∷ name ∷ other ∷ words) = None

-- The name of the file of rules that a line of this content names, if it is a line `rules NAME`.
unfoldable pub rules_name : List ℕ → Option (List ℕ)
rules_name content = word_after_rules (words_of content)

-- The same for a line of this many octets. One over the limit names none, so it stays in the script and is answered there.
abbrev pub name_within : ℕ → List ℕ → Option (List ℕ)
name_within octets content = if nat_lt most_line_octets octets then None else rules_name content

-- The name of the file of rules that a line names, if it does.
abbrev pub named_rules : Line → Option (List ℕ)
named_rules line = name_within (length line.octets) (line_content line)

-- These names, with one more in front of them if there is one.
abbrev pub with_rules_name : Option (List ℕ) → List (List ℕ) → List (List ℕ)
with_rules_name None names = names
with_rules_name (Some name) names = name ∷ names

-- The names of these lines, in order.
abbrev pub names_in : List Line → List (List ℕ)
names_in [] = []
names_in (line ∷ lines) = with_rules_name (named_rules line) (names_in lines)

-- The names of a script's lines, in order.
abbrev pub rules_names : List ℕ → List (List ℕ)
rules_names script = names_in (lines_of script)
