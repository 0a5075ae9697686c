-- What an input of `upc-lab explain` is, by its first line.
use Rattle.std.specs.Prelude.{◌≡◌, ℕ, ◌+◌, Bool, false, nat_le, ◌&&◌, if◌then◌else◌, List, [], ◌∷◌, drop, length, codes, Option, Some, None}
use Rattle.std.specs.Str.{bytes_eq}
use Rattle.text_io.specs.Limits.{most_line_octets}
use Rattle.text_io.specs.Lines.{Line, line_content, lines_of}
use Rattle.text_io.specs.Words.{words_of}
use Rattle.cmd_explain.specs.declared.first_line.InputKind.{InputKind}
use Rattle.cmd_explain.specs.declared.first_line.InputKind.TheVariants.{Source, Rules, Faults, Script}

-- Whether these words are this word alone.
abbrev pub is_alone : List ℕ → List (List ℕ) → Bool
is_alone word [] = false
is_alone word (first ∷ []) = bytes_eq first word
is_alone word (first ∷ other ∷ words) = false

-- Whether the only word of a line is this one, and the line is within the limit of a script's.
abbrev pub is_word_line : List ℕ → Line → Bool
is_word_line word first = nat_le (length first.octets) most_line_octets && is_alone word (words_of (line_content first))

-- The octets after the first of their lines, if its only word is this one.
abbrev pub after_first : List ℕ → List ℕ → List Line → Option (List ℕ)
after_first word octets [] = None
after_first word octets (first ∷ lines) = if is_word_line word first then Some (drop (length first.octets + 1) octets) else None

-- The octets after the first line, if its only word is this one.
unfoldable pub after_word : List ℕ → List ℕ → Option (List ℕ)
after_word word octets = after_first word octets (lines_of octets)

-- The source after the line `source`, if the input begins with it.
abbrev pub source_after : List ℕ → Option (List ℕ)
source_after octets = after_word (codes "source") octets

-- The text of rules after the line `rules`, if the input begins with it.
abbrev pub rules_after : List ℕ → Option (List ℕ)
rules_after octets = after_word (codes "rules") octets

-- The fault lines after the line `faults`, if the input begins with it.
abbrev pub faults_after : List ℕ → Option (List ℕ)
faults_after octets = after_word (codes "faults") octets

-- What is left of an input of this kind, once its first line was read. A script is left whole.
abbrev pub PassesFirst : InputKind → List ℕ → List ℕ → Type 0
PassesFirst Source before after = source_after before ≡ Some after
PassesFirst Rules before after = (source_after before ≡ None) × (rules_after before ≡ Some after)
PassesFirst Faults before after = (source_after before ≡ None) × (rules_after before ≡ None) × (faults_after before ≡ Some after)
PassesFirst Script before after =
    (source_after before ≡ None) × (rules_after before ≡ None) × (faults_after before ≡ None) × (after ≡ before)
