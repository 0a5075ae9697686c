-- The word that was perhaps meant by one that is unknown.
use Rattle.std.specs.Prelude.{ℕ, Bool, true, false, ◌&&◌, if◌then◌else◌, List, [], ◌∷◌, ◌++◌, codes, Option, Some, None}
use Rattle.cmd_explain_script.specs.Meant.{is_near, perhaps_text}
use Rattle.cmd_explain_script.specs.Places.{quoted}
use Rattle.cmd_explain_rules.specs.NearNames.{either_word}
use Rattle.cmd_explain_rules.specs.Parts.{part_of}
use Rattle.cmd_explain_rules.specs.Reasons.{expected}
use Rattle.cmd_explain_rules.specs.declared.token_parts.Part.{Part}
use Rattle.cmd_explain_rules.specs.declared.token_parts.Part.TheVariants as part
use Rattle.cmd_explain_rules.specs.declared.spots.Place.{Place}
use Rattle.cmd_explain_rules.specs.declared.spots.Place.TheVariants as here
use Rattle.cmd_explain_rules.specs.declared.spots.Spot.{Spot}
use Rattle.rules_text.specs.RuleTokens.{RuleToken, rule_words}

-- Whether a word begins a unit of a test.
abbrev pub begins_unit : Part → Bool
begins_unit part.Test = true
begins_unit (part.Field compared) = true
begins_unit (part.Size size) = true
begins_unit part.Not = true
begins_unit _ = false

-- Whether a word begins a line.
abbrev pub begins_line : Part → Bool
begins_line part.Otherwise = true
begins_line part.Side = true
begins_line part.Contract = true
begins_line part.Define = true
begins_line other = begins_unit other

-- Whether a word joins tests.
abbrev pub joins_tests : Part → Bool
joins_tests part.And = true
joins_tests part.Or = true
joins_tests _ = false

-- Whether a word is a value.
abbrev pub is_value : Part → Bool
is_value part.Refuse = true
is_value _ = false

-- Whether a word is the name of a side.
abbrev pub is_side : Part → Bool
is_side part.SideName = true
is_side _ = false

-- Whether a word may come at a place.
abbrev pub may_come : Place → Part → Bool
may_come here.Start word = begins_line word
may_come here.Unit word = begins_unit word
may_come here.Body word = begins_unit word
may_come here.Operator word = joins_tests word
may_come here.Dots word = joins_tests word
may_come here.Comma word = joins_tests word
may_come here.Value word = is_value word
may_come here.Side word = is_side word
may_come _ word = false

-- The first of these words that may come at a place and is near a word.
abbrev pub near_word : Place → List ℕ → List (List ℕ × RuleToken) → Option (List ℕ)
near_word place word [] = None
near_word place word (row ∷ rows) = if may_come place (part_of row.1) && is_near word row.0 then Some row.0 else near_word place word rows

-- What is said of a word that is unknown: the word that was perhaps meant, or what may come there.
abbrev pub meant_text : Option (List ℕ) → List ℕ → List ℕ
meant_text None other = codes "; " ++ other
meant_text (Some word) other = perhaps_text (Some word)

-- What is said of an unknown word at a place. `named` is a name of the text that is near the word, if there is one.
unfoldable pub near_text : Spot → List ℕ → Option (List ℕ) → List ℕ
near_text spot word named = meant_text (either_word named (near_word spot.place word rule_words)) (expected spot.defines spot.place)

-- The sentence about a word that is unknown. `named` is a name of the text that is near the word, if there is one.
abbrev pub unknown_word_sentence : Spot → List ℕ → Option (List ℕ) → List ℕ
unknown_word_sentence spot word named =
    quoted word ++ (codes " is no word of rules, and no line before gives it as a name" ++ near_text spot word named)
