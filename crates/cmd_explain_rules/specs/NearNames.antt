-- The name that a text gives and that was perhaps meant by a word that is unknown.
use Rattle.std.specs.Prelude.{ℕ, Bool, true, false, ◌&&◌, ◌||◌, if◌then◌else◌, List, [], ◌∷◌, Option, Some, None}
use Rattle.cmd_explain_rules.specs.RuleLines.{comes_before}
use Rattle.cmd_explain_rules.specs.Spots.{takes_list, takes_test}
use Rattle.cmd_explain_rules.specs.WordsFound.{rule_word_octets, words_found}
use Rattle.cmd_explain_rules.specs.declared.token_parts.Part.{Part}
use Rattle.cmd_explain_rules.specs.declared.token_parts.Part.TheVariants as part
use Rattle.cmd_explain_rules.specs.declared.spots.Place.{Place}
use Rattle.cmd_explain_rules.specs.declared.spots.Place.TheVariants as here
use Rattle.cmd_explain_rules.specs.declared.rule_tokens.RuleWord.{RuleWord}
use Rattle.cmd_explain_script.specs.Meant.{is_near}
use Rattle.rules_text.specs.ContinuedLines.{place_past}
use Rattle.rules_text.specs.declared.place.TextPlace.{TextPlace}

-- Whether a name that `define` gives may come at a place: where a test begins, or where a list has numbers.
abbrev pub takes_defined : Place → Bool
takes_defined place = takes_test place || takes_list place

-- Whether the name of a contract may come at a place.
abbrev pub takes_contract : Place → Bool
takes_contract here.Value = true
takes_contract _ = false

-- Whether the name that a line gives may come at a place, where the line begins with this token.
abbrev pub takes_given : Place → Part → Bool
takes_given place part.Define = takes_defined place
takes_given place part.Contract = takes_contract place
takes_given place _ = false

-- The name that a line of these tokens gives, if it may come at a place and is near a word.
abbrev pub near_given : Place → List ℕ → List ℕ → List RuleWord → Option (List ℕ)
near_given place word text [] = None
near_given place word text (first ∷ []) = None
near_given place word text (first ∷ second ∷ words) =
    if takes_given place first.part && is_near word (rule_word_octets text second)
    then Some (rule_word_octets text second)
    else None

-- The first of two words, or the second if there is no first.
abbrev pub either_word : Option (List ℕ) → Option (List ℕ) → Option (List ℕ)
either_word None other = other
either_word (Some word) other = Some word

-- The first name that these lines give before a fault, that may come at a place, and that is near a word. The first of these lines begins
-- at `begin`.
abbrev pub near_name : Place → List ℕ → TextPlace → TextPlace → List (List ℕ) → Option (List ℕ)
near_name place word fault begin [] = None
near_name place word fault begin (line ∷ lines) =
    if comes_before fault (place_past begin line) then None
    else either_word (near_given place word line (words_found line)) (near_name place word fault (place_past begin line) lines)
