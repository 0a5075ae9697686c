-- The table of names, in which each is found by its letters.
use Rattle.std.specs.Prelude.{◌≡◌, ◌<◌, ℕ, List, [], ◌∷◌, map, length, slice_get, Option, Some, None, IfSome}
use Rattle.std.specs.BTreeMap.{get_by}
use Rattle.std.specs.Cmp.Lexicographic.{slice_cmp}
use Rattle.std.specs.Ordering.{nat_cmp}
use Rattle.rules_text.specs.Names.{name_meaning}
use Rattle.rules_text.specs.RuleTokens.{RuleToken, no_room}
use Rattle.rules_text.specs.declared.lexer.Token.{Token}
use Rattle.rules_text.specs.declared.names.Name.{Name}
use Rattle.rules_text.specs.declared.names.NameTable.{NameTable}
use Rattle.rules_text.specs.SeenTokens.{rule_token_seen}
use Rattle.rules_text.specs.inner.SeenReading.{name_seen, names_seen}

-- The place of a name among those that were given.
abbrev pub name_index : NameTable → List ℕ → Option ℕ
name_index table letters = get_by (λ key. slice_cmp nat_cmp letters key.items) table.places

-- What a name means, if there is one.
abbrev pub meaning_of : Option Name → Option (List RuleToken)
meaning_of None = None
meaning_of (Some name) = Some (name_seen name).tokens

-- What the name at a place means.
abbrev pub meaning_at : List Name → Option ℕ → Option (List RuleToken)
meaning_at given None = None
meaning_at given (Some place) = meaning_of (slice_get given place)

-- Each name is found by its letters.
pub record IsFoundByLetters (table : NameTable) : Type 0 where
  pub within : (letters : List ℕ) → IfSome (name_index table letters) (λ place. place < length table.given.items)
  pub meaning : (letters : List ℕ) → meaning_at table.given.items (name_index table letters) ≡ name_meaning (names_seen table) letters
  pub beyond : map rule_token_seen table.beyond ≡ no_room ∷ []

-- What a name means, in the words of the definitions.
abbrev pub meaning_seen : {A : Type 0} → (A → List Token) → Option A → Option (List RuleToken)
meaning_seen tokens None = None
meaning_seen tokens (Some found) = Some (map rule_token_seen (tokens found))
