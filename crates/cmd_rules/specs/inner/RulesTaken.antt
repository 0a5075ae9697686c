-- How the text of the rules is read from an input, octet by octet.
use Rattle.std.specs.Prelude.{◌≡◌, ◌≢◌, ◌≤◌, ◌<◌, ℕ, List, [], ◌∷◌, ◌++◌, drop, take, length, slice_index, Option, Some, None}
use Rattle.text_io.specs.Lines.{lines_of}
use Rattle.cmd_rules.specs.WhyText.{lines_after, rules_before, rules_of_why}

-- The octets are whole lines of rules, whatever follows them.
pub record AreRulesLines (octets : List ℕ) : Type 0 where
  pub rules : (more : List ℕ) → rules_before (lines_of (octets ++ more)) ≡ octets ++ rules_before (lines_of more)
  pub cells : (more : List ℕ) → lines_after (lines_of (octets ++ more)) ≡ lines_after (lines_of more)

-- The octets are whole lines of rules, and from this place on a part of a line.
pub record IsUpTo (octets : List ℕ) (start : ℕ) : Type 0 where
  pub within : start ≤ length octets
  pub lines : AreRulesLines (take start octets)
  pub last : (k : ℕ) → k < length (drop start octets) → slice_index (drop start octets) k ≢ 10

-- The octets have this text of rules, and are read up to the end of the line `cells`, if these octets follow.
pub record HasRulesBefore (octets text more : List ℕ) : Type 0 where
  pub rules : rules_before (lines_of (octets ++ more)) ≡ text
  pub cells : lines_after (lines_of (octets ++ more)) ≡ lines_of more

-- What was found in the octets that were read, if these octets follow: a text within the limit, or that it is over the limit.
abbrev pub FindsTextOfRules : Option (List ℕ) → List ℕ → List ℕ → Type 0
FindsTextOfRules None octets more = rules_of_why (octets ++ more) ≡ None
FindsTextOfRules (Some text) octets more = (rules_of_why (octets ++ more) ≡ Some text) × (lines_after (lines_of (octets ++ more)) ≡ lines_of more)

-- Octets were read of an input, and this was found, whatever would follow where something does.
pub record TakesRules (found : Option (List ℕ)) (before after : List ℕ) : Type 0 where
  pub taken : List ℕ
  pub came : before ≡ taken ++ after
  pub finds : (more : List ℕ) → (after ≡ [] → more ≡ []) → FindsTextOfRules found taken more

-- The first octet of an input was read, or nothing at its end.
abbrev pub TakesOctet : Option ℕ → List ℕ → List ℕ → Type 0
TakesOctet None before after = (before ≡ []) × (after ≡ [])
TakesOctet (Some octet) before after = before ≡ octet ∷ after
