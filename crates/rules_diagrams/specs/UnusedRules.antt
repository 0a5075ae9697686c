-- The rules that decide no cell.
use Rattle.std.specs.Prelude.{◌≡◌, ◌<◌, ℕ, true, List, [], ◌∷◌, Some, slice_get}
use Rattle.std.specs.List.{All, Contains}
use Rattle.rules_cells.specs.Decisions.{decision_of, IsTried}
use Rattle.rules_cells.specs.Fields.{IsCell}
use Rattle.rules_cells.specs.Tests.{is_met}
use Rattle.rules_cells.specs.declared.rules.RuleLine.TheVariants.{Rule}
use Rattle.rules_cells.specs.declared.rules.Rules.{Rules}
use Rattle.rules_cells.specs.declared.test.Test.{Test}
use Rattle.rules_diagrams.specs.declared.unused.Unused.{Unused}

-- The line at this place is a rule.
abbrev pub IsRuleAt : Rules → ℕ → Type 0
IsRuleAt rules place = (test : Test) × (value : ℕ) × (slice_get rules.lines.items place ≡ Some (Rule test value))

-- The rule at this place holds of the cell: its test does, and the test of each block that it is in.
abbrev pub HoldsOf : Rules → ℕ → List ℕ → Type 0
HoldsOf rules place cell = (test : Test) × (value : ℕ) × IsTried rules.side rules.lines.items 0 cell place test value × (is_met rules.side test cell ≡ true)

-- The rule at this place decides the cell.
abbrev pub Decides : Rules → ℕ → List ℕ → Type 0
Decides rules place cell = (decision_of rules cell).line ≡ Some place

-- The rule at this place decides no cell.
abbrev pub DecidesNone : Rules → ℕ → Type 0
DecidesNone rules place = (cell : List ℕ) → IsCell cell → Decides rules place cell → ⊥

-- Each number is less than those after it.
abbrev pub AreAscending : List ℕ → Type 0
AreAscending [] = Unit {0}
AreAscending (first ∷ more) = All (λ later. first < later) more × AreAscending more

-- The rule decides no cell. Those of which it holds are decided by the rules that are named, each of which decides one of them and comes
-- before it.
pub record IsUnused (rules : Rules) (unused : Unused) : Type 0 where
  pub is_rule : IsRuleAt rules unused.place
  pub none : DecidesNone rules unused.place
  pub decided : (cell : List ℕ) → IsCell cell → HoldsOf rules unused.place cell → (taker : ℕ) × Contains unused.takers.items taker × Decides rules taker cell
  pub takers : All (λ taker. (cell : List ℕ) × IsCell cell × HoldsOf rules unused.place cell × Decides rules taker cell) unused.takers.items
  pub before : All (λ taker. taker < unused.place) unused.takers.items
  pub ascending : AreAscending unused.takers.items

-- The rule at this place is among these.
abbrev pub HasPlace : List Unused → ℕ → Type 0
HasPlace unused place = (one : Unused) × Contains unused one × (one.place ≡ place)

-- Each rule comes before those after it in the list.
abbrev pub ArePlacesAscending : List Unused → Type 0
ArePlacesAscending [] = Unit {0}
ArePlacesAscending (first ∷ more) = All (λ (later : Unused). first.place < later.place) more × ArePlacesAscending more

-- These are the rules that decide no cell, in order.
pub record AreUnused (rules : Rules) (unused : List Unused) : Type 0 where
  pub all : All (IsUnused rules) unused
  pub each : (place : ℕ) → IsRuleAt rules place → DecidesNone rules place → HasPlace unused place
  pub ascending : ArePlacesAscending unused
