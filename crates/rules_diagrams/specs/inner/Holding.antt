-- The diagrams of the blocks that a line is in, and of the cells of which a rule holds.
use Rattle.std.specs.Prelude.{◌≡◌, ◌<◌, ℕ, zero, suc, ◌&&◌, nat_le, Bool, true, false, List, [], ◌∷◌, Option, Some, None, MatchOption, slice_get}
use Rattle.std.specs.List.{All, Contains}
use Rattle.std.specs.BTreeSet.{BTreeSet, contains}
use Rattle.std.specs.Ordering.{nat_cmp}
use Rattle.upc_cell.specs.declared.side.Side.{Side}
use Rattle.rules_cells.specs.Decisions.{passed_at}
use Rattle.rules_cells.specs.Fields.{IsCell}
use Rattle.rules_cells.specs.Tests.{is_met}
use Rattle.rules_cells.specs.declared.rules.RuleLine.{RuleLine}
use Rattle.rules_cells.specs.declared.rules.RuleLine.TheVariants.{Rule, Block, End}
use Rattle.rules_cells.specs.declared.rules.Rules.{Rules}
use Rattle.rules_diagrams.specs.UnusedRules.{AreAscending, ArePlacesAscending, Decides, DecidesNone, HasPlace, IsRuleAt, IsUnused}
use Rattle.rules_diagrams.specs.inner.Stacks.{first_diagram}
use Rattle.rules_diagrams.specs.inner.Tells.{Tells}
use Rattle.rules_diagrams.specs.declared.diagram.Diagram.{Diagram}
use Rattle.rules_diagrams.specs.declared.diagram.Diagram.TheVariants.{Leaf}
use Rattle.rules_diagrams.specs.declared.diagram.Node.{Node}
use Rattle.rules_diagrams.specs.declared.unused.Unused.{Unused}

-- The first of the diagrams of blocks, that of the innermost. Outside of blocks it is that of all cells.
abbrev pub first_inside : List Diagram → Diagram
first_inside inside = first_diagram (Leaf 1) inside

-- The diagram with this index, where 0 is that of the innermost block. Beyond the last block it is that of all cells.
abbrev pub inside_at : List Diagram → ℕ → Diagram
inside_at inside zero = first_inside inside
inside_at [] (suc most) = Leaf 1
inside_at (first ∷ more) (suc most) = inside_at more most

-- How many blocks are passed over before the line at a place.
abbrev pub passed_before : Rules → ℕ → List ℕ → ℕ
passed_before rules place cell = passed_at rules.side rules.lines.items 0 cell place

-- Each diagram tells the cells for which at most as many blocks as there are before it in the list are passed over.
abbrev pub AreInside : List Node → (List ℕ → ℕ) → List Diagram → Type 0
AreInside nodes passed inside = (most : ℕ) → Tells nodes (λ cell. nat_le (passed cell) most) (inside_at inside most)

-- Whether the test of a line holds, if it is a rule.
abbrev pub line_holds : Side → Option RuleLine → List ℕ → Bool
line_holds side (Some (Rule test value)) cell = is_met side test cell
line_holds side (Some (Block test)) cell = false
line_holds side (Some End) cell = false
line_holds side None cell = false

-- Whether the rule at a place holds of a cell.
abbrev pub holds_of : Rules → ℕ → List ℕ → Bool
holds_of rules place cell = nat_le (passed_before rules place cell) 0 && line_holds rules.side (slice_get rules.lines.items place) cell

-- The function gives a cell one more than the place of a line, or 0. The places are those of the lines that it gives the cells of which a
-- test holds.
pub record AreTaken (number : List ℕ → ℕ) (holds : List ℕ → Bool) (places : List ℕ) : Type 0 where
  pub each : (cell : List ℕ) → IsCell cell → holds cell ≡ true → (place : ℕ) → number cell ≡ suc place → Contains places place
  pub only : All (λ place. (cell : List ℕ) × IsCell cell × (holds cell ≡ true) × (number cell ≡ suc place)) places
  pub ascending : AreAscending places

-- The set has the numbers of the lines that decide cells.
pub record AreDeciders (number : List ℕ → ℕ) (deciders : BTreeSet ℕ) : Type 0 where
  pub each : (cell : List ℕ) → IsCell cell → contains nat_cmp deciders (number cell) ≡ true
  pub only : (n : ℕ) → contains nat_cmp deciders n ≡ true → (cell : List ℕ) × IsCell cell × (number cell ≡ n)

-- The rule at this place, if there is one, decides some cell.
abbrev pub IsSpared : Rules → ℕ → Type 0
IsSpared rules place = IsRuleAt rules place → (cell : List ℕ) × IsCell cell × Decides rules place cell

-- What was found of the line at a place.
abbrev pub IsFoundAt : Rules → ℕ → Option Unused → Type 0
IsFoundAt rules place found = MatchOption found (IsSpared rules place) (λ unused. (unused.place ≡ place) × IsUnused rules unused)

-- These are the rules before a place that decide no cell.
pub record AreUnusedBefore (rules : Rules) (end : ℕ) (unused : List Unused) : Type 0 where
  pub all : All (IsUnused rules) unused
  pub each : (place : ℕ) → place < end → IsRuleAt rules place → DecidesNone rules place → HasPlace unused place
  pub before : All (λ (one : Unused). one.place < end) unused
  pub ascending : ArePlacesAscending unused
