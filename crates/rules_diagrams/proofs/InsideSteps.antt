-- The diagrams of the blocks that a line is in, one line after another.
use Rattle.std.proofs.Common.{◌≡◌, ℕ, zero, suc, ◌+◌, ◌-◌, ◌<◌, ◌&&◌, nat_le, Bool, true, false, if◌then◌else◌, List, [], ◌∷◌, length, slice_get, slice_index_or, Some, refl, sym, ap, subst, ◌∙◌, arith}
use Rattle.std.proofs.lemmas.Bool.Decides.{nat_tests}
use Rattle.upc_cell.specs.declared.side.Side.{Side}
use Rattle.rules_cells.specs.Decisions.{passed_after, passed_at}
use Rattle.rules_cells.specs.Tests.{is_met}
use Rattle.rules_cells.specs.declared.rules.RuleLine.{RuleLine}
use Rattle.rules_cells.specs.declared.rules.RuleLine.TheVariants.{Rule, Block, End}
use Rattle.rules_cells.specs.declared.rules.Rules.{Rules}
use Rattle.rules_cells.specs.declared.test.Test.{Test}
use Rattle.rules_diagrams.specs.inner.Holding.{AreInside, first_inside, inside_at, passed_before}
use Rattle.rules_diagrams.specs.inner.Stacks.{later_diagrams}
use Rattle.rules_diagrams.specs.inner.Spans.{truth}
use Rattle.rules_diagrams.specs.inner.Tells.{GivesNumber, Tells}
use Rattle.rules_diagrams.specs.inner.Values.{Keeps, IsWithin}
use Rattle.rules_diagrams.specs.declared.diagram.Diagram.{Diagram}
use Rattle.rules_diagrams.specs.declared.diagram.Node.{Node}
use Rattle.rules_diagrams.proofs.Telling.{gives_kept, gives_same}

pub line_at : (lines : List RuleLine) (place : ℕ) (line read : RuleLine) → place < length lines → read ≡ slice_index_or lines place read → read ≡ line → slice_get lines place ≡ Some line
line_at [] place line read lt is e = absurd (omega arith)
line_at (first ∷ more) zero line read lt is e = ap (λ (l : RuleLine). Some l) (sym is ∙ e)
line_at (first ∷ more) (suc place) line read lt is e = line_at more place line read (omega arith) is e

passed_later : (side : Side) (lines : List RuleLine) (passed place : ℕ) (cell : List ℕ) (line : RuleLine) → slice_get lines place ≡ Some line
    → passed_at side lines passed cell (suc place) ≡ passed_after side line (passed_at side lines passed cell place) cell
passed_later side [] passed place cell line e = absurd (cc)
passed_later side (first ∷ rest) passed zero cell line e =
    let same : first ≡ line = cc in ap (λ (l : RuleLine). passed_after side l passed cell) same
passed_later side (first ∷ rest) passed (suc place) cell line e = passed_later side rest (passed_after side first passed cell) place cell line e

passed_next : (side : Side) (lines : List RuleLine) (passed place : ℕ) (cell : List ℕ) (line : RuleLine) → slice_get lines place ≡ Some line
    → passed_at side lines passed cell (place + 1) ≡ passed_after side line (passed_at side lines passed cell place) cell
passed_next side lines passed place cell line e =
    let next : place + 1 ≡ suc place = omega arith in
    ap (λ n. passed_at side lines passed cell n) next ∙ passed_later side lines passed place cell line e

block_first : (side : Side) (test : Test) (passed : ℕ) (cell : List ℕ) → (nat_le passed 0 && is_met side test cell) ≡ nat_le (passed_after side (Block test) passed cell) 0
block_first side test zero cell = by_met (is_met side test cell)
  where
    by_met : (b : Bool) → (true && b) ≡ nat_le (if b then 0 else 1) 0
    by_met true = refl
    by_met false = refl
block_first side test (suc passed) cell =
    let one : nat_le (suc passed) 0 ≡ false = grind (arith, nat_tests) in
    let two : nat_le (suc (suc passed)) 0 ≡ false = grind (arith, nat_tests) in
    ap (λ b. b && is_met side test cell) one ∙ sym two

block_later : (side : Side) (test : Test) (passed most : ℕ) (cell : List ℕ) → nat_le passed most ≡ nat_le (passed_after side (Block test) passed cell) (suc most)
block_later side test zero most cell = by_met (is_met side test cell)
  where
    by_met : (b : Bool) → nat_le 0 most ≡ nat_le (if b then 0 else 1) (suc most)
    by_met true = grind (arith, nat_tests)
    by_met false = grind (arith, nat_tests)
block_later side test (suc passed) most cell = grind (arith, nat_tests)

end_least : (passed most : ℕ) → nat_le passed (suc most) ≡ nat_le (passed - 1) most
end_least passed most = grind (arith, nat_tests)

left_at : (inside : List Diagram) (most : ℕ) → inside_at inside (suc most) ≡ inside_at (later_diagrams inside) most
left_at [] zero = refl
left_at [] (suc most) = refl
left_at (first ∷ more) most = refl

pub none_inside : (nodes : List Node) (rules : Rules) (inside : List Diagram) (place : ℕ) → inside ≡ [] → place ≡ 0 → AreInside nodes (passed_before rules place) inside
none_inside nodes rules inside place e f =
    subst (λ n. AreInside nodes (passed_before rules n) inside) (sym f)
    (subst (λ (ds : List Diagram). AreInside nodes (passed_before rules 0) ds) (sym e) each)
  where
    all : (most : ℕ) → 1 ≡ truth (nat_le 0 most)
    all most = let le : nat_le 0 most ≡ true = grind (arith, nat_tests) in ap truth (sym le)

    each : AreInside nodes (passed_before rules 0) []
    each zero = record { within = tt; value = λ cell there. refl }
    each (suc most) = record { within = tt; value = λ cell there. all (suc most) }

pub first_told : (nodes : List Node) (passed : List ℕ → ℕ) (inside : List Diagram) → AreInside nodes passed inside → Tells nodes (λ cell. nat_le (passed cell) 0) (first_inside inside)
first_told nodes passed inside are = are 0

pub first_within : (nodes : List Node) (passed : List ℕ → ℕ) (inside : List Diagram) → AreInside nodes passed inside → IsWithin nodes (first_inside inside)
first_within nodes passed inside are = (are 0).within

pub inside_kept : (old new : List Node) (passed : List ℕ → ℕ) (inside : List Diagram) → Keeps old new → AreInside old passed inside → AreInside new passed inside
inside_kept old new passed inside keeps are most = gives_kept old new (λ cell. truth (nat_le (passed cell) most)) (inside_at inside most) keeps (are most)

module _ (rules : Rules) (place : ℕ) (old new : List Node) (inside : List Diagram) (are : AreInside old (passed_before rules place) inside) where
  pub rule_inside : (test : Test) (value : ℕ) → slice_get rules.lines.items place ≡ Some (Rule test value) → AreInside old (passed_before rules (place + 1)) inside
  rule_inside test value at most =
      gives_same old (λ cell. truth (nat_le (passed_before rules place cell) most)) (λ cell. truth (nat_le (passed_before rules (place + 1) cell) most)) (inside_at inside most)
      (λ cell. ap (λ n. truth (nat_le n most)) (sym (passed_next rules.side rules.lines.items 0 place cell (Rule test value) at))) (are most)

  pub end_inside : (after : List Diagram) → slice_get rules.lines.items place ≡ Some End → after ≡ later_diagrams inside → AreInside old (passed_before rules (place + 1)) after
  end_inside after at is most =
      subst (λ (d : Diagram). GivesNumber old (λ cell. truth (nat_le (passed_before rules (place + 1) cell) most)) d) (left_at inside most ∙ ap (λ (ds : List Diagram). inside_at ds most) (sym is))
      (gives_same old (λ cell. truth (nat_le (passed_before rules place cell) (suc most))) (λ cell. truth (nat_le (passed_before rules (place + 1) cell) most)) (inside_at inside (suc most))
      (λ cell. ap truth (end_least (passed_before rules place cell) most ∙ ap (λ n. nat_le n most) (sym (passed_next rules.side rules.lines.items 0 place cell End at)))) (are (suc most)))

  pub block_inside : (test : Test) (within : Diagram) (after : List Diagram) → Keeps old new → slice_get rules.lines.items place ≡ Some (Block test)
      → Tells new (λ cell. nat_le (passed_before rules place cell) 0 && is_met rules.side test cell) within → after ≡ within ∷ inside → AreInside new (passed_before rules (place + 1)) after
  block_inside test within after keeps at told is =
      subst (λ (ds : List Diagram). AreInside new (passed_before rules (place + 1)) ds) (sym is) each
    where
      next : (cell : List ℕ) → passed_before rules (place + 1) cell ≡ passed_after rules.side (Block test) (passed_before rules place cell) cell
      next cell = passed_next rules.side rules.lines.items 0 place cell (Block test) at

      each : AreInside new (passed_before rules (place + 1)) (within ∷ inside)
      each zero =
          gives_same new (λ cell. truth (nat_le (passed_before rules place cell) 0 && is_met rules.side test cell)) (λ cell. truth (nat_le (passed_before rules (place + 1) cell) 0)) within
          (λ cell. ap truth (block_first rules.side test (passed_before rules place cell) cell ∙ ap (λ n. nat_le n 0) (sym (next cell)))) told
      each (suc most) =
          gives_same new (λ cell. truth (nat_le (passed_before rules place cell) most)) (λ cell. truth (nat_le (passed_before rules (place + 1) cell) (suc most))) (inside_at inside most)
          (λ cell. ap truth (block_later rules.side test (passed_before rules place cell) most cell ∙ ap (λ n. nat_le n (suc most)) (sym (next cell))))
          (gives_kept old new (λ cell. truth (nat_le (passed_before rules place cell) most)) (inside_at inside most) keeps (are most))

-- A diagram of a block tells the same after more nodes were added.
pub told_within : (old new : List Node) (within : List ℕ → Bool) (first inside : Diagram) → first ≡ inside → Keeps old new → Tells old within inside → Tells new within first
told_within old new within first inside e keeps there =
    subst (λ (d : Diagram). Tells new within d) (sym e) (gives_kept old new (λ cell. truth (within cell)) inside keeps there)
