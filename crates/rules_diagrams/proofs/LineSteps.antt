-- Diagrams of lines, one line after another from the last.
use Rattle.std.proofs.Common.{◌≡◌, ℕ, zero, suc, ◌+◌, ◌-◌, Bool, true, false, if◌then◌else◌, ◌≤◌, ◌<◌, List, [], ◌∷◌, length, drop, get_or, Some, None, Result, Ok, Err, IfOk, refl, sym, ap, subst, ◌∙◌, arith}
use Rattle.std.proofs.lemmas.List.{drop_more, drop_all}
use Rattle.upc_cell.specs.declared.side.Side.{Side}
use Rattle.rules_cells.specs.Decisions.{decision_from, decision_by}
use Rattle.rules_cells.specs.Tests.{is_met}
use Rattle.rules_cells.specs.declared.deciding.Decision.{Decision}
use Rattle.rules_cells.specs.declared.rules.RuleLine.{RuleLine}
use Rattle.rules_cells.specs.declared.rules.RuleLine.TheVariants.{Rule, Block, End}
use Rattle.rules_cells.specs.declared.test.Test.{Test}
use Rattle.rules_diagrams.specs.inner.Choices.{chosen, IsChoice}
use Rattle.rules_cells.specs.declared.rules.Rules.{Rules}
use Rattle.rules_diagrams.specs.inner.Lines.{line_number, deciding_line}
use Rattle.rules_diagrams.specs.inner.Spans.{truth}
use Rattle.rules_diagrams.specs.inner.Tells.{GivesNumber, Tells}
use Rattle.rules_diagrams.specs.inner.Values.{IsWithin, Keeps}
use Rattle.rules_diagrams.specs.inner.Lined.{lined_at, first_outer, AreLined, AreAllWithin}
use Rattle.rules_diagrams.specs.inner.Stacks.{later_diagrams}
use Rattle.rules_diagrams.specs.declared.diagram.Diagram.{Diagram}
use Rattle.rules_diagrams.specs.declared.diagram.Diagram.TheVariants.{Leaf}
use Rattle.rules_diagrams.specs.declared.diagram.Node.{Node}
use Rattle.rules_diagrams.proofs.Telling.{gives_kept, gives_same, choice_gives}

rule_decides : (b : Bool) (value place : ℕ) (later : Decision) → chosen (truth b) (place + 1) (line_number later.line) ≡ line_number (decision_by (if b then Some value else None) place later).line
rule_decides true value place later = refl
rule_decides false value place later = refl

block_passes : (b : Bool) (f : ℕ → ℕ) → chosen (truth b) (f 0) (f 1) ≡ f (if b then 0 else 1)
block_passes true f = refl
block_passes false f = refl

-- The diagrams after the first don't depend on it.
later_at : (so_far made : Diagram) (outer : List Diagram) (passed : ℕ) → lined_at so_far outer (suc passed) ≡ lined_at made outer (suc passed)
later_at so_far made [] passed = refl
later_at so_far made (first ∷ more) passed = refl

taken_at : (so_far made : Diagram) (outer : List Diagram) (passed : ℕ) → lined_at so_far outer (suc (suc passed)) ≡ lined_at made (later_diagrams outer) (suc passed)
taken_at so_far made [] passed = refl
taken_at so_far made (first ∷ more) passed = later_at first made more passed

first_at : (so_far : Diagram) (outer : List Diagram) → lined_at so_far outer 1 ≡ first_outer outer
first_at so_far [] = refl
first_at so_far (first ∷ more) = refl

module _ (side : Side) (rest : List RuleLine) (place otherwise : ℕ) where
  -- The number of the line that decides among the rest.
  abbrev after : ℕ → List ℕ → ℕ
  after passed cell = line_number (decision_from side rest (place + 1) passed otherwise cell).line

  abbrev from : RuleLine → ℕ → List ℕ → ℕ
  from line passed cell = line_number (decision_from side (line ∷ rest) place passed otherwise cell).line

  module _ (old middle new : List Node) (so_far : Diagram) (outer : List Diagram) (test : Test) (to_middle : Keeps old middle) (to_new : Keeps middle new)
      (lined : AreLined old side rest (place + 1) otherwise so_far outer) where
    kept : (passed : ℕ) → GivesNumber middle (after passed) (lined_at so_far outer passed)
    kept passed = gives_kept old middle (after passed) (lined_at so_far outer passed) to_middle (lined passed)

    moved : (passed : ℕ) → GivesNumber new (after passed) (lined_at so_far outer passed)
    moved passed = gives_kept middle new (after passed) (lined_at so_far outer passed) to_new (kept passed)

    rule_at : (value : ℕ) (met made : Diagram) → Tells middle (is_met side test) met → IsChoice new met (Leaf (place + 1)) so_far made → (passed : ℕ)
        → GivesNumber new (from (Rule test value) passed) (lined_at made outer passed)
    rule_at value met made told is zero =
        gives_same new (λ cell. chosen (truth (is_met side test cell)) (place + 1) (after 0 cell)) (from (Rule test value) 0) made
        (λ cell. rule_decides (is_met side test cell) value place (decision_from side rest (place + 1) 0 otherwise cell))
        (choice_gives middle new met (Leaf (place + 1)) so_far made (λ cell. truth (is_met side test cell)) (λ cell. place + 1) (after 0) to_new told
        (record { within = tt; value = λ cell there. refl }) (kept 0) is)
    rule_at value met made told is (suc passed) =
        subst (λ (d : Diagram). GivesNumber new (after (suc passed)) d) (later_at so_far made outer passed) (moved (suc passed))

    block_at : (met made : Diagram) → Tells middle (is_met side test) met → IsChoice new met so_far (first_outer outer) made → (passed : ℕ)
        → GivesNumber new (from (Block test) passed) (lined_at made (later_diagrams outer) passed)
    block_at met made told is zero =
        gives_same new (λ cell. chosen (truth (is_met side test cell)) (after 0 cell) (after 1 cell)) (from (Block test) 0) made
        (λ cell. block_passes (is_met side test cell) (λ passed. after passed cell))
        (choice_gives middle new met so_far (first_outer outer) made (λ cell. truth (is_met side test cell)) (after 0) (after 1) to_new told
        (kept 0) (subst (λ (d : Diagram). GivesNumber middle (after 1) d) (first_at so_far outer) (kept 1)) is)
    block_at met made told is (suc passed) =
        subst (λ (d : Diagram). GivesNumber new (after (suc (suc passed))) d) (taken_at so_far made outer passed) (moved (suc (suc passed)))

  end_at : (nodes : List Node) (so_far : Diagram) (outer : List Diagram) → AreLined nodes side rest (place + 1) otherwise so_far outer → (passed : ℕ)
      → GivesNumber nodes (from End passed) (lined_at so_far (so_far ∷ outer) passed)
  end_at nodes so_far outer lined zero = lined 0
  end_at nodes so_far outer lined (suc passed) =
      let e : passed ≡ suc passed - 1 = omega arith in
      subst (λ n. GivesNumber nodes (after n) (lined_at so_far outer passed)) e (lined passed)

module _ {E : Type 0} (side : Side) (place : ℕ) (old middle new : List Node) (so_far : Diagram) (outer : List Diagram) where
  pub rule_lined : (test : Test) (value : ℕ) (met : Diagram) (r : Result Diagram E) → Keeps old middle → Keeps middle new → Tells middle (is_met side test) met
      → IfOk r (IsChoice new met (Leaf (place + 1)) so_far)
      → IfOk r (λ made. (rest : List RuleLine) (otherwise : ℕ) → AreLined old side rest (place + 1) otherwise so_far outer → AreLined new side (Rule test value ∷ rest) place otherwise made outer)
  rule_lined test value met (Ok made) p q told is = λ rest otherwise lined passed.
      rule_at side rest place otherwise old middle new so_far outer test p q lined value met made told is passed
  rule_lined test value met (Err e) p q told is = tt

  pub block_lined : (test : Test) (met after : Diagram) (left : List Diagram) (r : Result Diagram E) → Keeps old middle → Keeps middle new → Tells middle (is_met side test) met
      → after ≡ first_outer outer → left ≡ later_diagrams outer → IfOk r (IsChoice new met so_far after)
      → IfOk r (λ made. (rest : List RuleLine) (otherwise : ℕ) → AreLined old side rest (place + 1) otherwise so_far outer → AreLined new side (Block test ∷ rest) place otherwise made left)
  block_lined test met after left (Ok made) p q told e f is = λ rest otherwise lined passed.
      let chosen_is : IsChoice new met so_far (first_outer outer) made = subst (λ (d : Diagram). IsChoice new met so_far d made) e is in
      subst (λ (ds : List Diagram). GivesNumber new (λ cell. line_number (decision_from side (Block test ∷ rest) place passed otherwise cell).line) (lined_at made ds passed)) (sym f)
      (block_at side rest place otherwise old middle new so_far outer test p q lined met made told chosen_is passed)
  block_lined test met after left (Err e') p q told e f is = tt

pub end_lined : (side : Side) (place : ℕ) (nodes : List Node) (so_far : Diagram) (outer left : List Diagram) → left ≡ so_far ∷ outer
    → (rest : List RuleLine) (otherwise : ℕ) → AreLined nodes side rest (place + 1) otherwise so_far outer → AreLined nodes side (End ∷ rest) place otherwise so_far left
end_lined side place nodes so_far outer left e rest otherwise lined passed =
    subst (λ (ds : List Diagram). GivesNumber nodes (λ cell. line_number (decision_from side (End ∷ rest) place passed otherwise cell).line) (lined_at so_far ds passed)) (sym e)
    (end_at side rest place otherwise nodes so_far outer lined passed)

-- No line decides where there are none.
pub none_lined : (nodes : List Node) (side : Side) (place otherwise : ℕ) → AreLined nodes side [] place otherwise (Leaf 0) []
none_lined nodes side place otherwise zero = record { within = tt; value = λ cell is. refl }
none_lined nodes side place otherwise (suc passed) = record { within = tt; value = λ cell is. refl }

-- The same for a line by its parts.
pub lined_as : {E : Type 0} (r : Result Diagram E) (side : Side) (place : ℕ) (old new : List Node) (so_far : Diagram) (outer left : List Diagram) (line parts : RuleLine) → line ≡ parts
    → IfOk r (λ made. (rest : List RuleLine) (otherwise : ℕ) → AreLined old side rest (place + 1) otherwise so_far outer → AreLined new side (parts ∷ rest) place otherwise made left)
    → IfOk r (λ made. (rest : List RuleLine) (otherwise : ℕ) → AreLined old side rest (place + 1) otherwise so_far outer → AreLined new side (line ∷ rest) place otherwise made left)
lined_as r side place old new so_far outer left line parts e lined =
    subst (λ (l : RuleLine). IfOk r (λ made. (rest : List RuleLine) (otherwise : ℕ) → AreLined old side rest (place + 1) otherwise so_far outer → AreLined new side (l ∷ rest) place otherwise made left))
    (sym e) lined

-- What is taken is of the nodes.
pub taken_within : (old new : List Node) (so_far after : Diagram) (outer : List Diagram) → Keeps old new → AreAllWithin old so_far outer → after ≡ first_outer outer → IsWithin new after
taken_within old new so_far after outer keeps within e =
    let first : IsWithin old (first_outer outer) = subst (λ (d : Diagram). IsWithin old d) (first_at so_far outer) (within 1) in
    (keeps.same after (subst (λ (d : Diagram). IsWithin old d) (sym e) first)).within

-- ---- the loop

pub init_lined : (nodes : List Node) (side : Side) (lines : List RuleLine) (left otherwise : ℕ) (outer : List Diagram) → left ≡ length lines → outer ≡ []
    → AreLined nodes side (drop left lines) left otherwise (Leaf 0) outer
init_lined nodes side lines left otherwise outer e none =
    let rest : drop left lines ≡ [] = drop_all left lines (omega (arith, e)) in
    subst (λ (ls : List RuleLine). AreLined nodes side ls left otherwise (Leaf 0) outer) (sym rest)
    (subst (λ (ds : List Diagram). AreLined nodes side [] left otherwise (Leaf 0) ds) (sym none) (none_lined nodes side left otherwise))

pub step_lined : (old new : List Node) (side : Side) (lines : List RuleLine) (left place otherwise : ℕ) (line : RuleLine) (so_far made : Diagram) (outer after : List Diagram)
    → 0 < left → left ≤ length lines → place ≡ left - 1 → line ≡ get_or lines (left - 1) line → AreLined old side (drop left lines) left otherwise so_far outer
    → ((rest : List RuleLine) (otherwise : ℕ) → AreLined old side rest (place + 1) otherwise so_far outer → AreLined new side (line ∷ rest) place otherwise made after)
    → AreLined new side (drop (left - 1) lines) (left - 1) otherwise made after
step_lined old new side lines left place otherwise line so_far made outer after pos le e is lined makes =
    let next : left - 1 + 1 ≡ left = omega arith in
    let same : left ≡ place + 1 = omega arith in
    let here : AreLined old side (drop left lines) (place + 1) otherwise so_far outer = subst (λ n. AreLined old side (drop left lines) n otherwise so_far outer) same lined in
    let all : drop (left - 1) lines ≡ line ∷ drop left lines =
    drop_more lines (left - 1) line (omega arith)
    ∙ (ap (λ (l : RuleLine). l ∷ drop (left - 1 + 1) lines) (sym is) ∙ ap (λ n. line ∷ drop n lines) next) in
    subst (λ (ls : List RuleLine). AreLined new side ls (left - 1) otherwise made after) (sym all)
    (subst (λ n. AreLined new side (line ∷ drop left lines) n otherwise made after) e (makes (drop left lines) otherwise here))

pub whole_lined : (nodes : List Node) (rules : Rules) (lines : List RuleLine) (left : ℕ) (so_far : Diagram) (outer : List Diagram) → left ≡ 0 → lines ≡ rules.lines.items
    → AreLined nodes rules.side (drop left lines) left rules.otherwise so_far outer → GivesNumber nodes (deciding_line rules) so_far
whole_lined nodes rules lines left so_far outer e f lined =
    let begun : AreLined nodes rules.side (drop 0 lines) 0 rules.otherwise so_far outer = subst (λ n. AreLined nodes rules.side (drop n lines) n rules.otherwise so_far outer) e lined in
    let whole : AreLined nodes rules.side rules.lines.items 0 rules.otherwise so_far outer = subst (λ (ls : List RuleLine). AreLined nodes rules.side ls 0 rules.otherwise so_far outer) f begun in
    whole 0
