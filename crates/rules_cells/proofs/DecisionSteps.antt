-- Which line decides.
use Rattle.std.proofs.Common.{◌≡◌, ℕ, zero, suc, ◌+◌, ◌-◌, ◌<◌, Bool, true, false, if◌then◌else◌, List, [], ◌∷◌, Option, Some, None, IfSome, refl, ap, subst, arith}
use Rattle.upc_cell.specs.declared.side.Side.{Side}
use Rattle.rules_cells.specs.Decisions.{value_given, passed_after, decision_by, decision_from, decision_of, IsTried, IsEarlier, TheFirstRuleDecides}
use Rattle.rules_cells.specs.Rules.{rules_value_from}
use Rattle.rules_cells.specs.Tests.{is_met}
use Rattle.rules_cells.specs.declared.deciding.Decision.{Decision}
use Rattle.rules_cells.specs.declared.rules.RuleLine.{RuleLine}
use Rattle.rules_cells.specs.declared.rules.RuleLine.TheVariants.{Rule, Block, End}
use Rattle.rules_cells.specs.declared.rules.Rules.{Rules}
use Rattle.rules_cells.specs.declared.test.Test.{Test}

module _ (side : Side) (otherwise : ℕ) (cell : List ℕ) where
  -- ---- the value is that of the rules
  chosen_value : (b : Bool) (value place other : ℕ) (later : Decision) → later.value ≡ other
      → (decision_by (if b then Some value else None) place later).value ≡ (if b then value else other)
  chosen_value true value place other later e = refl
  chosen_value false value place other later e = e

  block_value : (b : Bool) (from : ℕ → Decision) (inside past : ℕ) → (from 0).value ≡ inside → (from 1).value ≡ past
      → (from (if b then 0 else 1)).value ≡ (if b then inside else past)
  block_value true from inside past e f = e
  block_value false from inside past e f = f

  pub value_is : (lines : List RuleLine) (place passed : ℕ) → (decision_from side lines place passed otherwise cell).value ≡ rules_value_from side lines passed otherwise cell
  value_is [] place passed = refl
  value_is (Rule test value ∷ rest) place zero =
      chosen_value (is_met side test cell) value place (rules_value_from side rest zero otherwise cell) (decision_from side rest (place + 1) zero otherwise cell) (value_is rest (place + 1) zero)
  value_is (Block test ∷ rest) place zero =
      block_value (is_met side test cell) (λ passed. decision_from side rest (place + 1) passed otherwise cell)
      (rules_value_from side rest zero otherwise cell) (rules_value_from side rest 1 otherwise cell) (value_is rest (place + 1) zero) (value_is rest (place + 1) 1)
  value_is (End ∷ rest) place zero = value_is rest (place + 1) zero
  value_is (Rule test value ∷ rest) place (suc passed) = value_is rest (place + 1) (suc passed)
  value_is (Block test ∷ rest) place (suc passed) = value_is rest (place + 1) (suc (suc passed))
  value_is (End ∷ rest) place (suc passed) =
      let back : passed ≡ suc passed - 1 = omega arith in
      subst (λ (n : ℕ). (decision_from side rest (place + 1) n otherwise cell).value ≡ rules_value_from side rest passed otherwise cell) back (value_is rest (place + 1) passed)

  -- ---- the rule that decides
  chosen_some : (b : Bool) (value found : ℕ) → ◌≡◌ {A = Option ℕ} (if b then Some value else None) (Some found) → (value ≡ found) × (b ≡ true)
  chosen_some true value found e = (cc, refl)
  chosen_some false value found e = cc

  chosen_none : (b : Bool) (value : ℕ) → ◌≡◌ {A = Option ℕ} (if b then Some value else None) None → b ≡ false
  chosen_none true value e = cc
  chosen_none false value e = refl

  abbrev GivesAt : RuleLine → ℕ → ℕ → Type 0
  GivesAt line passed value = (test : Test) × (line ≡ Rule test value) × (passed ≡ 0) × (is_met side test cell ≡ true)

  gives_at : (line : RuleLine) (passed value : ℕ) → value_given side line passed cell ≡ Some value → GivesAt line passed value
  gives_at (Rule test value) zero found e =
      let both = chosen_some (is_met side test cell) value found e in
      (test, ap (λ (n : ℕ). Rule test n) both.0, refl, both.1)
  gives_at (Rule test value) (suc passed) found e = let no : ◌≡◌ {A = Option ℕ} None (Some found) = e in cc
  gives_at (Block test) passed found e = let no : ◌≡◌ {A = Option ℕ} None (Some found) = e in cc
  gives_at End passed found e = let no : ◌≡◌ {A = Option ℕ} None (Some found) = e in cc

  abbrev pub DecidesAt : List RuleLine → ℕ → ℕ → Decision → ℕ → Type 0
  DecidesAt lines place passed decision found =
      (at : ℕ) × (found ≡ place + at) × (test : Test) × IsTried side lines passed cell at test decision.value × (is_met side test cell ≡ true)

  decides_by : (line : RuleLine) (rest : List RuleLine) (place passed : ℕ) (given : Option ℕ) (later : Decision) → value_given side line passed cell ≡ given
      → IfSome later.line (DecidesAt rest (place + 1) (passed_after side line passed cell) later)
      → IfSome (decision_by given place later).line (DecidesAt (line ∷ rest) place passed (decision_by given place later))
  decides_by line rest place passed None later gives deep = onward later.line deep
    where
      onward : (found : Option ℕ) → IfSome found (DecidesAt rest (place + 1) (passed_after side line passed cell) later) → IfSome found (DecidesAt (line ∷ rest) place passed later)
      onward None h = tt
      onward (Some found) h =
          let is : found ≡ place + suc h.0 = omega (arith, h.1) in
          (suc h.0, is, h.2, h.3, h.4)
  decides_by line rest place passed (Some value) later gives deep =
      let rule = gives_at line passed value gives in
      let is : place ≡ place + 0 = omega arith in
      (0, is, rule.0, (ap (λ (l : RuleLine). Some l) rule.1, rule.2), rule.3)

  pub decides : (lines : List RuleLine) (place passed : ℕ) → IfSome (decision_from side lines place passed otherwise cell).line (DecidesAt lines place passed (decision_from side lines place passed otherwise cell))
  decides [] place passed = tt
  decides (line ∷ rest) place passed =
      decides_by line rest place passed (value_given side line passed cell) (decision_from side rest (place + 1) (passed_after side line passed cell) otherwise cell) refl
      (decides rest (place + 1) (passed_after side line passed cell))

  -- ---- no rule before it does
  none_given : (line : RuleLine) (passed value : ℕ) (test : Test) → line ≡ Rule test value → passed ≡ 0 → value_given side line passed cell ≡ None → is_met side test cell ≡ false
  none_given line passed value test is_rule is_zero e =
      chosen_none (is_met side test cell) value
      (subst (λ (l : RuleLine). value_given side l 0 cell ≡ None) is_rule (subst (λ (n : ℕ). value_given side line n cell ≡ None) is_zero e))

  first_by : (line : RuleLine) (rest : List RuleLine) (place passed : ℕ) (given : Option ℕ) (later : Decision) → value_given side line passed cell ≡ given
      → ((at value : ℕ) (test : Test) → IsTried side rest (passed_after side line passed cell) cell at test value → IsEarlier (place + 1 + at) later.line → is_met side test cell ≡ false)
      → (at value : ℕ) (test : Test) → IsTried side (line ∷ rest) passed cell at test value → IsEarlier (place + at) (decision_by given place later).line → is_met side test cell ≡ false
  first_by line rest place passed None later gives deep zero value test tried before =
      let same : line ≡ Rule test value = let e : Some line ≡ Some (Rule test value) = tried.0 in cc in
      none_given line passed value test same tried.1 gives
  first_by line rest place passed None later gives deep (suc at) value test tried before =
      let is : place + suc at ≡ place + 1 + at = omega arith in
      deep at value test tried (subst (λ (n : ℕ). IsEarlier n later.line) is before)
  first_by line rest place passed (Some found) later gives deep at value test tried before =
      let h : place + at < place = before in absurd (omega (arith, h))

  pub first : (lines : List RuleLine) (place passed at value : ℕ) (test : Test) → IsTried side lines passed cell at test value
      → IsEarlier (place + at) (decision_from side lines place passed otherwise cell).line → is_met side test cell ≡ false
  first [] place passed at value test tried before = let no : None ≡ Some (Rule test value) = tried.0 in cc
  first (line ∷ rest) place passed at value test tried before =
      first_by line rest place passed (value_given side line passed cell) (decision_from side rest (place + 1) (passed_after side line passed cell) otherwise cell) refl
      (first rest (place + 1) (passed_after side line passed cell)) at value test tried before

  -- ---- no rule decides
  others_by : (place : ℕ) (given : Option ℕ) (later : Decision) → (later.line ≡ None → later.value ≡ otherwise)
      → (decision_by given place later).line ≡ None → (decision_by given place later).value ≡ otherwise
  others_by place None later deep e = deep e
  others_by place (Some value) later deep e = let no : Some place ≡ None = e in cc

  pub others : (lines : List RuleLine) (place passed : ℕ) → (decision_from side lines place passed otherwise cell).line ≡ None
      → (decision_from side lines place passed otherwise cell).value ≡ otherwise
  others [] place passed e = refl
  others (line ∷ rest) place passed e =
      others_by place (value_given side line passed cell) (decision_from side rest (place + 1) (passed_after side line passed cell) otherwise cell)
      (others rest (place + 1) (passed_after side line passed cell)) e

-- From the first place on.
decides_whole : (rules : Rules) (cell : List ℕ) (decision : Decision) (found : Option ℕ) → IfSome found (DecidesAt rules.side rules.otherwise cell rules.lines.items 0 0 decision)
    → IfSome found (λ place. (test : Test) × IsTried rules.side rules.lines.items 0 cell place test decision.value × (is_met rules.side test cell ≡ true))
decides_whole rules cell decision None h = tt
decides_whole rules cell decision (Some found) h =
    let is : h.0 ≡ found = omega (arith, h.1) in
    (h.2, subst (λ (place : ℕ). IsTried rules.side rules.lines.items 0 cell place h.2 decision.value) is h.3, h.4)

pub first_decides : TheFirstRuleDecides
first_decides rules cell = record {
  value = value_is rules.side rules.otherwise cell rules.lines.items 0 0;
  decides = decides_whole rules cell (decision_of rules cell) (decision_of rules cell).line (decides rules.side rules.otherwise cell rules.lines.items 0 0);
  first = λ place value test tried before.
      let is : place ≡ 0 + place = omega arith in
      first rules.side rules.otherwise cell rules.lines.items 0 0 place value test tried
      (subst (λ (n : ℕ). IsEarlier n (decision_of rules cell).line) is before);
  others = λ none. others rules.side rules.otherwise cell rules.lines.items 0 0 none;
}
