-- The code of the lines that rules become follows the rules.
use Rattle.std.proofs.Common.{◌≡◌, ℕ, zero, suc, Bool, if◌then◌else◌, List, [], ◌∷◌, ◌++◌, take, length, ◌+◌, ◌<◌, get_or, Result, Ok, Err, refl, sym, ap, subst, ◌∙◌}
use Rattle.std.proofs.lemmas.List.{take_more}
use Rattle.std.specs.Result.{IfOk}
use Rattle.bpf_code.specs.declared.instr.Instr.{Instr}
use Rattle.bpf_interp.specs.Value.{Value}
use Rattle.rules_code.specs.Lines.{value_from}
use Rattle.rules_code.specs.PlainTests.{holds}
use Rattle.rules_code.specs.Promise.{Classifies}
use Rattle.rules_code.specs.declared.lines.Line.{Line}
use Rattle.rules_code.specs.declared.lines.Line.TheVariants as line
use Rattle.upc_cell.specs.declared.side.Side.{Side}
use Rattle.rules_cells.specs.Fields.{IsCell}
use Rattle.rules_cells.specs.Tests.{is_met}
use Rattle.rules_cells.specs.Rules.{rules_value_from}
use Rattle.rules_cells.specs.Promise.{FollowsRules}
use Rattle.rules_cells.specs.declared.rules.RuleLine.{RuleLine}
use Rattle.rules_cells.specs.declared.rules.RuleLine.TheVariants.{Rule, Block, End}
use Rattle.rules_cells.specs.declared.rules.Rules.{Rules}
use Rattle.rules_cells.specs.PlainOf.{IsPlainLine, ArePlainLines}
use Rattle.rules_cells.proofs.Means.{plain_means}

-- A choice between equal values by equal tests.
same_choice : (b c : Bool) (x y u v : ℕ) → b ≡ c → x ≡ u → y ≡ v → (if b then x else y) ≡ (if c then u else v)
same_choice b c x y u v p q r = ap (λ t. if t then x else y) p ∙ (ap (λ n. if c then n else y) q ∙ ap (λ n. if c then u else n) r)

module _ (side : Side) (otherwise : ℕ) (cell : List ℕ) (is : IsCell cell) where
  value_same : (rules : List RuleLine) (lines : List Line) → ArePlainLines side rules lines → (skipped : ℕ) → value_from lines skipped otherwise cell ≡ rules_value_from side rules skipped otherwise cell
  value_same [] [] are skipped = refl
  value_same (Rule test value ∷ more) (line.Rule plain other ∷ rest) are zero =
      same_choice (holds plain cell) (is_met side test cell) other (value_from rest zero otherwise cell) value (rules_value_from side more zero otherwise cell)
      (plain_means side cell is test plain are.0.0) are.0.1 (value_same more rest are.1 zero)
  value_same (Block test ∷ more) (line.Block plain ∷ rest) are zero =
      same_choice (holds plain cell) (is_met side test cell) (value_from rest zero otherwise cell) (value_from rest 1 otherwise cell) (rules_value_from side more zero otherwise cell) (rules_value_from side more 1 otherwise cell)
      (plain_means side cell is test plain are.0) (value_same more rest are.1 zero) (value_same more rest are.1 1)
  value_same (End ∷ more) (line.End ∷ rest) are zero = value_same more rest are.1 zero
  value_same (Rule test value ∷ more) (line.Rule plain other ∷ rest) are (suc skipped) = value_same more rest are.1 (suc skipped)
  value_same (Block test ∷ more) (line.Block plain ∷ rest) are (suc skipped) = value_same more rest are.1 (suc (suc skipped))
  value_same (End ∷ more) (line.End ∷ rest) are (suc skipped) = value_same more rest are.1 skipped
  value_same [] (line ∷ rest) are skipped = absurd are
  value_same (rule ∷ more) [] are skipped = absurd are
  value_same (Rule test value ∷ more) (line.Block plain ∷ rest) are skipped = absurd are.0
  value_same (Rule test value ∷ more) (line.End ∷ rest) are skipped = absurd are.0
  value_same (Block test ∷ more) (line.Rule plain other ∷ rest) are skipped = absurd are.0
  value_same (Block test ∷ more) (line.End ∷ rest) are skipped = absurd are.0
  value_same (End ∷ more) (line.Rule plain other ∷ rest) are skipped = absurd are.0
  value_same (End ∷ more) (line.Block plain ∷ rest) are skipped = absurd are.0

pub follows : (rules : Rules) (lines : List Line) (code : List Instr) → ArePlainLines rules.side rules.lines.items lines → Classifies lines rules.otherwise code → FollowsRules rules code
follows rules lines code are c = record {
  gives = λ cell is.
      let given = c.gives cell is.whole in
      (given.0, subst (λ v. Value code cell v given.0) (value_same rules.side rules.otherwise cell is rules.lines.items lines are 0) given.1);
  only = λ cell value steps is there. c.only cell value steps is.whole there ∙ value_same rules.side rules.otherwise cell is rules.lines.items lines are 0;
}

-- One more line.
pub one_more : (side : Side) (rules : List RuleLine) (lines : List Line) (rule : RuleLine) (line : Line) → ArePlainLines side rules lines → IsPlainLine side rule line → ArePlainLines side (rules ++ rule ∷ []) (lines ++ line ∷ [])
one_more side [] [] rule line are of = (of, tt)
one_more side [] (l ∷ lines) rule line are of = absurd are
one_more side (r ∷ rules) [] rule line are of = absurd are
one_more side (r ∷ rules) (l ∷ lines) rule line are of = (are.0, one_more side rules lines rule line are.1 of)

pub lines_more : (side : Side) (rules : List RuleLine) (i : ℕ) (rule : RuleLine) (lines new : List Line) (line : Line) → i < length rules → rule ≡ get_or rules i rule
    → ArePlainLines side (take i rules) lines → IsPlainLine side rule line → new ≡ lines ++ line ∷ [] → ArePlainLines side (take (i + 1) rules) new
lines_more side rules i rule lines new line lt is are of made =
    let all = one_more side (take i rules) lines rule line are of in
    let cut = take_more rules i rule lt ∙ ap (λ (r : RuleLine). take i rules ++ r ∷ []) (sym is) in
    subst (λ (n : List Line). ArePlainLines side (take (i + 1) rules) n) (sym made) (subst (λ (r : List RuleLine). ArePlainLines side r (lines ++ line ∷ [])) (sym cut) all)

-- What follows from what is said of the value in an `Ok`.
pub if_ok : {T E : Type 0} (r : Result T E) (P Q : T → Type 0) → ((v : T) → P v → Q v) → IfOk r P → IfOk r Q
if_ok (Ok v) P Q f h = f v h
if_ok (Err e) P Q f h = tt

pub if_ok_both : {T E : Type 0} (r : Result T E) (P Q S : T → Type 0) → ((v : T) → P v → Q v → S v) → IfOk r P → IfOk r Q → IfOk r S
if_ok_both (Ok v) P Q S f h g = f v h g
if_ok_both (Err e) P Q S f h g = tt
