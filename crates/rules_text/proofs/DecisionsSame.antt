-- Rules in memory decide as what they are written as, and the value of a decision is that of the rules.
use Rattle.std.proofs.Common.{◌≡◌, ℕ, zero, suc, ◌+◌, ◌-◌, Bool, true, false, if◌then◌else◌, List, [], ◌∷◌, map, Option, Some, None, Result, Ok, refl, sym, ap, subst, ◌∙◌, arith}
use Rattle.rules_cells.specs.Decisions.{value_given, passed_after, decision_by, decision_from, decision_of}
use Rattle.rules_cells.specs.declared.deciding.Decision.{Decision}
use Rattle.rules_cells.specs.declared.rules.RuleLine.{RuleLine}
use Rattle.rules_cells.specs.declared.rules.RuleLine.TheVariants.{Rule, Block, End}
use Rattle.rules_cells.specs.declared.rules.Rules.{Rules}
use Rattle.upc_cell.specs.declared.side.Side.{Side}
use Rattle.rules_text.specs.DecisionsRead.{line_gives, line_passes, lines_decide, rules_decide}
use Rattle.rules_text.specs.Laws.{CodeGivesWhatIsDecided}
use Rattle.rules_text.specs.RulesRead.{LineRead, rule_line, block_line, end_line, RulesRead, line_read, rules_read}
use Rattle.rules_text.specs.ValuesRead.{lines_give, rules_give, test_holds}
use Rattle.bpf_interp.specs.Value.{Value}
use Rattle.rules_text.specs.TextOfRules.{rules_in}
use Rattle.rules_text.specs.declared.fault.RuleFault.{RuleFault}
use Rattle.rules_text.proofs.ReadingSteps.{without_places}
use Rattle.rules_text.proofs.Values.{test_same}

gives_same : (side : Side) (line : RuleLine) (passed : ℕ) (cell : List ℕ) → value_given side line passed cell ≡ line_gives side (line_read line) passed cell
gives_same side (Rule test value) zero cell = ap (λ (b : Bool). if b then Some value else None) (test_same side cell test)
gives_same side (Rule test value) (suc passed) cell = refl
gives_same side (Block test) passed cell = refl
gives_same side End passed cell = refl

passes_same : (side : Side) (line : RuleLine) (passed : ℕ) (cell : List ℕ) → passed_after side line passed cell ≡ line_passes side (line_read line) passed cell
passes_same side (Rule test value) passed cell = refl
passes_same side (Block test) zero cell = ap (λ (b : Bool). if b then 0 else 1) (test_same side cell test)
passes_same side (Block test) (suc passed) cell = refl
passes_same side End passed cell = refl

decides_same : (side : Side) (lines : List RuleLine) (place passed otherwise : ℕ) (cell : List ℕ)
    → decision_from side lines place passed otherwise cell ≡ lines_decide side (map line_read lines) place passed otherwise cell
decides_same side [] place passed otherwise cell = refl
decides_same side (line ∷ rest) place passed otherwise cell =
    ap (λ (given : Option ℕ). decision_by given place (decision_from side rest (place + 1) (passed_after side line passed cell) otherwise cell)) (gives_same side line passed cell)
    ∙ ap (λ (n : ℕ). decision_by (line_gives side (line_read line) passed cell) place (decision_from side rest (place + 1) n otherwise cell)) (passes_same side line passed cell)
    ∙ ap (λ (later : Decision). decision_by (line_gives side (line_read line) passed cell) place later) (decides_same side rest (place + 1) (line_passes side (line_read line) passed cell) otherwise cell)

-- Rules in memory decide as what they are written as.
pub decision_same : (rules : Rules) (cell : List ℕ) → decision_of rules cell ≡ rules_decide (rules_read rules) cell
decision_same rules cell = decides_same rules.side rules.lines.items 0 0 rules.otherwise cell

-- ---- the value of a decision

chosen_value : (b : Bool) (value place other : ℕ) (later : Decision) → later.value ≡ other
    → (decision_by (if b then Some value else None) place later).value ≡ (if b then value else other)
chosen_value true value place other later e = refl
chosen_value false value place other later e = e

block_value : (b : Bool) (from : ℕ → Decision) (inside past : ℕ) → (from 0).value ≡ inside → (from 1).value ≡ past
    → (from (if b then 0 else 1)).value ≡ (if b then inside else past)
block_value true from inside past e f = e
block_value false from inside past e f = f

value_is : (side : Side) (otherwise : ℕ) (cell : List ℕ) (lines : List LineRead) (place passed : ℕ) → (lines_decide side lines place passed otherwise cell).value ≡ lines_give side lines passed otherwise cell
value_is side otherwise cell [] place passed = refl
value_is side otherwise cell (rule_line test value ∷ rest) place zero =
    chosen_value (test_holds side test cell) value place (lines_give side rest zero otherwise cell) (lines_decide side rest (place + 1) zero otherwise cell) (value_is side otherwise cell rest (place + 1) zero)
value_is side otherwise cell (block_line test ∷ rest) place zero =
    block_value (test_holds side test cell) (λ passed. lines_decide side rest (place + 1) passed otherwise cell)
    (lines_give side rest zero otherwise cell) (lines_give side rest 1 otherwise cell) (value_is side otherwise cell rest (place + 1) zero) (value_is side otherwise cell rest (place + 1) 1)
value_is side otherwise cell (end_line ∷ rest) place zero = value_is side otherwise cell rest (place + 1) zero
value_is side otherwise cell (rule_line test value ∷ rest) place (suc passed) = value_is side otherwise cell rest (place + 1) (suc passed)
value_is side otherwise cell (block_line test ∷ rest) place (suc passed) = value_is side otherwise cell rest (place + 1) (suc (suc passed))
value_is side otherwise cell (end_line ∷ rest) place (suc passed) =
    let back : passed ≡ suc passed - 1 = omega arith in
    subst (λ (n : ℕ). (lines_decide side rest (place + 1) n otherwise cell).value ≡ lines_give side rest passed otherwise cell) back (value_is side otherwise cell rest (place + 1) passed)

-- The value of a decision is that of the rules.
pub decided_value : (rules : RulesRead) (cell : List ℕ) → (rules_decide rules cell).value ≡ rules_give rules cell
decided_value rules cell = value_is rules.side rules.otherwise cell rules.lines 0 0

-- ---- a code that follows a text

same_rules : (one other : RulesRead) (found : Result RulesRead RuleFault) → found ≡ Ok one → found ≡ Ok other → one ≡ other
same_rules one other found e f = cc

pub code_decides : CodeGivesWhatIsDecided
code_decides octets placed_rules code cell read follows is =
    let same = same_rules follows.rules placed_rules.rules (rules_in octets) follows.read (without_places octets placed_rules read) in
    let value : rules_give follows.rules cell ≡ (rules_decide placed_rules.rules cell).value =
    ap (λ (rules : RulesRead). rules_give rules cell) same ∙ sym (decided_value placed_rules.rules cell) in
    let given = follows.gives cell is in
    record {
      gives = (given.0, subst (λ (v : ℕ). Value code cell v given.0) value given.1);
      only = λ other steps ends. follows.only cell other steps is ends ∙ value;
    }
