-- Rules whose values are places say which line decides.
use Rattle.std.proofs.Common.{◌≡◌, ℕ, zero, suc, ◌+◌, Bool, true, false, if◌then◌else◌, List, [], ◌∷◌, ◌++◌, length, reverse, Option, Some, None, Result, Ok, refl, sym, ap, subst, ◌∙◌, arith, append-nil, append_assoc}
use Rattle.std.proofs.lemmas.List.{reverse-append}
use Rattle.std.specs.Option.{IfSome}
use Rattle.bpf_code.specs.declared.instr.Instr.{Instr}
use Rattle.rules_cells.specs.Decisions.{IsFirstDecision, IsTried, decision_by, decision_from, decision_of, passed_after}
use Rattle.rules_cells.specs.Promise.{FollowsRules}
use Rattle.rules_cells.specs.Tests.{is_met}
use Rattle.rules_cells.specs.declared.deciding.Decision.{Decision}
use Rattle.rules_cells.specs.declared.rules.RuleLine.{RuleLine}
use Rattle.rules_cells.specs.declared.rules.RuleLine.TheVariants.{Rule, Block, End}
use Rattle.rules_cells.specs.declared.rules.Rules.{Rules}
use Rattle.rules_cells.specs.declared.test.Test.{Test}
use Rattle.rules_cells.proofs.DecisionSteps.{first_decides}
use Rattle.rules_text.specs.DecisionsRead.{rules_decide}
use Rattle.rules_text.specs.RulesRead.{RulesRead, rules_read}
use Rattle.rules_text.proofs.Public.{decision_same}
use Rattle.rules_text.proofs.ReadingSteps.{without_places}
use Rattle.rules_text.specs.CodeOfText.{IsCodeOfText}
use Rattle.rules_text.specs.RulesInMemory.{placed_rules_read}
use Rattle.rules_text.specs.TextOfRules.{placed_rules_in, rules_in}
use Rattle.rules_text.specs.declared.fault.RuleFault.{RuleFault}
use Rattle.rules_text.specs.declared.reader.PlacedRules.{PlacedRules}
use Rattle.bpf_verify.specs.Accepted.{IsAccepted}
use Rattle.cmd_rules.specs.WhyText.{HasCode}
use Rattle.upc_cell.specs.declared.side.Side.{Side}
use Rattle.cmd_rules.specs.inner.Places.{GivesPlaces, decision_by_place, line_by_place, lines_by_place, place_value, value_of_line}

-- ---- the lines, from the last one on

last_by_place : (place : ℕ) (lines : List RuleLine) (line : RuleLine)
    → lines_by_place place (lines ++ line ∷ []) ≡ lines_by_place place lines ++ line_by_place (place + length lines) line ∷ []
last_by_place place [] line = ap (λ (n : ℕ). line_by_place n line ∷ []) (let same : place ≡ place + 0 = omega arith in same)
last_by_place place (first ∷ lines) line =
    ap (λ (ls : List RuleLine). line_by_place place first ∷ ls) (last_by_place (place + 1) lines line
    ∙ ap (λ (n : ℕ). lines_by_place (place + 1) lines ++ line_by_place n line ∷ []) (let same : place + 1 + length lines ≡ place + suc (length lines) = omega arith in same))

last_of_all : (lines : List RuleLine) (line : RuleLine) → lines_by_place 0 (lines ++ line ∷ []) ≡ lines_by_place 0 lines ++ line_by_place (length lines) line ∷ []
last_of_all lines line =
    last_by_place 0 lines line
    ∙ ap (λ (n : ℕ). lines_by_place 0 lines ++ line_by_place n line ∷ []) (let same : 0 + length lines ≡ length lines = omega arith in same)

-- What is left of lines, with those that were taken from their end: all lines by their places.
abbrev pub AreTaken : List RuleLine → List RuleLine → List RuleLine → Type 0
AreTaken lines left reversed = lines_by_place 0 left ++ reverse reversed ≡ lines_by_place 0 lines

pub none_taken : (lines : List RuleLine) → AreTaken lines lines []
none_taken lines = append-nil (lines_by_place 0 lines)

pub one_taken : (lines old new reversed : List RuleLine) (line made : RuleLine) → old ≡ new ++ line ∷ [] → made ≡ line_by_place (length new) line
    → AreTaken lines old reversed → AreTaken lines new (reversed ++ made ∷ [])
one_taken lines old new reversed line made cut is so =
    ap (λ (ls : List RuleLine). lines_by_place 0 new ++ ls) (reverse-append reversed (made ∷ []) ∙ ap (λ (l : RuleLine). l ∷ reverse reversed) is)
    ∙ sym (append_assoc (lines_by_place 0 new) (line_by_place (length new) line ∷ []) (reverse reversed))
    ∙ ap (λ (ls : List RuleLine). ls ++ reverse reversed) (sym (last_of_all new line)) ∙ ap (λ (ls : List RuleLine). lines_by_place 0 ls ++ reverse reversed) (sym cut) ∙ so

-- ---- what they decide

-- The same decision, with the place of its line as its value.
abbrev placed : Decision → Decision
placed decision = record { line = decision.line; value = place_value decision.line }

by_met : (is : Bool) (place value : ℕ) (one other : Decision) → one ≡ placed other
    → decision_by (if is then Some (suc place) else None) place one ≡ placed (decision_by (if is then Some value else None) place other)
by_met true place value one other e = refl
by_met false place value one other e = e

places_decide : (side : Side) (lines : List RuleLine) (place passed otherwise : ℕ) (cell : List ℕ)
    → decision_from side (lines_by_place place lines) place passed 0 cell ≡ placed (decision_from side lines place passed otherwise cell)
places_decide side [] place passed otherwise cell = refl
places_decide side (Rule test value ∷ rest) place zero otherwise cell =
    by_met (is_met side test cell) place value _ _ (places_decide side rest (place + 1) zero otherwise cell)
places_decide side (Rule test value ∷ rest) place (suc passed) otherwise cell = places_decide side rest (place + 1) (suc passed) otherwise cell
places_decide side (Block test ∷ rest) place passed otherwise cell =
    places_decide side rest (place + 1) (passed_after side (Block test) passed cell) otherwise cell
places_decide side (End ∷ rest) place passed otherwise cell =
    places_decide side rest (place + 1) (passed_after side End passed cell) otherwise cell

module _ (rules by_place : Rules) (side : by_place.side ≡ rules.side) (lines : by_place.lines.items ≡ lines_by_place 0 rules.lines.items) (otherwise : by_place.otherwise ≡ 0) where
  decides_places : (cell : List ℕ) → decision_of by_place cell ≡ placed (decision_of rules cell)
  decides_places cell =
      ap (λ (s : Side). decision_from s by_place.lines.items 0 0 by_place.otherwise cell) side
      ∙ ap (λ (ls : List RuleLine). decision_from rules.side ls 0 0 by_place.otherwise cell) lines
      ∙ ap (λ (n : ℕ). decision_from rules.side (lines_by_place 0 rules.lines.items) 0 0 n cell) otherwise
      ∙ places_decide rules.side rules.lines.items 0 0 rules.otherwise cell

  -- A code of the rules by place gives places.
  pub gives_places : (code : List Instr) → FollowsRules by_place code → GivesPlaces (rules_read rules) code
  gives_places code follows cell value steps is runs =
      follows.only cell value steps is runs ∙ sym (first_decides by_place cell).value ∙ ap (λ (d : Decision). d.value) (decides_places cell)
      ∙ ap (λ (d : Decision). place_value d.line) (decision_same rules cell)

-- ---- the decision of a place

decided_by : (rules : Rules) (cell : List ℕ) (decision : Decision) (line : Option ℕ) → decision.line ≡ line → IsFirstDecision rules cell decision
    → decision_by_place rules (place_value line) ≡ record { line = line; value = decision.value }
decided_by rules cell decision None e is = ap (λ (v : ℕ). record { line = None; value = v }) (sym (is.others e))
decided_by rules cell decision (Some place) e is =
    let decides : (test : Test) × IsTried rules.side rules.lines.items 0 cell place test decision.value × (is_met rules.side test cell ≡ true) =
    subst (λ (l : Option ℕ). IfSome l (λ place. (test : Test) × IsTried rules.side rules.lines.items 0 cell place test decision.value × (is_met rules.side test cell ≡ true))) e is.decides in
    ap (λ (l : Option RuleLine). record { line = Some place; value = value_of_line l }) decides.1.0

decided : (rules : Rules) (cell : List ℕ) → decision_by_place rules (place_value (decision_of rules cell).line) ≡ decision_of rules cell
decided rules cell = decided_by rules cell (decision_of rules cell) (decision_of rules cell).line refl (first_decides rules cell)

pub decided_as_read : (rules : Rules) (cell : List ℕ) (value : ℕ) (decision : Decision) → value ≡ place_value (rules_decide (rules_read rules) cell).line
    → decision ≡ decision_by_place rules value → decision ≡ rules_decide (rules_read rules) cell
decided_as_read rules cell value decision is made =
    made ∙ ap (decision_by_place rules) (is ∙ ap (λ (d : Decision). place_value d.line) (sym (decision_same rules cell))) ∙ decided rules cell ∙ decision_same rules cell

-- ---- the rules of a text

pub has_code : (text : List ℕ) (code : List Instr) → IsCodeOfText text code → IsAccepted code → HasCode text
has_code text code of_text accepted = record { code = code; of_text = of_text; within = accepted.sized.most }

same_rules : (one other : RulesRead) (found : Result RulesRead RuleFault) → found ≡ Ok one → found ≡ Ok other → one ≡ other
same_rules one other found e f = cc

pub places_kept : (text : List ℕ) (placed_rules : PlacedRules) (found : Option (List Instr)) → placed_rules_in text ≡ Ok (placed_rules_read placed_rules)
    → IfSome found (λ code. (rules : RulesRead) × (rules_in text ≡ Ok rules) × GivesPlaces rules code) → IfSome found (GivesPlaces (rules_read placed_rules.rules))
places_kept text placed_rules None read finds = tt
places_kept text placed_rules (Some code) read (rules, is, gives) =
    subst (λ (r : RulesRead). GivesPlaces r code) (same_rules rules (rules_read placed_rules.rules) (rules_in text) is (without_places text (placed_rules_read placed_rules) read)) gives
