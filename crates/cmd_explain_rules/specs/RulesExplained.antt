-- The output of `upc-lab explain` for a text of rules: its fault, as `upc-lab rules` has it, or that there is none.
use Rattle.std.specs.Prelude.{◌≡◌, ◌⊎◌, ℕ, ◌+◌, ◌==◌, if◌then◌else◌, List, [], ◌∷◌, ◌++◌, codes, decimal, Ok, Err}
use Rattle.bpf_code.specs.declared.instr.Instr.{Instr}
use Rattle.bpf_verify.specs.Accepted.{IsAccepted}
use Rattle.cmd_explain_rules.specs.RuleHints.{AreRuleHints}
use Rattle.cmd_explain_rules.specs.RuleReasons.{rule_explanation}
use Rattle.cmd_rules.specs.RuleFaults.{rule_fault}
use Rattle.cmd_rules.specs.RulesAnswers.{IsAnswerBy}
use Rattle.rules_text.specs.CodeOfText.{IsCodeOfText}
use Rattle.rules_text.specs.RulesRead.{LineRead, rule_line, block_line, end_line}
use Rattle.rules_text.specs.TextFaults.{IsTooLong}
use Rattle.rules_text.specs.TextOfRules.{PlacedRulesRead, placed_rules_in, placed_fault}
use Rattle.rules_text.specs.declared.fault.RuleFault.{RuleFault}
use Rattle.rules_text.specs.declared.fault.RuleFaultKind.TheVariants.{TooLong}
use Rattle.text_io.specs.declared.ending.Done.{Done}
use Rattle.text_io.specs.declared.ending.Done.TheVariants.{Whole, Ended}
use Rattle.text_words.specs.FaultLines.{line}

-- The fault of a text, as `upc-lab rules` has it: the one that reading it meets, or that the code of its rules is too long. (`rules_in` is
-- `placed_rules_in` without the places of lines, and has the same fault.)
abbrev pub IsFaultOfText : List ℕ → RuleFault → Type 0
IsFaultOfText text fault = (placed_rules_in text ≡ Err fault) ⊎ ((fault ≡ placed_fault 0 0 TooLong) × IsTooLong text)

-- The text has these rules, and their code is accepted.
pub record HasNoFault (text : List ℕ) (placed_rules : PlacedRulesRead) : Type 0 where
  pub read : placed_rules_in text ≡ Ok placed_rules
  pub code : List Instr
  pub of_text : IsCodeOfText text code
  pub accepted : IsAccepted code

-- How many of these lines are rules.
abbrev pub rules_count : List LineRead → ℕ
rules_count [] = 0
rules_count (rule_line test value ∷ lines) = 1 + rules_count lines
rules_count (block_line test ∷ lines) = rules_count lines
rules_count (end_line ∷ lines) = rules_count lines

-- A number of rules, in words.
abbrev pub rules_words : ℕ → List ℕ
rules_words count = if count == 1 then codes "1 rule" else decimal count ++ codes " rules"

-- The line that says that rules have no fault.
abbrev pub no_fault_text : PlacedRulesRead → List ℕ
no_fault_text placed_rules = line (codes "no fault in " ++ rules_words (rules_count placed_rules.rules.lines))

-- The answer to a text with this fault: the line of `upc-lab rules`, and an explanation.
abbrev pub fault_answer : List ℕ → RuleFault → List ℕ
fault_answer text fault = rule_fault fault ++ rule_explanation text fault

-- The answer to a text of rules, and how the run ends: its fault, or that there is none, with hints.
abbrev pub ExplainsRules : List ℕ → List ℕ → Done → Type 0
ExplainsRules text answer done =
    ((placed_rules : PlacedRulesRead) × HasNoFault text placed_rules
    × ((hints : List ℕ) × AreRuleHints [] placed_rules hints × (answer ≡ no_fault_text placed_rules ++ hints)) × (done ≡ Whole))
    ⊎ ((fault : RuleFault) × IsFaultOfText text fault × (answer ≡ fault_answer text fault) × (done ≡ Ended))

-- The output for a whole input, and how the run ends.
abbrev pub IsRulesExplained : List ℕ → List ℕ → Done → Type 0
IsRulesExplained = IsAnswerBy ExplainsRules

-- As `ExplainsRules`, but the code of any rules may be reported as too long. Every text has such an answer, so if a device fails, what was
-- written is the beginning of one.
abbrev pub MayExplain : List ℕ → List ℕ → Done → Type 0
MayExplain text answer done =
    ExplainsRules text answer done
    ⊎ (((placed_rules : PlacedRulesRead) × (placed_rules_in text ≡ Ok placed_rules)) × (answer ≡ fault_answer text (placed_fault 0 0 TooLong)) × (done ≡ Ended))

-- The output for a whole input with such an answer.
abbrev pub MayBeRulesExplained : List ℕ → List ℕ → Done → Type 0
MayBeRulesExplained = IsAnswerBy MayExplain
