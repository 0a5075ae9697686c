-- Answers to a whole input that is a text of rules, whatever its program is printed as.
use Rattle.std.specs.Prelude.{◌≡◌, ◌⊎◌, ℕ, List, Option, Some, Ok, Err}
use Rattle.rules_text.specs.RulesRead.{RulesRead}
use Rattle.rules_text.specs.TextFaults.{IsTooLong}
use Rattle.rules_text.specs.TextOfRules.{placed_fault, rules_in}
use Rattle.rules_text.specs.declared.fault.RuleFault.{RuleFault}
use Rattle.rules_text.specs.declared.fault.RuleFaultKind.TheVariants.{TooLong}
use Rattle.text_io.specs.Gathered.{AnswersGathered, gathered}
use Rattle.text_io.specs.declared.ending.Done.{Done}
use Rattle.text_io.specs.declared.ending.Done.TheVariants.{Ended}
use Rattle.cmd_rules.specs.RuleFaults.{rule_fault}
use Rattle.text_words.specs.FaultLines.{too_long}

-- The maximum number of octets of a text of rules.
abbrev pub most_rules_octets : ℕ
most_rules_octets = 1048576

-- The answer says that the code of the rules has too many instructions.
abbrev pub PrintsLongCode : List ℕ → Done → Type 0
PrintsLongCode answer done = (answer ≡ rule_fault (placed_fault 0 0 TooLong)) × (done ≡ Ended)

-- The answer is the fault that reading the text meets, or that the code of its rules is too long.
abbrev pub PrintsFault : List ℕ → List ℕ → Done → Type 0
PrintsFault text answer done =
    ((fault : RuleFault) × (rules_in text ≡ Err fault) × (answer ≡ rule_fault fault) × (done ≡ Ended))
    ⊎ (IsTooLong text × PrintsLongCode answer done)

-- The answer to a text by this relation of text, answer and end of the run, or `too_long` if the input is over the limit.
abbrev pub AnswersBy : (List ℕ → List ℕ → Done → Type 0) → Option (List ℕ) → List ℕ → Done → Type 0
AnswersBy = AnswersGathered too_long

-- The output for a whole input, and how the run ends.
abbrev pub IsAnswerBy : (List ℕ → List ℕ → Done → Type 0) → List ℕ → List ℕ → Done → Type 0
IsAnswerBy prints octets answer done = AnswersBy prints (gathered most_rules_octets octets) answer done

-- The text was found, and has rules.
abbrev pub AreRulesOf : Option (List ℕ) → Type 0
AreRulesOf found = (text : List ℕ) × (rules : RulesRead) × (found ≡ Some text) × (rules_in text ≡ Ok rules)

-- The input is a text that has rules.
abbrev pub AreRules : List ℕ → Type 0
AreRules octets = AreRulesOf (gathered most_rules_octets octets)

-- As `IsAnswerBy`, but the code of any rules may be reported as too long. Every input has such an output, so if a device fails, what was
-- written is the beginning of one.
abbrev pub MayBeAnswerBy : (List ℕ → List ℕ → Done → Type 0) → List ℕ → List ℕ → Done → Type 0
MayBeAnswerBy prints octets answer done = IsAnswerBy prints octets answer done ⊎ (AreRules octets × PrintsLongCode answer done)
