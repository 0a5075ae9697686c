-- The two things that the program of a text of rules is printed as. The law is in `specs/` because the `Answerer` implementation
-- cites it.
use Rattle.std.proofs.Common.{◌≡◌, ◌⊎◌, inl, inr, ℕ, List, Result, Ok, Err, refl}
use Rattle.rules_text.specs.RulesRead.{RulesRead}
use Rattle.rules_text.specs.TextOfRules.{placed_fault, rules_in}
use Rattle.rules_text.specs.declared.fault.RuleFault.{RuleFault}
use Rattle.rules_text.specs.declared.fault.RuleFaultKind.TheVariants.{TooLong}
use Rattle.text_io.specs.declared.ending.Done.{Done}
use Rattle.text_io.specs.declared.ending.Done.TheVariants.{Ended}
use Rattle.cmd_rules.specs.AsmText.{PrintsAsm}
use Rattle.cmd_rules.specs.RuleFaults.{rule_fault}
use Rattle.cmd_rules.specs.RulesAnswers.{PrintsLongCode}
use Rattle.cmd_rules.specs.RulesText.{PrintsRules}
use Rattle.cmd_rules.specs.declared.whole_text.Printed.{Printed}
use Rattle.cmd_rules.specs.declared.whole_text.Printed.TheVariants.{Octets, Source}

-- The answer to a text if its program is printed as this.
abbrev pub prints_as : Printed → List ℕ → List ℕ → Done → Type 0
prints_as Octets = PrintsRules
prints_as Source = PrintsAsm

-- The text answers by this relation, or says that the code of its rules is too long.
abbrev pub MayPrint : (List ℕ → List ℕ → Done → Type 0) → List ℕ → List ℕ → Done → Type 0
MayPrint prints text answer done = prints text answer done ⊎ (((rules : RulesRead) × (rules_in text ≡ Ok rules)) × PrintsLongCode answer done)

-- A text with a fault is answered by it.
abbrev pub FaultsAnswered : (List ℕ → List ℕ → Done → Type 0) → Type 0
FaultsAnswered prints = (text : List ℕ) (fault : RuleFault) → rules_in text ≡ Err fault → prints text (rule_fault fault) Ended

-- Then every text has such an answer.
pub some-printed : (prints : List ℕ → List ℕ → Done → Type 0) → FaultsAnswered prints
    → (text : List ℕ) → (answer : List ℕ) × (done : Done) × MayPrint prints text answer done
some-printed prints faults text = read-printed (rules_in text) refl
  where
    read-printed : (read : Result RulesRead RuleFault) → rules_in text ≡ read → (answer : List ℕ) × (done : Done) × MayPrint prints text answer done
    read-printed (Ok rules) same = (rule_fault (placed_fault 0 0 TooLong), Ended, inr ((rules, same), (refl, refl)))
    read-printed (Err fault) same = (rule_fault fault, Ended, inl (faults text fault same))

-- Whichever way programs are printed, a text with a fault is answered by the fault.
faulty : (printed : Printed) → FaultsAnswered (prints_as printed)
faulty Octets text fault same = inr (inl (fault, same, refl, refl))
faulty Source text fault same = inr (inl (fault, same, refl, refl))

pub may-answer : (printed : Printed) (text : List ℕ) → (answer : List ℕ) × (done : Done) × MayPrint (prints_as printed) text answer done
may-answer printed = some-printed (prints_as printed) (faulty printed)
