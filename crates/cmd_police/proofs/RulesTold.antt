-- The lines about a fault of rules.
use Rattle.std.proofs.Common.{◌≡◌, ◌≢◌, inl, inr, ℕ, List, Option, Some, Result, Ok, Err, ap, refl, subst, sym}
use Rattle.rules_text.specs.RulesRead.{RulesRead}
use Rattle.rules_text.specs.TextFaults.{IsCompilingFault}
use Rattle.rules_text.specs.TextOfRules.{PlacedRulesRead, placed_rules_in, placed_fault, read_then, rules_in}
use Rattle.rules_text.specs.declared.fault.RuleFault.{RuleFault}
use Rattle.rules_text.specs.declared.fault.RuleFaultKind.TheVariants.{NoMemory}
use Rattle.text_io.specs.Gathered.{gathered}
use Rattle.cmd_explain_rules.specs.RuleReasons.{rule_explanation}
use Rattle.cmd_explain_rules.specs.RulesExplained.{IsFaultOfText}
use Rattle.cmd_rules.specs.RuleFaults.{rule_fault}
use Rattle.cmd_rules.specs.RulesAnswers.{most_rules_octets}
use Rattle.cmd_police.specs.RulesFiles.{IsFaultOfRules, TellsFault}

numbered_fault : (read : Result PlacedRulesRead RuleFault) (fault : RuleFault)
    → read_then read (λ fault. fault) (λ numbered. Ok numbered.rules) ≡ Err fault → read ≡ Err fault
numbered_fault (Ok numbered) fault is = let no : Ok numbered.rules ≡ Err fault = is in absurd cc
numbered_fault (Err other) fault is =
    let same : ◌≡◌ {A = Result RulesRead RuleFault} (Err other) (Err fault) = is in
    let equal : other ≡ fault = cc in
    ap (λ (it : RuleFault). Err it) equal

-- A fault that compiling a text meets is one of the text, unless an allocation failed.
pub fault_of_compiling : (text : List ℕ) (fault : RuleFault) → fault ≢ placed_fault 0 0 NoMemory → IsCompilingFault text fault → IsFaultOfText text fault
unfolding rules_in
fault_of_compiling text fault other (inl (inl none)) = absurd (other none)
fault_of_compiling text fault other (inl (inr read)) = inl (numbered_fault (placed_rules_in text) fault read)
fault_of_compiling text fault other (inr long) = inr long

-- The lines about a fault of a text within the limit.
pub told : (text line reason : List ℕ) (fault : RuleFault) → gathered most_rules_octets text ≡ Some text → IsFaultOfText text fault
    → line ≡ rule_fault fault → reason ≡ rule_explanation text fault → IsFaultOfRules text line reason
told text line reason fault found is said why =
    subst (λ (found : Option (List ℕ)). TellsFault IsFaultOfText found line reason) (sym found) (fault, is, said, why)
