-- The fault line of a text.
use Rattle.std.proofs.Common.{◌≡◌, ◌≢◌, ◌∙◌, ℕ, inl, inr, List, ◌++◌, Result, Ok, Err, refl, sym, ap, subst, append_assoc}
use Rattle.std.specs.Result.{IfOk}
use Rattle.rules_text.specs.TextFaults.{IsCompilingFault}
use Rattle.rules_text.specs.declared.fault.RuleFault.{RuleFault}
use Rattle.rules_text.specs.declared.fault.RuleFaultKind.TheVariants.{NoMemory}
use Rattle.text_io.specs.Devices.{Adds}
use Rattle.text_io.specs.declared.ending.Done.{Done}
use Rattle.text_io.specs.declared.ending.Done.TheVariants.{Ended}
use Rattle.cmd_rules.specs.RuleFaults.{rule_fault}
use Rattle.cmd_rules.specs.RulesAnswers.{PrintsFault}

-- It answers the text, if the fault isn't that an allocation failed.
fault_printed : (text : List ℕ) (fault : RuleFault) → fault.kind ≢ NoMemory → IsCompilingFault text fault → PrintsFault text (rule_fault fault) Ended
fault_printed text fault other (inl (inl none)) = absurd (other (ap (λ (f : RuleFault). f.kind) none))
fault_printed text fault other (inl (inr read)) = inl (fault, read, refl, refl)
fault_printed text fault other (inr long) = inr (long.1, (ap rule_fault long.0, refl))

-- So it is where it ends the run.
pub ended_by_fault : {E : Type 0} (text : List ℕ) (fault : RuleFault) (old new : List ℕ) (result : Result Done E) → IsCompilingFault text fault
    → IfOk result (λ done. fault.kind ≢ NoMemory) → IfOk result (λ done. (new ≡ old ++ rule_fault fault) × (done ≡ Ended))
    → IfOk result (λ done. Adds (λ answer. PrintsFault text answer done) old new)
ended_by_fault text fault old new (Ok done) is other ended =
    (rule_fault fault, ended.0, subst (λ (finish : Done). PrintsFault text (rule_fault fault) finish) (sym ended.1) (fault_printed text fault other is))
ended_by_fault text fault old new (Err failed) is other ended = ended

-- Three parts that are appended one after another.

pub three_parts : (before one two three after_one after_two after_three : List ℕ)
    → after_one ≡ before ++ one → after_two ≡ after_one ++ two → after_three ≡ after_two ++ three
    → after_three ≡ before ++ (one ++ (two ++ three))
three_parts before one two three after_one after_two after_three e1 e2 e3 =
    e3 ∙ ap (λ x. x ++ three) (e2 ∙ ap (λ x. x ++ two) e1)
    ∙ append_assoc (before ++ one) two three
    ∙ append_assoc before one (two ++ three)
