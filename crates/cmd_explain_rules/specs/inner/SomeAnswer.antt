-- Every text has an answer. The law is in `specs/` because the `Answerer` implementation cites it.
use Rattle.std.proofs.Common.{◌≡◌, inl, inr, ℕ, List, Result, Ok, Err, refl}
use Rattle.rules_text.specs.TextOfRules.{PlacedRulesRead, placed_rules_in, placed_fault}
use Rattle.rules_text.specs.declared.fault.RuleFault.{RuleFault}
use Rattle.rules_text.specs.declared.fault.RuleFaultKind.TheVariants.{TooLong}
use Rattle.text_io.specs.declared.ending.Done.{Done}
use Rattle.text_io.specs.declared.ending.Done.TheVariants.{Ended}
use Rattle.cmd_explain_rules.specs.RulesExplained.{MayExplain, fault_answer}

ended-read : (text : List ℕ) (read : Result PlacedRulesRead RuleFault) → placed_rules_in text ≡ read → (answer : List ℕ) × MayExplain text answer Ended
ended-read text (Ok placed_rules) same = (fault_answer text (placed_fault 0 0 TooLong), inr ((placed_rules, same), refl, refl))
ended-read text (Err fault) same = (fault_answer text fault, inl (inr (fault, inl same, refl, refl)))

pub ended-answer : (text : List ℕ) → (answer : List ℕ) × MayExplain text answer Ended
ended-answer text = ended-read text (placed_rules_in text) refl

pub may-explain : (text : List ℕ) → (answer : List ℕ) × (done : Done) × MayExplain text answer done
may-explain text = let ended = ended-answer text in (ended.0, Ended, ended.1)
