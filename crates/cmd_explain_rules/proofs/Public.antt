-- Lemmas for other crates.
use Rattle.std.proofs.Common.{ℕ, List}
use Rattle.text_io.specs.declared.ending.Done.TheVariants.{Ended}
use Rattle.cmd_explain_rules.specs.RulesExplained.{MayBeRulesExplained}
use Rattle.cmd_explain_rules.proofs.RulesAnswered as rules_answered

-- Every input has an answer that ends early, since the code of its rules may be too long.
pub ended-rules_explained : (octets : List ℕ) → (answer : List ℕ) × MayBeRulesExplained octets answer Ended
ended-rules_explained = rules_answered.ended-rules_explained
