-- Every input has an answer that ends early.
use Rattle.std.proofs.Common.{ℕ, List, Option, Some, None, refl}
use Rattle.cmd_rules.specs.RulesAnswers.{AnswersBy, most_rules_octets}
use Rattle.text_io.specs.Gathered.{gathered}
use Rattle.text_io.specs.declared.ending.Done.TheVariants.{Ended}
use Rattle.text_words.specs.FaultLines.{too_long}
use Rattle.cmd_explain_rules.specs.RulesExplained.{MayBeRulesExplained, MayExplain}
use Rattle.cmd_explain_rules.specs.inner.SomeAnswer.{ended-answer}

ended-found : (found : Option (List ℕ)) → (answer : List ℕ) × AnswersBy MayExplain found answer Ended
ended-found None = (too_long, (refl, refl))
ended-found (Some text) = ended-answer text

-- Every input has an answer that ends early, since the code of its rules may be too long.
pub ended-rules_explained : (octets : List ℕ) → (answer : List ℕ) × MayBeRulesExplained octets answer Ended
ended-rules_explained octets = ended-found (gathered most_rules_octets octets)
