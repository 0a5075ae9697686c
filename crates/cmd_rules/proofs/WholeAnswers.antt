-- Every input has an answer.
use Rattle.std.proofs.Common.{ℕ, ◌⊎◌, inl, inr, List, Option, Some, None, refl}
use Rattle.text_io.proofs.Public.{some-gathered}
use Rattle.text_io.specs.Gathered.{AnswersGathered, gathered}
use Rattle.text_io.specs.declared.ending.Done.{Done}
use Rattle.cmd_rules.specs.RulesAnswers.{AnswersBy, AreRulesOf, MayBeAnswerBy, PrintsLongCode, most_rules_octets}
use Rattle.cmd_rules.specs.declared.whole_text.Printed.{Printed}
use Rattle.cmd_rules.specs.inner.PrintedAs.{FaultsAnswered, MayPrint, may-answer, prints_as, some-printed}
use Rattle.text_words.specs.FaultLines.{too_long}

-- An answer, or that the code of rules is too long.
abbrev MayAnswer : (List ℕ → List ℕ → Done → Type 0) → Option (List ℕ) → List ℕ → Done → Type 0
MayAnswer prints found answer done = AnswersBy prints found answer done ⊎ (AreRulesOf found × PrintsLongCode answer done)

found-may : (prints : List ℕ → List ℕ → Done → Type 0) (found : Option (List ℕ)) (answer : List ℕ) (done : Done)
    → AnswersGathered too_long (MayPrint prints) found answer done → MayAnswer prints found answer done
found-may prints None answer done is = inl is
found-may prints (Some text) answer done (inl is) = inl is
found-may prints (Some text) answer done (inr long) = inr ((text, long.0.0, refl, long.0.1), long.1)

pub whole-may : (printed : Printed) (octets answer : List ℕ) (done : Done)
    → AnswersGathered too_long (MayPrint (prints_as printed)) (gathered most_rules_octets octets) answer done → MayBeAnswerBy (prints_as printed) octets answer done
whole-may printed octets answer done is = found-may (prints_as printed) (gathered most_rules_octets octets) answer done is

some-found : (prints : List ℕ → List ℕ → Done → Type 0) (found : Option (List ℕ))
    → ((text : List ℕ) → (answer : List ℕ) × (done : Done) × MayPrint prints text answer done) → (answer : List ℕ) × (done : Done) × MayAnswer prints found answer done
some-found prints found total =
    let some = some-gathered too_long (MayPrint prints) total found in
    (some.0, some.1, found-may prints found some.0 some.1 some.2)

-- A text that was found, or is over the limit, has an answer.
pub found-answered : (prints : List ℕ → List ℕ → Done → Type 0) (found : Option (List ℕ)) → FaultsAnswered prints
    → (answer : List ℕ) × (done : Done) × MayAnswer prints found answer done
found-answered prints found faults = some-found prints found (some-printed prints faults)

pub some-answer : (printed : Printed) (octets : List ℕ) → (answer : List ℕ) × (done : Done) × MayBeAnswerBy (prints_as printed) octets answer done
some-answer printed octets = some-found (prints_as printed) (gathered most_rules_octets octets) (may-answer printed)
