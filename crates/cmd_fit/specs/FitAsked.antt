-- The output of `fit`, as it is asked for.
use Rattle.std.specs.Prelude.{◌≡◌, ℕ, List, Option, Result, Ok, Err}
use Rattle.rules_text.specs.RulesRead.{RulesRead}
use Rattle.text_io.specs.declared.ending.Done.{Done}
use Rattle.text_io.specs.declared.ending.Done.TheVariants.{Ended}
use Rattle.cmd_fit.specs.FitText.{FitScope, IsFitText}
use Rattle.cmd_fit.specs.RulesGiven.{rules_given}
use Rattle.captures_text.specs.declared.fit_choice.FitChoice.{FitChoice}

-- What a run with these rules, if any, is about.
abbrev pub scope_of : FitChoice → Option RulesRead → FitScope
scope_of choice rules = record { increment = choice.increment; side = choice.side; rules = rules; clp = choice.clp }

-- The output for a whole file by the rules that were read, if any are given, or the answer to their fault; and how the run ends.
abbrev pub IsFitBy : FitChoice → Result (Option RulesRead) (List ℕ) → List ℕ → List ℕ → Done → Type 0
IsFitBy choice (Ok rules) octets text done = IsFitText (scope_of choice rules) choice.tick.nanoseconds choice.link choice.timing octets text done
IsFitBy choice (Err answer) octets text done = (text ≡ answer) × (done ≡ Ended)

-- The output for a whole file, with the octets of a file of rules, if one is given; and how the run ends.
abbrev pub IsFitAsked : FitChoice → Option (List ℕ) → List ℕ → List ℕ → Done → Type 0
IsFitAsked choice rules = IsFitBy choice (rules_given rules)
