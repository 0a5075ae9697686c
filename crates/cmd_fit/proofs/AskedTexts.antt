-- Each file has one text of `fit`, with or without rules.
use Rattle.std.proofs.Common.{◌≡◌, ℕ, List, Option, Result, Ok, Err, refl, sym, ◌∙◌}
use Rattle.captures_text.proofs.Public.{fixed_total, one_fixed_text, some_capture_text}
use Rattle.captures_text.specs.CellFilter.{filter_start}
use Rattle.rules_text.specs.RulesRead.{RulesRead}
use Rattle.text_io.specs.declared.ending.Done.{Done}
use Rattle.text_io.specs.declared.ending.Done.TheVariants.{Ended}
use Rattle.cmd_fit.specs.FitAsked.{IsFitAsked, IsFitBy, scope_of}
use Rattle.cmd_fit.specs.FitLaws.{CapturesHaveOneFitText}
use Rattle.cmd_fit.specs.FitText.{fit_closes, fit_rules, fit_start, fit_steps}
use Rattle.cmd_fit.specs.RulesGiven.{rules_given}
use Rattle.captures_text.specs.declared.fit_choice.FitChoice.{FitChoice}

some_by : (choice : FitChoice) (read : Result (Option RulesRead) (List ℕ)) (octets : List ℕ) → (text : List ℕ) × (done : Done) × IsFitBy choice read octets text done
some_by choice (Ok rules) octets =
    some_capture_text fit_rules (fixed_total fit_steps fit_closes) (filter_start choice.tick.nanoseconds choice.link choice.timing)
    (fit_start (scope_of choice rules)) octets tt
some_by choice (Err answer) octets = (answer, Ended, (refl, refl))

pub some_asked : (choice : FitChoice) (rules : Option (List ℕ)) (octets : List ℕ) → (text : List ℕ) × (done : Done) × IsFitAsked choice rules octets text done
some_asked choice rules octets = some_by choice (rules_given rules) octets

one_by : (choice : FitChoice) (read : Result (Option RulesRead) (List ℕ)) (octets one other : List ℕ) (ends other_ends : Done)
    → IsFitBy choice read octets one ends → IsFitBy choice read octets other other_ends → (one ≡ other) × (ends ≡ other_ends)
one_by choice (Ok rules) octets one other ends other_ends first second =
    one_fixed_text fit_steps fit_closes (filter_start choice.tick.nanoseconds choice.link choice.timing) (fit_start (scope_of choice rules)) octets one other ends other_ends
    first second
one_by choice (Err answer) octets one other ends other_ends first second = (first.0 ∙ sym second.0, first.1 ∙ sym second.1)

pub one_text : CapturesHaveOneFitText
one_text choice rules octets = (some_asked choice rules octets, one_by choice (rules_given rules) octets)
