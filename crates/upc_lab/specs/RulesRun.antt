-- The effect of `upc-lab rules`, which writes the program to the output, and then the hints about the rules to the error output.
use Rattle.std.specs.Prelude.{◌≡◌, ℕ, List, Result, Ok, Err, IfOk}
use Rattle.text_io.specs.Devices.{Adds}
use Rattle.text_io.specs.Serving.{IsServed}
use Rattle.text_io.specs.declared.device.Input.{Ghosts as InputView}
use Rattle.text_io.specs.declared.device.Output.{Ghosts as OutputView}
use Rattle.text_io.specs.declared.ending.Done.{Done}
use Rattle.text_io.specs.declared.ending.RunFault.{RunFault}
use Rattle.text_command_line.specs.ExitStatus.{status_of}
use Rattle.text_command_line.specs.Messages.{WritesMessage}
use Rattle.cmd_explain_rules.specs.HintComments.{MayBeHintComments}
use Rattle.cmd_rules.specs.RulesText.{IsRulesText, MayBeRulesText}

-- After a run the comments about these octets were written to the error output. After a failed one only the message of its fault was.
abbrev pub ReportsHints : {Errors : Type 0} → (RunFault → List ℕ) → List ℕ → OutputView Errors → Errors → Errors → Result Done RunFault → Type 0
ReportsHints message octets E errors errors' (Ok done) = (comments : List ℕ) × MayBeHintComments octets comments × WritesMessage E errors errors' comments
ReportsHints message octets E errors errors' (Err fault) = WritesMessage E errors errors' (message fault)

-- The effect of a run, and its exit status.
pub record CarriesRules {Source Sink Errors : Type 0} (message : RunFault → List ℕ) (I : InputView Source) (input input' : Source)
    (O : OutputView Sink) (output output' : Sink) (E : OutputView Errors) (errors errors' : Errors) (status : ℕ) : Type 0 where
  pub ended : Result Done RunFault
  pub status_is : status ≡ status_of ended
  pub served : IsServed MayBeRulesText I input input' O output output' ended
  pub printed : IfOk ended (λ done. Adds (λ answer. IsRulesText (I.rest input) answer done) (O.held output) (O.held output'))
  pub reports : ReportsHints message (I.rest input) E errors errors' ended
