-- The effect of `upc-lab explain --setup`, which explains a setup script, and reads no input.
use Rattle.std.specs.Prelude.{◌≡◌, ℕ, List, Result, IfOk, OnErr}
use Rattle.text_io.specs.Devices.{Adds}
use Rattle.text_io.specs.declared.device.Input.{Ghosts as InputView}
use Rattle.text_io.specs.declared.device.Output.{Ghosts as OutputView}
use Rattle.text_io.specs.declared.ending.Done.{Done}
use Rattle.text_io.specs.declared.ending.RunFault.{RunFault}
use Rattle.text_command_line.specs.ExitStatus.{status_of}
use Rattle.text_command_line.specs.Messages.{Reports}
use Rattle.cmd_police.specs.ExplainedSetups.{IsExplainedInPart, IsSetupExplained}

-- The effect of a run for a setup script and the texts of its files of rules, and its exit status: 0 without a fault, and 1 with one.
pub record CarriesExplained {Source Sink Errors : Type 0} (message : RunFault → List ℕ) (setup : List ℕ) (texts : List (List ℕ)) (I : InputView Source)
    (input input' : Source) (O : OutputView Sink) (output output' : Sink) (E : OutputView Errors) (errors errors' : Errors) (status : ℕ) : Type 0 where
  pub ended : Result Done RunFault
  pub status_is : status ≡ status_of ended
  pub unread : I.rest input' ≡ I.rest input
  pub explained : IfOk ended (λ done. Adds (λ text. IsSetupExplained setup texts text done) (O.held output) (O.held output'))
  pub front : OnErr ended (IsExplainedInPart setup texts (O.held output) (O.held output'))
  pub reports : Reports message E errors errors' ended
