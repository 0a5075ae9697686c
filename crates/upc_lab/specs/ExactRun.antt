-- The effect of the subcommands that compile rules before they answer: `asm`, `why`, `police` and `explain`.
use Rattle.std.specs.Prelude.{◌≡◌, ℕ, List, Result, IfOk}
use Rattle.text_io.specs.Devices.{Adds}
use Rattle.text_io.specs.Serving.{IsServed}
use Rattle.text_io.specs.declared.device.Input.{Ghosts as InputView}
use Rattle.text_io.specs.declared.device.Output.{Ghosts as OutputView}
use Rattle.text_io.specs.declared.ending.Done.{Done}
use Rattle.text_io.specs.declared.ending.RunFault.{RunFault}
use Rattle.text_command_line.specs.ExitStatus.{status_of}
use Rattle.text_command_line.specs.Messages.{Reports}

-- The effect of a run, and its exit status. After a whole run the output is a text of the one kind. After a failed one it is a prefix of a
-- text of the other kind, which may report the code of any rules as too long.
pub record CarriesExact {Source Sink Errors : Type 0} (message : RunFault → List ℕ) (IsText MayBeText : List ℕ → List ℕ → Done → Type 0) (I : InputView Source)
    (input input' : Source) (O : OutputView Sink) (output output' : Sink) (E : OutputView Errors) (errors errors' : Errors) (status : ℕ) : Type 0 where
  pub ended : Result Done RunFault
  pub status_is : status ≡ status_of ended
  pub served : IsServed MayBeText I input input' O output output' ended
  pub printed : IfOk ended (λ done. Adds (λ answer. IsText (I.rest input) answer done) (O.held output) (O.held output'))
  pub reports : Reports message E errors errors' ended
