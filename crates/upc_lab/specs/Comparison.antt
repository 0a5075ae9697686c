-- The effect of `upc-lab differ` and `upc-lab unused`, which end in one more way than the other subcommands: that nothing is decided.
use Rattle.std.specs.Prelude.{◌≡◌, ℕ, List, Result, Ok, Err, IfOk}
use Rattle.text_io.specs.Devices.{Adds}
use Rattle.text_io.specs.Serving.{IsServed}
use Rattle.text_io.specs.declared.device.Input.{Ghosts as InputView}
use Rattle.text_io.specs.declared.device.Output.{Ghosts as OutputView}
use Rattle.text_io.specs.declared.ending.RunFault.{RunFault}
use Rattle.text_command_line.specs.Messages.{Reports}
use Rattle.cmd_differ.specs.Findings.{IsAnswerWith, ended_by}
use Rattle.cmd_differ.specs.declared.finding.Finding.{Finding}
use Rattle.cmd_differ.specs.declared.finding.Finding.TheVariants.{Nothing, Something, Faulty, Undecided}

-- The exit status, as that of `diff`: 0 if nothing was found, 1 if something was, or if a text has a fault. It is 3 if
-- nothing was decided, or the call failed.
abbrev pub finding_status : Result Finding RunFault → ℕ
finding_status (Ok Nothing) = 0
finding_status (Ok Something) = 1
finding_status (Ok Faulty) = 1
finding_status (Ok Undecided) = 3
finding_status (Err fault) = 3

-- The effect of a subcommand with a finding, whose texts these are, and its exit status.
pub record CarriesFinding {Source Sink Errors : Type 0} (message : RunFault → List ℕ) (text : List ℕ → List ℕ → Finding → Type 0) (I : InputView Source) (input input' : Source)
    (O : OutputView Sink) (output output' : Sink) (E : OutputView Errors) (errors errors' : Errors) (status : ℕ) : Type 0 where
  pub ended : Result Finding RunFault
  pub status_is : status ≡ finding_status ended
  pub served : IsServed (IsAnswerWith text) I input input' O output output' (ended_by ended)
  pub printed : IfOk ended (λ finding. Adds (λ answer. text (I.rest input) answer finding) (O.held output) (O.held output'))
  pub reports : Reports message E errors errors' (ended_by ended)
