-- The effect of `upc-lab forward`, which writes records to the output, and what it reports of the run to the error output.
use Rattle.std.specs.Prelude.{◌≡◌, ℕ, List, Result, Ok, Err}
use Rattle.text_io.specs.Devices.{Adds}
use Rattle.text_io.specs.Serving.{IsServed}
use Rattle.text_io.specs.declared.device.Input.{Ghosts as InputView}
use Rattle.text_io.specs.declared.device.Output.{Ghosts as OutputView}
use Rattle.text_io.specs.declared.ending.Done.{Done}
use Rattle.text_io.specs.declared.ending.RunFault.{RunFault}
use Rattle.text_command_line.specs.ExitStatus.{status_of}
use Rattle.text_command_line.specs.Messages.{WritesMessage}
use Rattle.cmd_forward.specs.Reporting.{HasReportedText, ReportedTexts}

-- After a run the output grew by a text of the whole input, and what is reported with it was written to the error
-- output. After a failed run only the message of its fault was.
abbrev pub ReportsRun : {Source Sink Errors : Type 0} → (RunFault → List ℕ) → ReportedTexts → InputView Source → Source
    → OutputView Sink → Sink → Sink → OutputView Errors → Errors → Errors → Result Done RunFault → Type 0
ReportsRun message IsText I input O output output' E errors errors' (Ok done) =
    (report : List ℕ) × Adds (λ text. IsText (I.rest input) text report done) (O.held output) (O.held output') × WritesMessage E errors errors' report
ReportsRun message IsText I input O output output' E errors errors' (Err fault) = WritesMessage E errors errors' (message fault)

-- The effect of a run, and its exit status. After a run `IsText` holds of output and report. After a failed one the output is a prefix
-- of a text by `MayBeText`.
pub record CarriesForward {Source Sink Errors : Type 0} (message : RunFault → List ℕ) (IsText MayBeText : ReportedTexts) (I : InputView Source)
    (input input' : Source) (O : OutputView Sink) (output output' : Sink) (E : OutputView Errors) (errors errors' : Errors) (status : ℕ) : Type 0 where
  pub ended : Result Done RunFault
  pub status_is : status ≡ status_of ended
  pub served : IsServed (HasReportedText MayBeText) I input input' O output output' ended
  pub reports : ReportsRun message IsText I input O output output' E errors errors' ended
