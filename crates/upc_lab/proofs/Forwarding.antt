-- What `forward` reports of a run, or the message for a failed one.
use Rattle.std.proofs.Common.{◌≡◌, ◌∙◌, ◌++◌, ℕ, List, [], Result, Ok, Err, IfErr, IfOk, ap, subst}
use Rattle.std.specs.Result.{OnOk}
use Rattle.text_io.specs.Devices.{Adds}
use Rattle.text_io.specs.declared.device.Input.{Ghosts as InputView}
use Rattle.text_io.specs.declared.device.Output.{Ghosts as OutputView}
use Rattle.text_io.specs.declared.ending.Done.{Done}
use Rattle.text_io.specs.declared.ending.RunFault.{RunFault}
use Rattle.text_command_line.specs.Messages.{WritesMessage}
use Rattle.cmd_forward.specs.Reporting.{ReportedTexts}
use Rattle.upc_lab.specs.ForwardRun.{ReportsRun}

pub reports_run : {Source Sink Errors : Type 0} (message : RunFault → List ℕ) (IsText : ReportedTexts) (I : InputView Source) (input : Source)
    (O : OutputView Sink) (output output' : Sink) (E : OutputView Errors) (errors errors' : Errors) (ended : Result Done RunFault) (said said' : List ℕ) → said ≡ []
    → IfOk ended (λ done. (report : List ℕ) × (said' ≡ said ++ report) × Adds (λ text. IsText (I.rest input) text report done) (O.held output) (O.held output'))
    → OnOk ended (WritesMessage E errors errors' said') → IfErr ended (λ fault. WritesMessage E errors errors' (message fault))
    → ReportsRun message IsText I input O output output' E errors errors' ended
reports_run message IsText I input O output output' E errors errors' (Ok done) said said' none reported ok failed =
    (reported.0, reported.2, subst (λ (text : List ℕ). WritesMessage E errors errors' text) (reported.1 ∙ ap (λ (before : List ℕ). before ++ reported.0) none) ok)
reports_run message IsText I input O output output' E errors errors' (Err fault) said said' none reported ok failed = failed
