-- The promise of a call that answers a whole input on an output, and reports of the run beside it.
use Rattle.std.specs.Prelude.{◌≡◌, ℕ, List, ◌++◌, Result, IfOk}
use Rattle.text_io.specs.Devices.{Adds}
use Rattle.text_io.specs.Serving.{IsServed}
use Rattle.text_io.specs.declared.device.Input.{Ghosts as InputView}
use Rattle.text_io.specs.declared.device.Output.{Ghosts as OutputView}
use Rattle.text_io.specs.declared.ending.Done.{Done}
use Rattle.text_io.specs.declared.ending.RunFault.{RunFault}

-- A relation between octets, a text for them, a report, and how the run ends.
abbrev pub ReportedTexts : Type 1
ReportedTexts = List ℕ → List ℕ → List ℕ → Done → Type 0

-- The text of octets, with some report.
abbrev pub HasReportedText : ReportedTexts → List ℕ → List ℕ → Done → Type 0
HasReportedText IsText octets text done = (report : List ℕ) × IsText octets text report done

-- If the result is Ok, the output grew by a text of the whole input, and the report by what is reported of it.
abbrev pub ReportsText : ReportedTexts → {Source : Type 0} → InputView Source → Source → {Sink : Type 0} → OutputView Sink → Sink → Sink → List ℕ → List ℕ
    → Result Done RunFault → Type 0
ReportsText IsText I source O sink sink' said said' result = I.is_known → O.is_known → IfOk result (λ done. (report : List ℕ) × (said' ≡ said ++ report)
    × Adds (λ text. IsText (I.rest source) text report done) (O.held sink) (O.held sink'))

-- The call answered the input by its text, and reported of it, or failed after a prefix of the text. `said` is the
-- report before the call, and `said'` after it.
pub record IsServedWithReport (IsText : ReportedTexts)
    {Source : Type 0} (I : InputView Source) (source source' : Source)
    {Sink : Type 0} (O : OutputView Sink) (sink sink' : Sink)
    (said said' : List ℕ) (result : Result Done RunFault) : Type 0 where
  pub served : IsServed (HasReportedText IsText) I source source' O sink sink' result
  pub reported : ReportsText IsText I source O sink sink' said said' result
