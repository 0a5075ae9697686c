-- What is forwarded for a setup script, and what is reported.
use Rattle.std.proofs.Common.{◌≡◌, ◌++◌, inl, inr, ℕ, false, List, [], Option, Some, None, Result, Ok, Err, IfOk, refl, sym, subst, append-nil}
use Rattle.std.proofs.lemmas.Result.{IfOk-weaker}
use Rattle.std.specs.Global.{Vec}
use Rattle.std.specs.Result.{OnErr, OnOk}
use Rattle.captures.specs.declared.link.Link.{Link}
use Rattle.cmd_police.proofs.Existence.{FaultOrPrepared, fault_or_prepared, faulty_may}
use Rattle.cmd_setups.proofs.SetUpLemmas.{FaultOrCard, fault_or_card}
use Rattle.cmd_police.specs.PolicedCards.{OpensSetup, policed_start}
use Rattle.cmd_setups.specs.TimedLines.{line_times, waiting_at}
use Rattle.cmd_police.specs.declared.policed_card.OpenedCard.TheVariants.{Faulty}
use Rattle.text_io.proofs.Public.{served-wider}
use Rattle.text_io.specs.Lines.{lines_of}
use Rattle.text_io.specs.declared.device.Input.{Ghosts as InputView}
use Rattle.text_io.specs.declared.device.Output.{Ghosts as OutputView}
use Rattle.text_io.specs.declared.ending.Done.{Done}
use Rattle.text_io.specs.declared.ending.Done.TheVariants.{Ended, Whole}
use Rattle.text_io.specs.declared.ending.RunFault.{RunFault}
use Rattle.text_io.specs.declared.ending.RunFault.TheVariants.{NoMemory}
use Rattle.cmd_forward.specs.ForwardText.{IsForwarded, IsSetupForwarded, MayBeSetupForwarded, forward_rules}
use Rattle.cmd_forward.specs.Forwarding.{forward_start}
use Rattle.cmd_forward.specs.Reporting.{HasReportedText, IsServedWithReport, ReportedTexts, ReportsText}
use Rattle.cmd_forward.specs.declared.others.Others.{Others}
use Rattle.cmd_forward.specs.inner.ForwardTotal.{forward-total}
use Rattle.cmd_forward.proofs.SomeForwarding.{capture_some}
use Rattle.cmd_forward.proofs.WholeForwarding.{served_nothing, served_report}

forwards_some : (others : Others) (tick : ℕ) (link : Option Link) (script : List ℕ) (times : List (Option ℕ)) (octets : List ℕ) → FaultOrCard script times
    → (text : List ℕ) × (done : Done) × HasReportedText (IsForwarded others tick link script times) octets text done
forwards_some others tick link script times octets (inl faulty) = ([], Ended, (faulty.0, inl (refl, faulty.1, refl)))
forwards_some others tick link script times octets (inr set) =
    let first = policed_start tick set.0 (waiting_at tick times (lines_of script)) in
    let some = capture_some forward_rules forward-total others (forward_start tick link first) octets set.2 in
    (some.0, some.2, (some.1, inr (set.0, set.1, some.3)))

-- For each script, times of its lines and capture something is forwarded.
pub some_forwarded : (others : Others) (tick : ℕ) (link : Option Link) (script : List ℕ) (times : List (Option ℕ)) (octets : List ℕ)
    → (text : List ℕ) × (done : Done) × HasReportedText (IsForwarded others tick link script times) octets text done
some_forwarded others tick link script times octets = forwards_some others tick link script times octets (fault_or_card script times)

setup_some : (others : Others) (tick : ℕ) (link : Option Link) (setup : List ℕ) (texts : List (List ℕ)) (octets : List ℕ) → FaultOrPrepared setup texts
    → (text : List ℕ) × (done : Done) × HasReportedText (MayBeSetupForwarded others tick link setup texts) octets text done
setup_some others tick link setup texts octets (inl faulty) = ([], Ended, (faulty.0, inl (refl, faulty.1, refl)))
setup_some others tick link setup texts octets (inr made) =
    let some = some_forwarded others tick link made.0 (line_times setup) octets in (some.0, some.1, (some.2.0, inr (made.0, made.1, some.2.1)))

-- So it is for each setup with files of rules.
pub some_setup_forwarded : (others : Others) (tick : ℕ) (link : Option Link) (setup : List ℕ) (texts : List (List ℕ)) (octets : List ℕ)
    → (text : List ℕ) × (done : Done) × HasReportedText (MayBeSetupForwarded others tick link setup texts) octets text done
some_setup_forwarded others tick link setup texts octets = setup_some others tick link setup texts octets (fault_or_prepared setup texts)

-- What is forwarded by the rules as they are is so where the code of any rules may be reported as too long.
pub may_be_forwarded : (others : Others) (tick : ℕ) (link : Option Link) (setup : List ℕ) (texts : List (List ℕ)) (octets text report : List ℕ) (done : Done)
    → IsSetupForwarded others tick link setup texts octets text report done → MayBeSetupForwarded others tick link setup texts octets text report done
may_be_forwarded others tick link setup texts octets text report done (inl (none, faulty, ends)) = inl (none, faulty_may setup texts report faulty, ends)
may_be_forwarded others tick link setup texts octets text report done (inr made) = inr made

module _ {Source Sink : Type 0} (I : InputView Source) (O : OutputView Sink) (source source' : Source) (sink sink' : Sink) (said said' : List ℕ) (result : Result Done RunFault) where
  -- A promise by a wider relation.
  pub served_wider : (IsText IsWanted : ReportedTexts) → ((octets text report : List ℕ) (done : Done) → IsText octets text report done → IsWanted octets text report done)
      → IsServedWithReport IsText I source source' O sink sink' said said' result → IsServedWithReport IsWanted I source source' O sink sink' said said' result
  served_wider IsText IsWanted is by = record {
    served = served-wider (HasReportedText IsText) (HasReportedText IsWanted) (λ octets text done has. (has.0, is octets text has.0 done has.1))
        I source source' O sink sink' result by.served;
    reported = λ ki ko. IfOk-weaker result _ _
        (λ done adds. (adds.0, adds.1, (adds.2.0, adds.2.1, is (I.rest source) adds.2.0 adds.0 done adds.2.2))) (by.reported ki ko);
  }

-- A faulty setup, whose explanation is reported.
pub faults_served : {Source Sink : Type 0} (I : InputView Source) (O : OutputView Sink) (source : Source) (sink : Sink) (said said' text : List ℕ)
    (result : Result Done RunFault) (IsText : ReportedTexts) → ((octets : List ℕ) → (text : List ℕ) × (done : Done) × HasReportedText IsText octets text done)
    → ((octets : List ℕ) → IsText octets [] text Ended)
    → IfOk result (λ done. done ≡ Ended) → OnOk result (said' ≡ said ++ text) → OnErr result (result ≡ Err NoMemory)
    → IsServedWithReport IsText I source source O sink sink said said' result
faults_served I O source sink said said' text (Ok done) IsText some is ended grew fault =
    served_report I O source source sink said said' IsText [] text done refl (λ ki. refl) grew
    (λ ki. subst (λ d. IsText (I.rest source) [] text d) (sym ended) (is (I.rest source)))
    (subst (λ d. IsText [] [] text d) (sym ended) (is []))
    (λ ki whole. let bad : Ended ≡ Whole = cc in cc)
faults_served I O source sink said said' text (Err NoMemory) IsText some is ended grew fault =
    served_nothing I O source source sink said said' IsText NoMemory (some (I.rest source)) refl refl
faults_served I O source sink said said' text (Err other) IsText some is ended grew fault = cc

-- The report of a faulty setup.
pub faulty_setup : (others : Others) (tick : ℕ) (link : Option Link) (setup : List ℕ) (texts : List (List ℕ)) (text : Vec ℕ) → OpensSetup tick setup texts (Faulty text)
    → (octets : List ℕ) → IsSetupForwarded others tick link setup texts octets [] text.items Ended
faulty_setup others tick link setup texts text (inl faulty) octets = inl (refl, faulty, refl)
faulty_setup others tick link setup texts text (inr (script, made, explained)) octets = inr (script, made, inl (refl, explained, refl))

-- If it is reported, nothing is written.
pub faults_reported : {Source Sink : Type 0} (I : InputView Source) (O : OutputView Sink) (source : Source) (sink : Sink) (said said' text : List ℕ)
    (result : Result Done RunFault) (IsText : ReportedTexts) → ((octets : List ℕ) → IsText octets [] text Ended)
    → IfOk result (λ done. done ≡ Ended) → OnOk result (said' ≡ said ++ text) → ReportsText IsText I source O sink sink said said' result
faults_reported I O source sink said said' text (Ok done) IsText is ended grew =
    λ ki ko. (text, grew, ([], sym (append-nil (O.held sink)), subst (λ d. IsText (I.rest source) [] text d) (sym ended) (is (I.rest source))))
faults_reported I O source sink said said' text (Err fault) IsText is ended grew = λ ki ko. tt

-- A result that is so in each world that is shown.
pub in_each : {T E World : Type 0} (result : Result T E) (IsSound IsShown IsSo : World → Type 0) → ((world : World) → IsShown world → OnOk result (IsSo world))
    → OnOk result ((world : World) → IsSound world → IsShown world → IsSo world)
in_each (Ok value) IsSound IsShown IsSo each = λ world sound is_shown. each world is_shown
in_each (Err fault) IsSound IsShown IsSo each = tt
