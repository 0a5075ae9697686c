-- What `forward` writes at the tick that is agreed, and its report.
use Rattle.std.specs.Prelude.{◌≡◌, ℕ, List, [], Option, Result, Ok, Err}
use Rattle.captures.specs.declared.link.Link.{Link}
use Rattle.cmd_setups.specs.SetupTick.{agreed_tick, ticks_differ}
use Rattle.text_io.specs.declared.ending.Done.TheVariants.{Ended}
use Rattle.cmd_forward.specs.ForwardText.{IsSetupForwarded, MayBeSetupForwarded}
use Rattle.cmd_forward.specs.Reporting.{ReportedTexts}
use Rattle.cmd_forward.specs.declared.others.Others.{Others}

-- What is written and reported at the tick that is agreed; or nothing is written, and the report is the answer about two ticks that differ.
abbrev pub ForwardsAsAgreed : (ℕ → ReportedTexts) → Result ℕ (ℕ × ℕ) → ReportedTexts
ForwardsAsAgreed IsTextAt (Ok tick) octets text report done = IsTextAt tick octets text report done
ForwardsAsAgreed IsTextAt (Err (named, asked)) octets text report done = (text ≡ []) × (report ≡ ticks_differ named asked) × (done ≡ Ended)

-- What is written for a setup script that names this tick, if it names one, the texts of its files of rules and a whole
-- capture, where this tick is asked for, if one is; what is reported; and how the run ends.
abbrev pub IsForwardedAsAgreed : Others → Option ℕ → Option ℕ → Option Link → List ℕ → List (List ℕ) → ReportedTexts
IsForwardedAsAgreed others named asked link setup texts = ForwardsAsAgreed (λ tick. IsSetupForwarded others tick link setup texts) (agreed_tick named asked)

-- The same, but that the code of any rules may be reported as too long.
abbrev pub MayBeForwardedAsAgreed : Others → Option ℕ → Option ℕ → Option Link → List ℕ → List (List ℕ) → ReportedTexts
MayBeForwardedAsAgreed others named asked link setup texts = ForwardsAsAgreed (λ tick. MayBeSetupForwarded others tick link setup texts) (agreed_tick named asked)
