-- At the tick that is agreed something is forwarded.
use Rattle.std.proofs.Common.{ℕ, List, [], Option, Result, Ok, Err, refl}
use Rattle.captures.specs.declared.link.Link.{Link}
use Rattle.cmd_setups.specs.SetupTick.{agreed_tick, ticks_differ}
use Rattle.text_io.specs.declared.ending.Done.{Done}
use Rattle.text_io.specs.declared.ending.Done.TheVariants.{Ended}
use Rattle.cmd_forward.specs.AgreedForward.{ForwardsAsAgreed, MayBeForwardedAsAgreed}
use Rattle.cmd_forward.specs.ForwardText.{MayBeSetupForwarded}
use Rattle.cmd_forward.specs.Reporting.{HasReportedText, ReportedTexts}
use Rattle.cmd_forward.specs.declared.others.Others.{Others}
use Rattle.cmd_forward.proofs.ForwardTexts.{some_setup_forwarded}

at_tick : (IsTextAt : ℕ → ReportedTexts) (agreed : Result ℕ (ℕ × ℕ)) (octets : List ℕ)
    → ((tick : ℕ) → (text : List ℕ) × (done : Done) × HasReportedText (IsTextAt tick) octets text done)
    → (text : List ℕ) × (done : Done) × HasReportedText (ForwardsAsAgreed IsTextAt agreed) octets text done
at_tick IsTextAt (Ok tick) octets each = each tick
at_tick IsTextAt (Err (named, asked)) octets each = ([], Ended, (ticks_differ named asked, (refl, refl, refl)))

pub some_forwarded_as_agreed : (others : Others) (named asked : Option ℕ) (link : Option Link) (setup : List ℕ) (texts : List (List ℕ)) (octets : List ℕ)
    → (text : List ℕ) × (done : Done) × HasReportedText (MayBeForwardedAsAgreed others named asked link setup texts) octets text done
some_forwarded_as_agreed others named asked link setup texts octets =
    at_tick (λ tick. MayBeSetupForwarded others tick link setup texts) (agreed_tick named asked) octets (λ tick. some_setup_forwarded others tick link setup texts octets)
