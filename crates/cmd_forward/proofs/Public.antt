-- Lemmas for other crates.
use Rattle.std.proofs.Common.{ℕ, List, Option}
use Rattle.captures.specs.declared.link.Link.{Link}
use Rattle.text_io.specs.declared.ending.Done.{Done}
use Rattle.cmd_forward.specs.AgreedForward.{MayBeForwardedAsAgreed}
use Rattle.cmd_forward.specs.Reporting.{HasReportedText}
use Rattle.cmd_forward.specs.declared.others.Others.{Others}
use Rattle.cmd_forward.proofs.AgreedTexts as agreed

-- For each setup script, texts of rules and capture something is forwarded at the tick that is agreed.
pub some_agreed_records : (others : Others) (named asked : Option ℕ) (link : Option Link) (setup : List ℕ) (texts : List (List ℕ)) (octets : List ℕ)
    → (text : List ℕ) × (done : Done) × HasReportedText (MayBeForwardedAsAgreed others named asked link setup texts) octets text done
some_agreed_records = agreed.some_forwarded_as_agreed
