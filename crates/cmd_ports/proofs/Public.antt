-- The facts that higher crates may use in their proofs.
use Rattle.std.proofs.Common.{ℕ, List}
use Rattle.text_io.specs.declared.ending.Done.{Done}
use Rattle.cmd_ports.specs.PortsText.{IsPortsText}
use Rattle.cmd_ports.proofs.PortsTexts as texts

-- A script has a text of `ports`.
pub some-ports_text : (octets : List ℕ) → (text : List ℕ) × (done : Done) × IsPortsText octets text done
some-ports_text = texts.some-ports_text
