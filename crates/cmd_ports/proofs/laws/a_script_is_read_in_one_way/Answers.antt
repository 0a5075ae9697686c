-- Line by line.
use Rattle.text_io.specs.Lines.{lines_of}
use Rattle.cmd_ports.specs.PortsText.{unread}
use Rattle.cmd_ports.proofs.OneReading.{read-once}
use Rattle.cmd_ports.proofs.laws.a_script_is_read_in_one_way.Goals as goal

pub returns : goal.returns
returns c = λ octets text text' one other. read-once (lines_of octets) 0 unread one other text text'
