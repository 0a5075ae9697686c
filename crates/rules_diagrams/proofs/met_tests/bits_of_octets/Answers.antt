use Rattle.std.proofs.Common.{ap, sym, refl, arith}
use Rattle.bpf_interp.specs.Packet.{octets_loaded}
use Rattle.rules_diagrams.proofs.FieldBits.{octets_place}
use Rattle.rules_diagrams.proofs.met_tests.bits_of_octets.Goals as goal

pub returns-in-Octet : goal.returns-in-Octet
returns-in-Octet c = octets_place c.args.side c.args.octets 1 _ 8 (sym (ap octets_loaded c.in-Octet.is)) (omega arith) refl (omega arith)

pub returns-in-Half : goal.returns-in-Half
returns-in-Half c = octets_place c.args.side c.args.octets 2 _ 16 (sym (ap octets_loaded c.in-Half.is)) (omega arith) refl (omega arith)

pub returns-in-Word : goal.returns-in-Word
returns-in-Word c = octets_place c.args.side c.args.octets 4 _ 32 (sym (ap octets_loaded c.in-Word.is)) (omega arith) refl (omega arith)
