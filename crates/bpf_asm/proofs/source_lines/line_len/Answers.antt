use Rattle.std.proofs.Common.{length, arith}
use Rattle.bpf_asm.proofs.octets.Searches.{searched_free}
use Rattle.bpf_asm.proofs.source_lines.line_len.Goals as goal

pub returns-in-Some-clause-line : goal.returns-in-Some-clause-line
returns-in-Some-clause-line c = searched_free c.args.text.now c.in-Some.at (omega (arith, c.in-Some.ensures.place)) c.in-Some.ensures.before

pub returns-in-None-clause-line : goal.returns-in-None-clause-line
returns-in-None-clause-line c = searched_free c.args.text.now (length c.args.text.now) (omega arith) c.in-None.ensures.none
