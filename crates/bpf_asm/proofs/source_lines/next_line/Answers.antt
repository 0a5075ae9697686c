use Rattle.std.proofs.Common.{◌<◌, length, arith}
use Rattle.std.proofs.lemmas.List.{take_rest}
use Rattle.bpf_asm.proofs.octets.LineCuts.{line_cut, line_rest, lines_none}
use Rattle.bpf_asm.proofs.octets.OctetTests.{is_zero, not_zero}
use Rattle.bpf_asm.proofs.source_lines.next_line.Goals as goal

pub returns-then-is_empty-clause-lines : goal.returns-then-is_empty-clause-lines
returns-then-is_empty-clause-lines c = lines_none c.args.text.now (is_zero _ c.is_empty.result c.is_empty.ensures c.if-is_empty.true)

pub returns-then-at-text-clause-lines : goal.returns-then-at-text-clause-lines
returns-then-at-text-clause-lines c =
    rw take_rest (line_rest c.args.text.now c.line_len-at.result (not_zero _ c.is_empty.result c.is_empty.ensures c.if-is_empty.false) c.if-at-text.true c.line_len-at.ensures.line)

pub returns-clause-lines : goal.returns-clause-lines
returns-clause-lines c =
    let within : c.line_len-at.result < length c.args.text.now = omega (arith, c.line_len-at.ensures.within, c.if-at-text.false) in
    let cut = line_cut c.args.text.now c.line_len-at.result within c.line_len-at.ensures.line (c.line_len-at.ensures.feed within) in
    rw (take_rest, c.before_return.ensures) cut
