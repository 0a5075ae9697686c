use Rattle.std.proofs.Common.{sym, ◌∙◌, ap}
use Rattle.std.proofs.lemmas.List.{take_rest}
use Rattle.bpf_asm.specs.inner.Reading.{cut_mark}
use Rattle.bpf_asm.proofs.cuts.FirstWords.{mark_front, other_front}
use Rattle.bpf_asm.proofs.cuts.Peeks.{line_same, none_no_cut}
use Rattle.bpf_asm.proofs.octets.Comments.{line_none}
use Rattle.bpf_asm.proofs.octets.OctetTests.{is_zero, not_zero}
use Rattle.bpf_asm.proofs.token.next_mark.Goals as goal

pub returns-then-is_empty : goal.returns-then-is_empty
returns-then-is_empty c =
    none_no_cut c.args.text.now (sym c.skip_blanks-left.ensures.tokens ∙ line_none c.skip_blanks-left.result.now (is_zero _ c.is_empty.result c.is_empty.ensures c.if-is_empty.true)) c.args.octet

pub returns-then-left-octet : goal.returns-then-left-octet
returns-then-left-octet c =
    let left = c.skip_blanks-left.result.now in
    let some = not_zero _ c.is_empty.result c.is_empty.ensures c.if-is_empty.false in
    rw take_rest (sym c.skip_blanks-left.ensures.tokens ∙ mark_front c.args.octet left c.requires some c.if-left-octet.true)

pub returns-else-left-octet : goal.returns-else-left-octet
returns-else-left-octet c =
    let left = c.skip_blanks-left.result.now in
    let some = not_zero _ c.is_empty.result c.is_empty.ensures c.if-is_empty.false in
    ap (λ tokens. cut_mark c.args.octet tokens) (sym (line_same c.args.text.now left c.skip_blanks-left.ensures.tokens))
    ∙ other_front c.args.octet left some (c.skip_blanks-left.ensures.begins some) c.if-left-octet.false
