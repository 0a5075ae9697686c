use Rattle.std.proofs.Common.{ap, ◌∙◌}
use Rattle.bpf_asm.specs.inner.Reading.{is_ended}
use Rattle.bpf_asm.proofs.cuts.Peeks.{line_same, spent_first, spent_none}
use Rattle.bpf_asm.proofs.octets.Comments.{line_none}
use Rattle.bpf_asm.proofs.octets.OctetTests.{is_zero, not_zero}
use Rattle.bpf_asm.proofs.token.is_spent.Goals as goal

pub returns-then-is_empty : goal.returns-then-is_empty
returns-then-is_empty c =
    let text = c.skip_blanks-left.result.now in
    spent_none text (line_none text (is_zero _ c.is_empty.result c.is_empty.ensures c.if-is_empty.true))
    ∙ ap is_ended (line_same c.args.text.now text c.skip_blanks-left.ensures.tokens)

pub returns : goal.returns
returns c =
    let text = c.skip_blanks-left.result.now in
    let some = not_zero _ c.is_empty.result c.is_empty.ensures c.if-is_empty.false in
    c.begins_comment.ensures ∙ spent_first text some (c.skip_blanks-left.ensures.begins some)
    ∙ ap is_ended (line_same c.args.text.now text c.skip_blanks-left.ensures.tokens)
