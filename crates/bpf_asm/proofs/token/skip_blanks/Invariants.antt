use Rattle.std.proofs.Common.{◌≡◌, drop}
use Rattle.bpf_asm.specs.inner.LineTokens.{line_tokens}
use Rattle.bpf_asm.proofs.token.skip_blanks.Given as goal

abbrev pub invariant-loop-at : goal.invariant-loop-at
invariant-loop-at l = line_tokens (drop l.at l.text) ≡ line_tokens l.text
