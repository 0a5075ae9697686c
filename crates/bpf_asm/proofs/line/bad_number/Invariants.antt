use Rattle.std.proofs.Common.{◌≡◌, length}
use Rattle.bpf_asm.specs.Tokens.{has_faulty}
use Rattle.bpf_asm.specs.inner.LineTokens.{line_tokens}
use Rattle.bpf_asm.proofs.line.bad_number.Given as goal

abbrev pub invariant-loop-token : goal.invariant-loop-token
invariant-loop-token l = has_faulty (line_tokens l.left) ≡ has_faulty (line_tokens l.text)

abbrev pub decreases-loop-token : goal.decreases-loop-token
decreases-loop-token l = length l.left
