use Rattle.std.proofs.Common.{List, drop}
use Rattle.bpf_asm.specs.Grammar.{SourceLine}
use Rattle.bpf_asm.specs.inner.Drafts.{Drafts, IsResolvedTo}
use Rattle.bpf_asm.proofs.resolver.resolve_all.Given as goal

abbrev pub invariant-loop-jump : goal.invariant-loop-jump
invariant-loop-jump l = (lines : List SourceLine) → Drafts lines l.fn.draft → IsResolvedTo lines l.code.items (drop l.jump-index l.jump-items)
