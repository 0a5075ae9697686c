use Rattle.std.proofs.Common.{◌≡◌, ◌≤◌, ◌-◌, ◌++◌, ℕ, drop, length}
use Rattle.bpf_asm.specs.SourceLines.{source_lines}
use Rattle.cmd_rules.specs.AsmText.{comments_from}
use Rattle.cmd_rules.specs.inner.Comments.{written_at}
use Rattle.cmd_rules.proofs.annotating.comments_of.Given as goal

abbrev pub invariant-loop-place : goal.invariant-loop-place
invariant-loop-place l = record {
  within : l.place ≤ length l.starts_from_end;
  passed : source_lines l.rest ≡ drop l.passed (source_lines l.text);
  made : (left : ℕ) → written_at left l.comments.items ++ comments_from (source_lines l.text) l.begins left l.place (drop l.place l.starts_from_end)
      ≡ comments_from (source_lines l.text) l.begins left 0 l.starts_from_end;
}

abbrev pub decreases-loop-place : goal.decreases-loop-place
decreases-loop-place l = length l.starts_from_end - l.place
