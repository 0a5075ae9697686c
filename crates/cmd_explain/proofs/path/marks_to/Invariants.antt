-- Loop invariant: the marks are right from this place on.
use Rattle.std.proofs.Common.{◌≡◌, ◌≤◌, length}
use Rattle.cmd_explain.specs.inner.Leading.{MarksFrom}
use Rattle.cmd_explain.proofs.path.marks_to.Given as goal

abbrev pub invariant-loop-place : goal.invariant-loop-place
invariant-loop-place l = record {
  within : l.place ≤ l.at;
  room : length l.marks.items ≡ length l.code;
  marks : MarksFrom l.code l.word l.at l.marks.items l.place;
}

abbrev pub decreases-loop-place : goal.decreases-loop-place
decreases-loop-place l = l.place
