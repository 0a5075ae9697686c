-- Loop invariant: the places so far are a path without a store, and from here the read is reached.
use Rattle.std.proofs.Common.{◌-◌, reverse}
use Rattle.cmd_explain.specs.CodePaths.{LeavesUnwritten}
use Rattle.cmd_explain.specs.inner.Leading.{IsMarked}
use Rattle.cmd_explain.proofs.path.path_to.Given as goal

abbrev pub invariant-loop-here : goal.invariant-loop-here
invariant-loop-here l = record {
  marked : IsMarked l.marks.items l.here;
  path : LeavesUnwritten l.code l.here l.word (reverse l.path.items);
}

abbrev pub decreases-loop-here : goal.decreases-loop-here
decreases-loop-here l = l.at - l.here
