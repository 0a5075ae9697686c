-- The path begins at place 0, and grows by a step.
use Rattle.std.proofs.Common.{Bool, List, subst}
use Rattle.cmd_explain.specs.inner.Leading.{IsMarked}
use Rattle.cmd_explain.proofs.Walking.{path_more, path_none, read_within, start_marked}
use Rattle.cmd_explain.proofs.path.path_to.Goals as goal

pub loop-here-init : goal.loop-here-init
loop-here-init c =
    let code = c.args.code.now in
    record {
      marked = start_marked code c.args.word c.args.at c.in_ok-marks.marks.items c.in_ok-marks.ensures.marks c.requires.unwritten;
      path = rw c.new-path.ensures.items (path_none code c.args.word c.args.at);
    }

pub next_of-next-requires-clause-within : goal.next_of-next-requires-clause-within
next_of-next-requires-clause-within c = read_within c.args.code.now c.args.word c.args.at c.requires.unwritten

pub loop-here-preserved : goal.loop-here-preserved
loop-here-preserved c =
    let next = c.next_of-next.result in
    record {
      marked = subst (λ (marks : List Bool). IsMarked marks next) c.deref.ensures.value c.next_of-next.ensures.marked;
      path = rw c.in_ok-push.ensures.items
          (path_more c.args.code.now c.args.word c.args.at c.loop-here.path.items c.loop-here.here next c.loop-here.invariant.path c.next_of-next.ensures.quiet c.next_of-next.ensures.step);
    }
