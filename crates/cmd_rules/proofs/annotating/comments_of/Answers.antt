use Rattle.std.proofs.Common.{arith, get_or, refl}
use Rattle.bpf_asm.specs.SourceLines.{source_lines}
use Rattle.cmd_rules.specs.declared.annotating.Comment.{Comment}
use Rattle.cmd_rules.proofs.CommentsKept.{comments_push}
use Rattle.cmd_rules.proofs.annotating.comments_of.Goals as goal

pub loop-place-preserved : goal.loop-place-preserved
loop-place-preserved c =
    let size = get_or c.args.starts_from_end.now c.loop-place.place 0 in
    let comment : Comment = record { size = size; text = c.in_ok-comment.comment } in
    record {
      within = omega (arith, c.loop-place-test.true);
      passed = c.rest_after-rest.ensures;
      made = comments_push (source_lines c.args.text.now) c.args.begins.now c.args.starts_from_end.now c.loop-place.comments.items c.push.new.self.items comment
          (source_lines c.rest_after-rest.result.now) c.first_line.result.now c.loop-place.place size c.start_from_end_at.result c.saturating_sub-before.result c.begin_at-begin.result
          c.loop-place-test.true refl c.start_from_end_at.ensures c.if-size-start_from_end_at.false c.begin_at-begin.ensures c.saturating_sub-before.ensures c.rest_after-rest.ensures
          c.first_line.ensures refl (rw c.from_column-line.ensures at c.in_ok-comment.ensures) c.in_ok-push.ensures.items c.loop-place.invariant.made;
    }
