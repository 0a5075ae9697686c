use Rattle.std.proofs.Common.{◌+◌, List, ◌∷◌, ◌++◌, [], length, sym, ap, subst, ◌∙◌, arith, length-append}
use Rattle.card_core.specs.declared.reply.Reply.{Reply}
use Rattle.card_core.specs.Agreement.{FollowsAll}
use Rattle.card_core.specs.Kept.{AnswersSteps}
use Rattle.card_core.proofs.RunLemmas.{follows-next, takes-next}
use Rattle.card_core.proofs.serial.Core.run.Goals as goal

pub loop-step-preserved : goal.loop-step-preserved
loop-step-preserved c =
    let replies = c.loop-step.replies.items in
    let yielded = c.loop-step.yielded in
    let items = c.push_reserved.ensures.items in
    record {
      can = tt;
      ends = tt;
      room = omega (arith, c.loop-step.invariant.room, c.push_reserved.ensures.capacity);
      one_each = ap length items ∙ length-append replies (c.step.result ∷ []) ∙ ap (λ n. n + 1) c.loop-step.invariant.one_each
          ∙ sym (length-append yielded (c.in-Some.step ∷ []));
      follows = subst (λ (list : List Reply). FollowsAll c.args.self.now (yielded ++ c.in-Some.step ∷ []) list c.step.new.self) (sym items)
          (follows-next c.args.self.now c.loop-step.self c.step.new.self yielded replies c.in-Some.step c.step.result
          c.loop-step.invariant.one_each c.loop-step.invariant.follows c.step.ensures.follows);
      each = subst (λ (list : List Reply). AnswersSteps c.args.self.now (yielded ++ c.in-Some.step ∷ []) list c.step.new.self) (sym items)
          (takes-next c.args.self.now c.loop-step.self c.step.new.self yielded replies c.in-Some.step c.step.result
          c.loop-step.invariant.each (record { follows = c.step.ensures.follows; unchanged = c.step.ensures.unchanged; reserves = c.step.ensures.reserves; judged = c.step.ensures.judged; fresh = c.step.ensures.fresh }));
    }
