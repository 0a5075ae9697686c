-- Each command that is due is carried out.
use Rattle.std.proofs.Common.{arith, List, ℕ, subst}
use Rattle.cmd_setups.specs.CommandsUnderTraffic.{AnswersUnderTraffic}
use Rattle.cmd_setups.specs.inner.NotedSetups.{MovesNoting}
use Rattle.cmd_setups.proofs.CommandLemmas.{carries_end, carries_more}
use Rattle.cmd_setups.proofs.timed_card.TimedCard.carry_out_all.Goals as goal

pub loop-command-preserved : goal.loop-command-preserved
loop-command-preserved c = record {
  so_far = carries_more c.args.self.now c.loop-command.self c.answer_command.new.card c.answer_command.new.at_setup c.in-Some.command.now c.args.moment c.loop-command.carried
      c.args.answers.now.items c.loop-command.answers.items c.add_moment.new.answers.items c.answer_command.new.answers.items
      c.loop-command.invariant.so_far c.in-Some.ensures.found c.in_ok-add_moment.ensures
      (subst (λ (line : List ℕ). MovesNoting (λ before. AnswersUnderTraffic before line) c.loop-command.self.card c.loop-command.self.at_setup.counts.items
      c.answer_command.new.card c.answer_command.new.at_setup.counts.items c.add_moment.new.answers.items c.answer_command.new.answers.items) c.deref.ensures.value c.in_ok-answer_command.ensures);
}

pub returns : goal.returns
returns c =
    carries_end c.args.self.now c.loop-command.self c.args.moment c.loop-command.carried c.args.answers.now.items c.loop-command.answers.items
    c.loop-command.invariant.so_far c.in_default.ensures.none
