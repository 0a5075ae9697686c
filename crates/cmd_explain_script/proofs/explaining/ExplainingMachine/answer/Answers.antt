-- The text for a line follows from the answer of `run`.
use Rattle.cmd_explain_script.proofs.Turning.{turn-explained}
use Rattle.cmd_explain_script.proofs.explaining.ExplainingMachine.answer.Goals as goal

pub returns : goal.returns
returns c =
    let it = c.args.self.now in
    turn-explained _ _ it.met it.faulty it.programs.items c.add_loaded.new.programs.items c.deref-2.result.now c.args.line.now c.answer.new.answers.items c.args.answers.now.items
    c.add_explained.new.answers.items c.side-side.result c.in_ok-turn.turn c.new-answer.result.items c.deref.result.now c.deref-3.result.now c.deref-4.result.now c.one_line_more-self.result
    c.is_faulty_after-self.result c.side-side.ensures c.new-answer.ensures.items c.deref.ensures.value c.deref-3.ensures.value c.deref-4.ensures.value c.deref-2.ensures.value
    c.one_line_more-self.ensures c.is_faulty_after-self.ensures c.in_ok-turn.ensures c.in_ok-add_explained.ensures c.in_ok-add_loaded.ensures
