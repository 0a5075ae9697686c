-- One more line has its text.
use Rattle.std.proofs.Common.{◌++◌, List, ℕ, ap, ◌∙◌}
use Rattle.cmd_ports.proofs.DeskLemmas.{prints-next}
use Rattle.cmd_ports.proofs.script_desk.answer_each.Goals as goal

pub loop-line-preserved : goal.loop-line-preserved
loop-line-preserved g c =
    let one = c.in_ok-answer.ensures in
    prints-next (λ line. line.now) (λ text. text.items) c.args.card.now.side c.args.lines.now c.loop-line.line-index _ c.loop-line.desk_texts.items c.push.new.self.items _ one.0
    c.args.desk.now.names c.loop-line.desk.names c.answer.new.self.names c.loop-line-test.true c.in_ok-push.ensures.items
    (one.1 ∙ ap (λ (t : List ℕ). t ++ one.0) c.new-text.ensures.items) c.loop-line.invariant one.2
