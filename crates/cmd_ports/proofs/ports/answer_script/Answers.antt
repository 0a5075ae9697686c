-- The card's answer, the answers to the lines, the counts of the closed card, and a line of the card that is uneven.
use Rattle.std.proofs.Common.{ap, ◌∙◌}
use Rattle.card_core.specs.declared.shape.Shape.{Shape}
use Rattle.port_card.specs.Closing.{lines_total}
use Rattle.cmd_ports.proofs.CardTexts.{card-answered, uneven-within}
use Rattle.cmd_ports.proofs.FirstLemmas.{script-answered}
use Rattle.cmd_ports.proofs.ports.answer_script.Goals as goal

pub returns-in-Ok : goal.returns-in-Ok
returns-in-Ok g c =
    let shape = c.args.script.now.shape in
    let lines = c.in-Ok.closing.lines.items in
    let all = c.in-Ok.ensures.lines ∙ ap (λ (shape : Shape). shape.lines) c.in_ok-card.ensures.shape in
    record {
      answers = card-answered shape _ c.args.script.now.lines.items _ c.args.answers.now.items _ _ (lines_total lines) _
          c.in_ok-card.ensures.shape c.deref.ensures.value c.in_ok-add_ready.ensures
          (script-answered _ _ _ _ _ _ _ _ _ c.in_ok-card.ensures.unnamed c.in_ok-later.ensures c.in_ok-seats.ensures) c.in-Ok.ensures.sums;
      all = all;
      within = uneven-within lines _ c.in-Ok.closing.uneven shape.lines all c.in-Ok.ensures.uneven;
    }
