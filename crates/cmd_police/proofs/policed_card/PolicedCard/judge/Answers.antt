use Rattle.std.proofs.Common.{Option, None, Result, option_map, subst, sym}
use Rattle.card_core.specs.Sections.{answer_to}
use Rattle.card_core.specs.declared.answer.Judgement.{Judgement}
use Rattle.card_core.specs.declared.answer.Unjudged.{Unjudged}
use Rattle.cmd_police.specs.PolicedCards.{PolicedWorld, PolicesOneCell, ShowsPoliced}
use Rattle.cmd_setups.specs.declared.timed_card.TimedCard.{TimedCard}
use Rattle.cmd_setups.specs.CardArrival.{ArrivesWithRoom}
use Rattle.cmd_police.proofs.PolicedLemmas.{polices_cell, polices_no_cell}
use Rattle.cmd_police.proofs.policed_card.PolicedCard.judge.Goals as goal

pub returns-in_default : goal.returns-in_default
returns-in_default c = λ world led shown.
    let captured = c.args.captured.now in
    let policed = c.args.self.now in
    let timed = c.carry_out.new.self in
    let core = c.arrive.new.self.card.core in
    polices_no_cell policed (record policed { timed = c.arrive.new.self; answers = c.carry_out.new.answers }) timed core captured c.in_ok-carry_out.field-0 None
    policed.answers.items c.carry_out.new.answers.items c.in_ok-carry_out.ensures
    (subst (λ (o : Option (Result Judgement Unjudged)). ArrivesWithRoom timed.card.core captured.cell captured.moment (option_map (λ decision. answer_to captured.cell decision) o) core)
    c.in_default.is c.arrive.ensures.arrives) world led shown

pub returns : goal.returns
returns c = λ world led shown.
    let captured = c.args.captured.now in
    let policed = c.args.self.now in
    let timed = c.carry_out.new.self in
    let core = c.arrive.new.self.card.core in
    let At : TimedCard → Type 0 = λ after.
    (next : PolicedWorld) × ShowsPoliced (record policed { timed = after; answers = c.carry_out.new.answers; not_judged = c.count.new.self }) next
    × PolicesOneCell world captured c.verdict_in.result next in
    subst At (sym c.arrive.ensures.rest) (polices_cell policed timed core c.carry_out.new.answers (answer_to captured.cell c.in-Some.decision) captured c.count.new.self c.in_ok-carry_out.field-0 c.verdict_in.result
    c.in_ok-carry_out.ensures
    (subst (λ (o : Option (Result Judgement Unjudged)). ArrivesWithRoom timed.card.core captured.cell captured.moment (option_map (λ decision. answer_to captured.cell decision) o) core)
    c.in-Some.is c.arrive.ensures.arrives)
    (c.count.ensures captured.cell) (c.verdict_in.ensures captured.cell) world led shown)
