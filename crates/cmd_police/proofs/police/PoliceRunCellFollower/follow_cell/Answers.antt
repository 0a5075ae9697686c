use Rattle.std.proofs.Common.{◌≡◌, ◌∙◌, ◌||◌, Option, Result, Bool, ap, option_map, refl, subst, sym}
use Rattle.card_core.specs.Agreement.{CoreView}
use Rattle.card_core.specs.Sections.{answer_to}
use Rattle.card_core.specs.declared.answer.Judgement.{Judgement}
use Rattle.card_core.specs.declared.answer.Unjudged.{Unjudged}
use Rattle.card_core.specs.declared.shape.Shape.{Shape}
use Rattle.upc_cell.specs.Connection.{vc_of}
use Rattle.cmd_setups.specs.declared.timed_card.TimedCard.{TimedCard}
use Rattle.upc_cell.specs.Header.{has_low_priority}
use Rattle.cmd_setups.specs.CardArrival.{ArrivesWithRoom}
use Rattle.cmd_police.specs.StoredRules.{shown_stored}
use Rattle.cmd_setups.specs.SpanCounts.{spans_after}
use Rattle.cmd_police.specs.inner.PoliceShown.{AddsCell, ShowsPolice}
use Rattle.cmd_setups.specs.SpansShown.{ShowsSpans}
use Rattle.cmd_police.proofs.PoliceLemmas.{FollowsArrived, polices_after, polices_by, polices_never, run_commanded}
use Rattle.cmd_police.proofs.police.PoliceRunCellFollower.follow_cell.Goals as goal

pub returns-in_default : goal.returns-in_default
returns-in_default c =
    let captured = c.args.captured.now in
    let timed = c.carry_out.new.self in
    let carried = c.in_ok-carried.carried in
    let commanded = c.args.self.now.commanded || carried in
    let run = run_commanded c.args.self.now timed commanded in
    let core = c.arrive.new.self.card.core in
    let after = record run { timed = c.arrive.new.self; spans = c.go_on.new.self } in
    polices_after c.args.self.now timed carried commanded captured (ShowsPolice after) c.args.answers.now.items c.carry_out.new.answers.items c.go_on.new.answers.items
    c.in_ok-carried.ensures refl
    (polices_never run after core captured c.go_on.new.self c.carry_out.new.answers.items c.go_on.new.answers.items
    (record { added = c.in_ok-go_on.ensures.text; spans = c.in_ok-go_on.ensures.spans })
    (subst (λ (o : Option (Result Judgement Unjudged)). ArrivesWithRoom timed.card.core captured.cell captured.moment (option_map (λ decision. answer_to captured.cell decision) o) core)
    c.in_default.is c.arrive.ensures.arrives))

pub returns : goal.returns
returns c =
    let captured = c.args.captured.now in
    let cell = captured.cell in
    let timed = c.carry_out.new.self in
    let carried = c.in_ok-carried.carried in
    let commanded = c.args.self.now.commanded || carried in
    let run = run_commanded c.args.self.now timed commanded in
    let core = c.arrive.new.self.card.core in
    let given = answer_to cell c.in-Some.decision in
    let here : c.shape-side.result ≡ timed.card.core.shape = c.shape-side.ensures ∙ ap (λ (core : CoreView). core.shape) c.core.ensures in
    let At : TimedCard → Type 0 = λ after. FollowsArrived (ShowsPolice run) captured
    (ShowsPolice (record run { timed = after; has_heading = c.in_ok-self.field-0; spans = c.count.new.self; not_judged = c.count-2.new.self }))
    c.carry_out.new.answers.items c.add_cell.new.answers.items in
    polices_after c.args.self.now timed carried commanded captured
    (ShowsPolice (record run { timed = c.arrive.new.self; has_heading = c.in_ok-self.field-0; spans = c.count.new.self; not_judged = c.count-2.new.self }))
    c.args.answers.now.items c.carry_out.new.answers.items c.add_cell.new.answers.items
    c.in_ok-carried.ensures refl
    (subst At (sym c.arrive.ensures.rest) (polices_by run core given captured c.in_ok-self.field-0 c.go_on.new.self c.count.new.self c.count-2.new.self
    c.carry_out.new.answers.items c.go_on.new.answers.items c.add_cell.new.answers.items
    (record { added = c.in_ok-go_on.ensures.text; spans = c.in_ok-go_on.ensures.spans })
    (subst (λ (o : Option (Result Judgement Unjudged)). ArrivesWithRoom timed.card.core cell captured.moment (option_map (λ decision. answer_to cell decision) o) core)
    c.in-Some.is c.arrive.ensures.arrives)
    (subst (λ (shape : Shape). AddsCell shape.side run.lines (shown_stored run.rules) run.has_heading captured (vc_of shape.side cell) given (record timed.card { core = core })
    c.go_on.new.answers.items c.add_cell.new.answers.items c.in_ok-self.field-0) here
    (subst (λ (after : TimedCard). AddsCell c.shape-side.result.side run.lines (shown_stored run.rules) run.has_heading captured (vc_of c.shape-side.result.side cell) given after.card
    c.go_on.new.answers.items c.add_cell.new.answers.items c.in_ok-self.field-0) c.arrive.ensures.rest c.in_ok-self.ensures))
    (λ spans shown. subst (λ (shape : Shape). ShowsSpans c.count.new.self (spans_after spans (vc_of shape.side cell) given)) here (c.in_ok-count.ensures spans shown))
    (c.count-2.ensures cell)))
