use Rattle.std.proofs.Common.{◌≡◌, Some, None, List, length, refl, sym, ap, subst, ◌∙◌}
use Rattle.std.specs.Prelude.{option_copied, slice_get}
use Rattle.std.proofs.lemmas.List.{length-set}
use Rattle.card_core.specs.declared.port.Port.{Port}
use Rattle.card_core.specs.declared.reply.Reply.TheVariants.{NotNow, Answered}
use Rattle.card_core.specs.declared.step.Step.TheVariants.{Judge}
use Rattle.card_core.specs.Agreement.{CoreView, Follows}
use Rattle.card_core.specs.inner.Ports.{found_in}
use Rattle.card_core.proofs.PortLemmas.{core_of, IsCore-left}
use Rattle.card_core.proofs.PortSteps.{judge-not}
use Rattle.card_core.proofs.JudgeSteps.{judge-goes}
use Rattle.card_core.proofs.Keeping.{judge-keeps, left-outside}
use Rattle.card_core.specs.Kept.{AnswerKeeps}
use Rattle.card_core.specs.Kept.{ReservesNothing}
use Rattle.card_core.proofs.Reserving.{judge-reserves}
use Rattle.card_core.proofs.serial.Core.judge.Goals as goal

pub judge_line-answer-requires : goal.judge_line-answer-requires
judge_line-answer-requires c =
    let l = c.self.inside in
    let there : found_in (slice_get l.ports.items c.args.port) ≡ Some c.in-Some.found.now =
    let test = c.picked_at.ensures in let same = c.deref.ensures.value in let is = ap option_copied c.in-Some.is in cc in
    c.self.invariant.within c.args.port c.in-Some.found.now there

pub returns-in_default-clause-follows : goal.returns-in_default-clause-follows
returns-in_default-clause-follows c =
    let l = c.self.inside in
    let none : found_in (slice_get l.ports.items c.args.port) ≡ None =
    let test = c.picked_at.ensures in let same = c.deref.ensures.value in let is = ap option_copied c.in_default.is in cc in
    subst (λ (core : CoreView). Follows core (Judge c.args.port) NotNow core) c.self.view_is
    (judge-not l.shape l.store l.directory l.lines.items l.ports.items c.args.port none)

pub invariant_of-self : goal.invariant_of-self
invariant_of-self c =
    let l = c.self.inside in
    let changes = c.judge_line-answer.ensures.line in
    IsCore-left l.directory l.directory l.lines.items c.judge_line-answer.new.lines.items l.ports.items c.move_port.new.ports.items c.args.port
    c.self.invariant refl (ap length changes.after ∙ length-set l.lines.items c.in-Some.found.now.seating.line changes.next) c.move_port.ensures

pub returns-clause-follows : goal.returns-clause-follows
returns-clause-follows c =
    let l = c.self.inside in
    let there : found_in (slice_get l.ports.items c.args.port) ≡ Some c.in-Some.found.now =
    let test = c.picked_at.ensures in let same = c.deref.ensures.value in let is = ap option_copied c.in-Some.is in cc in
    let answer = c.judge_line-answer.result in
    let after = c.judge_line-answer.new.lines.items in
    let goes = judge-goes l.shape l.store l.directory l.lines.items l.ports.items c.args.port c.in-Some.found.now there
    answer after c.judge_line-answer.ensures.line in
    let Old : CoreView = core_of l.shape l.store l.directory l.lines.items l.ports.items in
    let New : List Port → CoreView = λ ports. core_of l.shape l.store l.directory after ports in
    subst (λ (core : CoreView). Follows core (Judge c.args.port) (Answered answer) (New c.move_port.new.ports.items)) c.self.view_is
    (subst (λ (ports : List Port). Follows Old (Judge c.args.port) (Answered answer) (New ports)) (sym c.move_port.ensures) goes)

pub returns-clause-unchanged : goal.returns-clause-unchanged
returns-clause-unchanged c =
    let l = c.self.inside in
    let after = c.judge_line-answer.new.lines.items in
    let moved = c.move_port.new.ports.items in
    let New : CoreView = core_of l.shape l.store l.directory after moved in
    subst (λ (old : CoreView). AnswerKeeps c.judge_line-answer.result c.args.port old New) c.self.view_is
    (judge-keeps l.lines.items after c.in-Some.found.now c.judge_line-answer.result c.args.port
    (core_of l.shape l.store l.directory l.lines.items l.ports.items) New c.judge_line-answer.ensures.line
    (λ same. left-outside l.shape l.store l.directory l.lines.items l.ports.items after moved c.args.port same c.move_port.ensures))

pub returns-clause-reserves : goal.returns-clause-reserves
returns-clause-reserves c =
    let l = c.self.inside in
    let New : CoreView = core_of l.shape l.store l.directory c.judge_line-answer.new.lines.items c.move_port.new.ports.items in
    subst (λ (old : CoreView). ReservesNothing old New) c.self.view_is
    (judge-reserves (core_of l.shape l.store l.directory l.lines.items l.ports.items) New c.in-Some.found.now c.judge_line-answer.result
    c.judge_line-answer.ensures.line)
