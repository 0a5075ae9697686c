use Rattle.std.proofs.Common.{◌≡◌, ◌<◌, ℕ, Some, None, List, length, refl, sym, ap, subst}
use Rattle.std.specs.Prelude.{option_copied, slice_get}
use Rattle.card_core.specs.declared.answer.Answer.{Answer}
use Rattle.card_core.specs.declared.port.Port.{Port}
use Rattle.card_core.specs.declared.port.Port.TheVariants.{Picked as PickedPort}
use Rattle.card_core.specs.declared.port.Found.{Found}
use Rattle.card_core.specs.declared.reply.Reply.TheVariants.{Picked, NotNow, Answered}
use Rattle.card_core.specs.declared.step.Step.TheVariants.{Pick}
use Rattle.card_core.specs.Agreement.{CoreView, Follows}
use Rattle.card_core.specs.Sections.{unjudged_answer}
use Rattle.card_core.specs.inner.Ports.{came_in}
use Rattle.card_core.proofs.LookUps.{same_some}
use Rattle.card_core.proofs.PortLemmas.{core_of, IsCore-moved, IsCore-left}
use Rattle.card_core.proofs.PortSteps.{pick-not}
use Rattle.card_core.proofs.PickSteps.{pick-goes, pick-missed}
use Rattle.card_core.proofs.Keeping.{answer-keeps, left-outside}
use Rattle.card_core.specs.Kept.{AnswerKeeps}
use Rattle.card_core.proofs.serial.Core.pick.Goals as goal

pub returns-in_default-clause-follows : goal.returns-in_default-clause-follows
returns-in_default-clause-follows c =
    let l = c.self.inside in
    let none : came_in (slice_get l.ports.items c.args.port) ≡ None =
    let test = c.entered_at.ensures in let same = c.deref.ensures.value in let is = ap option_copied c.in_default.is in cc in
    subst (λ (core : CoreView). Follows core (Pick c.args.port) NotNow core) c.self.view_is
    (pick-not l.shape l.store l.directory l.lines.items l.ports.items c.args.port none)

pub invariant_of-self : goal.invariant_of-self
invariant_of-self c =
    let l = c.self.inside in
    let within : c.in-Ok.found.seating.line < length l.lines.items =
    subst (λ (n : ℕ). c.in-Ok.found.seating.line < n) c.self.invariant.sized c.in-Ok.ensures.within in
    IsCore-moved l.directory l.directory l.lines.items l.lines.items l.ports.items c.move_port.new.ports.items c.args.port
    (PickedPort c.in-Ok.found) c.self.invariant refl refl c.move_port.ensures
    (λ found there. subst (λ (f : Found). f.seating.line < length l.lines.items) (same_some c.in-Ok.found found there) within)

pub invariant_of-self-in-Err : goal.invariant_of-self-in-Err
invariant_of-self-in-Err c =
    let l = c.self.inside in
    IsCore-left l.directory l.directory l.lines.items l.lines.items l.ports.items c.move_port-in-Err.new.ports.items c.args.port
    c.self.invariant refl refl c.move_port-in-Err.ensures

pub returns-in-Ok-clause-follows : goal.returns-in-Ok-clause-follows
returns-in-Ok-clause-follows c =
    let l = c.self.inside in
    let there : came_in (slice_get l.ports.items c.args.port) ≡ Some c.in-Some.came.now =
    let test = c.entered_at.ensures in let same = c.deref.ensures.value in let is = ap option_copied c.in-Some.is in cc in
    let goes = pick-goes l.shape l.store l.directory l.lines.items l.ports.items c.args.port c.in-Some.came.now there
    c.in-Ok.found c.in-Ok.ensures.found in
    let New : List Port → CoreView = λ ports. core_of l.shape l.store l.directory l.lines.items ports in
    subst (λ (core : CoreView). Follows core (Pick c.args.port) Picked (New c.move_port.new.ports.items)) c.self.view_is
    (subst (λ (ports : List Port). Follows (New l.ports.items) (Pick c.args.port) Picked (New ports)) (sym c.move_port.ensures) goes)

pub returns-in-Err-clause-follows : goal.returns-in-Err-clause-follows
returns-in-Err-clause-follows c =
    let l = c.self.inside in
    let there : came_in (slice_get l.ports.items c.args.port) ≡ Some c.in-Some.came.now =
    let test = c.entered_at.ensures in let same = c.deref.ensures.value in let is = ap option_copied c.in-Some.is in cc in
    let answer = unjudged_answer c.in-Err.reason in
    let goes = pick-missed l.shape l.store l.directory l.lines.items l.ports.items c.args.port c.in-Some.came.now there
    answer c.in-Err.ensures.found in
    let New : List Port → CoreView = λ ports. core_of l.shape l.store l.directory l.lines.items ports in
    subst (λ (core : CoreView). Follows core (Pick c.args.port) (Answered c.answer.result) (New c.move_port-in-Err.new.ports.items)) c.self.view_is
    (subst (λ (given : Answer). Follows (New l.ports.items) (Pick c.args.port) (Answered given) (New c.move_port-in-Err.new.ports.items)) (sym c.answer.ensures)
    (subst (λ (ports : List Port). Follows (New l.ports.items) (Pick c.args.port) (Answered answer) (New ports)) (sym c.move_port-in-Err.ensures) goes))

pub returns-in-Err-clause-unchanged : goal.returns-in-Err-clause-unchanged
returns-in-Err-clause-unchanged c =
    let l = c.self.inside in
    let moved = c.move_port-in-Err.new.ports.items in
    let New : CoreView = core_of l.shape l.store l.directory l.lines.items moved in
    subst (λ (old : CoreView). AnswerKeeps c.answer.result c.args.port old New) c.self.view_is
    (answer-keeps c.answer.result c.args.port (core_of l.shape l.store l.directory l.lines.items l.ports.items) New
    (left-outside l.shape l.store l.directory l.lines.items l.ports.items l.lines.items moved c.args.port refl c.move_port-in-Err.ensures))
