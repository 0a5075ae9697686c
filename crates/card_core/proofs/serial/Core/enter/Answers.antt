use Rattle.std.proofs.Common.{◌≡◌, true, false, List, refl, sym, subst}
use Rattle.std.specs.Prelude.{slice_get}
use Rattle.card_core.specs.declared.port.Port.{Port}
use Rattle.card_core.specs.declared.port.Port.TheVariants.{Entered as EnteredPort}
use Rattle.card_core.specs.declared.reply.Reply.TheVariants.{Entered, NotNow}
use Rattle.card_core.specs.declared.step.Step.TheVariants.{Enter}
use Rattle.card_core.specs.Agreement.{CoreView, Follows}
use Rattle.card_core.specs.inner.Ports.{is_idle}
use Rattle.card_core.proofs.PortLemmas.{core_of, IsCore-moved}
use Rattle.card_core.proofs.PortSteps.{enter-not, enter-goes}
use Rattle.card_core.proofs.serial.Core.enter.Goals as goal

pub returns-then-not-is_idle_at-clause-follows : goal.returns-then-not-is_idle_at-clause-follows
returns-then-not-is_idle_at-clause-follows c =
    let l = c.self.inside in
    let busy : is_idle (slice_get l.ports.items c.args.port) ≡ false =
    let test = c.is_idle_at.ensures in let same = c.deref.ensures.value in let is = c.if-not-is_idle_at.true in cc in
    subst (λ (core : CoreView). Follows core (Enter c.args.port c.args.cell c.args.moment) NotNow core) c.self.view_is
    (enter-not l.shape l.store l.directory l.lines.items l.ports.items c.args.port c.args.cell c.args.moment busy)

pub invariant_of-self : goal.invariant_of-self
invariant_of-self c =
    let l = c.self.inside in
    IsCore-moved l.directory l.directory l.lines.items l.lines.items l.ports.items c.move_port.new.ports.items c.args.port
    (EnteredPort (record { cell = c.args.cell; moment = c.args.moment })) c.self.invariant refl refl c.move_port.ensures
    (λ found there. absurd (cc))

pub returns-clause-follows : goal.returns-clause-follows
returns-clause-follows c =
    let l = c.self.inside in
    let free : is_idle (slice_get l.ports.items c.args.port) ≡ true =
    let test = c.is_idle_at.ensures in let same = c.deref.ensures.value in let is = c.if-not-is_idle_at.false in cc in
    let step = Enter c.args.port c.args.cell c.args.moment in
    let goes = enter-goes l.shape l.store l.directory l.lines.items l.ports.items c.args.port
    (record { cell = c.args.cell; moment = c.args.moment }) free in
    subst (λ (core : CoreView). Follows core step Entered (core_of l.shape l.store l.directory l.lines.items c.move_port.new.ports.items)) c.self.view_is
    (subst (λ (ports : List Port). Follows (core_of l.shape l.store l.directory l.lines.items l.ports.items) step Entered
    (core_of l.shape l.store l.directory l.lines.items ports)) (sym c.move_port.ensures) goes)
