use Rattle.std.proofs.Common.{◌≡◌, Result, Ok, Err, subst}
use Rattle.line_record.specs.declared.owner.Owner.{Owner}
use Rattle.card_core.specs.declared.ask.Ask.{Ask}
use Rattle.card_core.specs.declared.fault.DeskFault.{DeskFault}
use Rattle.card_core.specs.declared.reply.Reply.{Reply}
use Rattle.card_core.specs.declared.reply.Reply.TheVariants.{SetUp, NotSetUp}
use Rattle.card_core.specs.declared.step.Step.TheVariants.{Setup}
use Rattle.card_core.specs.Agreement.{CoreView, Follows}
use Rattle.card_core.specs.DeskReplies.{setup_reply}
use Rattle.card_core.proofs.ByResult.{by_result}
use Rattle.card_core.proofs.PortLemmas.{core_of, IsCore-kept}
use Rattle.card_core.proofs.SetupSteps.{setup-unfit, setup-goes, setup-refused}
use Rattle.card_core.proofs.Keeping.{setup_line-keeps}
use Rattle.card_core.specs.Kept.{RefusalKeeps, SetupKeeps}
use Rattle.card_core.specs.Kept.{StepReserves}
use Rattle.card_core.specs.inner.Parts.{ChangesLine, SetsUpOrRefuses}
use Rattle.card_core.proofs.Reserving.{setup_line-reserves, setup_refused-reserves}
use Rattle.card_core.proofs.serial.Core.setup.Goals as goal

pub returns-in-Err-clause-follows : goal.returns-in-Err-clause-follows
returns-in-Err-clause-follows c =
    let l = c.self.inside in
    subst (λ (core : CoreView). Follows core (Setup c.args.ask) (NotSetUp c.in-Err.fault c.args.ask) core) c.self.view_is
    (setup-unfit l.shape l.store l.directory l.lines.items l.ports.items c.args.ask c.in-Err.fault c.in-Err.ensures)

pub invariant_of-self : goal.invariant_of-self
invariant_of-self c =
    let l = c.self.inside in
    IsCore-kept l.directory c.setup_line.new.directory l.lines.items c.setup_line.new.lines.items l.ports.items c.in-Ok.number
    c.setup_line.ensures.line.next c.self.invariant c.setup_line.ensures.lines c.setup_line.ensures.line.after

pub returns-clause-follows : goal.returns-clause-follows
returns-clause-follows c =
    let l = c.self.inside in
    let ask = c.args.ask in
    let after = c.setup_line.new.lines.items in
    let new = c.setup_line.new.directory in
    let Goal : Reply → CoreView → Type 0 = λ reply old.
    Follows old (Setup ask) reply (core_of l.shape l.store new after l.ports.items) in
    by_result (λ (r : Result Owner (DeskFault × Ask)). Goal (setup_reply r) c.args.self.now) c.setup_line.result
    (λ owner is. subst (Goal (SetUp owner)) c.self.view_is
    (setup-goes l.shape l.store l.directory l.lines.items l.ports.items ask c.in-Ok.number c.in-Ok.ensures new c.setup_line.result after
    c.setup_line.ensures.line owner is))
    (λ refused is. subst (Goal (NotSetUp refused.0 refused.1)) c.self.view_is
    (setup-refused l.shape l.store l.directory l.lines.items l.ports.items ask c.in-Ok.number c.in-Ok.ensures new c.setup_line.result after
    c.setup_line.ensures.line refused.0 refused.1 is))

pub returns-clause-unchanged : goal.returns-clause-unchanged
returns-clause-unchanged c =
    let l = c.self.inside in
    let New : CoreView = core_of l.shape l.store c.setup_line.new.directory c.setup_line.new.lines.items l.ports.items in
    by_result (λ (r : Result Owner (DeskFault × Ask)). RefusalKeeps (setup_reply r) (Setup c.args.ask) c.args.self.now New) c.setup_line.result
    (λ owner is. tt)
    (λ refused is. subst (λ (old : CoreView). SetupKeeps refused.0 old New) c.self.view_is
    (setup_line-keeps l.shape l.store l.directory l.lines.items l.ports.items c.args.ask refused.1 c.in-Ok.number
    c.setup_line.new.directory c.setup_line.result c.setup_line.new.lines.items refused.0
    c.setup_line.ensures.line is))

pub returns-clause-reserves : goal.returns-clause-reserves
returns-clause-reserves c =
    let l = c.self.inside in
    let Old : CoreView = core_of l.shape l.store l.directory l.lines.items l.ports.items in
    let New : CoreView = core_of l.shape l.store c.setup_line.new.directory c.setup_line.new.lines.items l.ports.items in
    let changed : (r : Result Owner (DeskFault × Ask)) → c.setup_line.result ≡ r
    → ChangesLine l.lines.items c.in-Ok.number (SetsUpOrRefuses l.directory c.setup_line.new.directory c.in-Ok.number c.args.ask r) c.setup_line.new.lines.items =
    λ r is. subst (λ (r : Result Owner (DeskFault × Ask)).
    ChangesLine l.lines.items c.in-Ok.number (SetsUpOrRefuses l.directory c.setup_line.new.directory c.in-Ok.number c.args.ask r) c.setup_line.new.lines.items)
    is c.setup_line.ensures.line in
    subst (λ (old : CoreView). StepReserves (setup_reply c.setup_line.result) old New) c.self.view_is
    (by_result (λ (r : Result Owner (DeskFault × Ask)). StepReserves (setup_reply r) Old New) c.setup_line.result
    (λ owner is. setup_line-reserves Old New l.directory c.setup_line.new.directory c.in-Ok.number c.args.ask owner (changed (Ok owner) is))
    (λ refused is. setup_refused-reserves Old New l.directory c.setup_line.new.directory c.in-Ok.number c.args.ask refused.1 refused.0 (changed (Err refused) is)))
