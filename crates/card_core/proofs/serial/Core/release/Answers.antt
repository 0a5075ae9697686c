use Rattle.std.proofs.Common.{◌≡◌, Result, Some, None, sym, subst, arith}
use Rattle.line_record.specs.Directory.{seating_at}
use Rattle.line_record.specs.Piece.{PieceView}
use Rattle.card_core.specs.declared.fault.DeskFault.{DeskFault}
use Rattle.card_core.specs.declared.fault.DeskFault.TheVariants.{NoConnection}
use Rattle.card_core.specs.declared.reply.Reply.{Reply}
use Rattle.card_core.specs.declared.reply.Reply.TheVariants.{Released, Refused}
use Rattle.card_core.specs.declared.step.Step.TheVariants.{Release}
use Rattle.card_core.specs.Agreement.{CoreView, Follows}
use Rattle.card_core.specs.DeskReplies.{release_reply}
use Rattle.card_core.proofs.ByResult.{by_result}
use Rattle.card_core.proofs.PortLemmas.{core_of, IsCore-kept}
use Rattle.card_core.proofs.DeskSteps.{release-missing, release-goes, release-never}
use Rattle.card_core.proofs.Keeping.{release_line-keeps}
use Rattle.card_core.specs.Kept.{RefusalKeeps}
use Rattle.card_core.specs.Kept.{StepReserves}
use Rattle.card_core.proofs.Reserving.{release_line-reserves, step-reserves}
use Rattle.card_core.proofs.serial.Core.release.Goals as goal

pub release_line-requires-clause-there : goal.release_line-requires-clause-there
release_line-requires-clause-there c =
    let l = c.self.inside in
    let there : seating_at l.directory c.args.vc ≡ Some c.in-Some.seating = sym c.in-Some.ensures.seating in
    let within = c.in-Some.ensures.directory.within c.args.vc c.in-Some.seating there in
    omega (arith, within, c.self.invariant.sized)

pub returns-in_default-clause-follows : goal.returns-in_default-clause-follows
returns-in_default-clause-follows c =
    let l = c.self.inside in
    let none : seating_at l.directory c.args.vc ≡ None = sym c.in_default.ensures.seating in
    subst (λ (core : CoreView). Follows core (Release c.args.vc) (Refused NoConnection) core) c.self.view_is
    (release-missing l.shape l.store l.directory l.lines.items l.ports.items c.args.vc none)

pub invariant_of-self : goal.invariant_of-self
invariant_of-self c =
    let l = c.self.inside in
    IsCore-kept l.directory c.release_line.new.directory l.lines.items c.release_line.new.lines.items l.ports.items c.in-Some.seating.line
    c.release_line.ensures.line.next c.self.invariant c.release_line.ensures.lines c.release_line.ensures.line.after

pub returns-clause-follows : goal.returns-clause-follows
returns-clause-follows c =
    let l = c.self.inside in
    let there : seating_at l.directory c.args.vc ≡ Some c.in-Some.seating = sym c.in-Some.ensures.seating in
    let after = c.release_line.new.lines.items in
    let Goal : Reply → CoreView → Type 0 = λ reply old.
    Follows old (Release c.args.vc) reply (core_of l.shape l.store c.release_line.new.directory after l.ports.items) in
    by_result (λ (r : Result PieceView DeskFault). Goal (release_reply r) c.args.self.now) c.release_line.result
    (λ piece is. subst (Goal (Released piece)) c.self.view_is
    (release-goes l.shape l.store l.directory l.lines.items l.ports.items c.args.vc c.in-Some.seating c.release_line.new.directory c.release_line.result after
    there c.release_line.ensures.line piece is))
    (λ fault is. subst (Goal (Refused fault)) c.self.view_is
    (release-never l.shape l.store l.directory l.lines.items l.ports.items c.args.vc c.in-Some.seating c.release_line.new.directory c.release_line.result after
    there c.release_line.ensures.line fault is))

pub returns-clause-unchanged : goal.returns-clause-unchanged
returns-clause-unchanged c =
    let l = c.self.inside in
    let New : CoreView = core_of l.shape l.store c.release_line.new.directory c.release_line.new.lines.items l.ports.items in
    by_result (λ (r : Result PieceView DeskFault). RefusalKeeps (release_reply r) (Release c.args.vc) c.args.self.now New) c.release_line.result
    (λ piece is. tt)
    (λ fault is. subst (λ (old : CoreView). New ≡ old) c.self.view_is
    (release_line-keeps l.shape l.store l.directory l.lines.items l.ports.items c.args.vc c.in-Some.seating
    c.release_line.new.directory c.release_line.result c.release_line.new.lines.items fault
    c.release_line.ensures.line is))

pub returns-clause-reserves : goal.returns-clause-reserves
returns-clause-reserves c =
    let l = c.self.inside in
    let Old : CoreView = core_of l.shape l.store l.directory l.lines.items l.ports.items in
    let New : CoreView = core_of l.shape l.store c.release_line.new.directory c.release_line.new.lines.items l.ports.items in
    subst (λ (old : CoreView). StepReserves (release_reply c.release_line.result) old New) c.self.view_is
    (step-reserves (release_reply c.release_line.result) Old New
    (release_line-reserves Old New l.directory c.release_line.new.directory c.args.vc c.in-Some.seating c.release_line.result c.release_line.ensures.line))
