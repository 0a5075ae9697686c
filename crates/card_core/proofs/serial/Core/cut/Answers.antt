use Rattle.std.proofs.Common.{◌≡◌, Result, Some, None, refl, sym, subst, arith}
use Rattle.line_record.specs.Directory.{seating_at}
use Rattle.line_record.specs.Piece.{PieceView}
use Rattle.card_core.specs.declared.fault.DeskFault.{DeskFault}
use Rattle.card_core.specs.declared.fault.DeskFault.TheVariants.{NoConnection}
use Rattle.card_core.specs.declared.reply.Reply.{Reply}
use Rattle.card_core.specs.declared.reply.Reply.TheVariants.{Cut as CutOff, Refused}
use Rattle.card_core.specs.declared.step.Step.TheVariants.{Cut}
use Rattle.card_core.specs.Agreement.{CoreView, Follows}
use Rattle.card_core.specs.DeskReplies.{cut_reply}
use Rattle.card_core.proofs.ByResult.{by_result}
use Rattle.card_core.proofs.PortLemmas.{core_of, IsCore-kept}
use Rattle.card_core.proofs.DeskSteps.{cut-missing, cut-goes, cut-refused}
use Rattle.card_core.proofs.Keeping.{cut_line-keeps}
use Rattle.card_core.specs.Kept.{RefusalKeeps}
use Rattle.card_core.specs.Kept.{StepReserves}
use Rattle.card_core.proofs.Reserving.{cut_line-reserves, step-reserves}
use Rattle.card_core.proofs.serial.Core.cut.Goals as goal

pub cut_line-requires : goal.cut_line-requires
cut_line-requires c =
    let l = c.self.inside in
    let there : seating_at l.directory c.args.vc ≡ Some c.in-Some.seating = sym c.in-Some.ensures.seating in
    let within = c.in-Some.ensures.directory.within c.args.vc c.in-Some.seating there in
    omega (arith, within, c.self.invariant.sized)

pub returns-in_default-clause-follows : goal.returns-in_default-clause-follows
returns-in_default-clause-follows c =
    let l = c.self.inside in
    let none : seating_at l.directory c.args.vc ≡ None = sym c.in_default.ensures.seating in
    subst (λ (core : CoreView). Follows core (Cut c.args.vc) (Refused NoConnection) core) c.self.view_is
    (cut-missing l.shape l.store l.directory l.lines.items l.ports.items c.args.vc none)

pub invariant_of-self : goal.invariant_of-self
invariant_of-self c =
    let l = c.self.inside in
    IsCore-kept l.directory l.directory l.lines.items c.cut_line.new.lines.items l.ports.items c.in-Some.seating.line
    c.cut_line.ensures.next c.self.invariant refl c.cut_line.ensures.after

pub returns-clause-follows : goal.returns-clause-follows
returns-clause-follows c =
    let l = c.self.inside in
    let there : seating_at l.directory c.args.vc ≡ Some c.in-Some.seating = sym c.in-Some.ensures.seating in
    let after = c.cut_line.new.lines.items in
    let Goal : Reply → CoreView → Type 0 = λ reply old.
    Follows old (Cut c.args.vc) reply (core_of l.shape l.store l.directory after l.ports.items) in
    by_result (λ (r : Result PieceView DeskFault). Goal (cut_reply r) c.args.self.now) c.cut_line.result
    (λ piece is. subst (Goal (CutOff piece)) c.self.view_is
    (cut-goes l.shape l.store l.directory l.lines.items l.ports.items c.args.vc c.in-Some.seating c.cut_line.result after
    there c.cut_line.ensures piece is))
    (λ fault is. subst (Goal (Refused fault)) c.self.view_is
    (cut-refused l.shape l.store l.directory l.lines.items l.ports.items c.args.vc c.in-Some.seating c.cut_line.result after
    there c.cut_line.ensures fault is))

pub returns-clause-unchanged : goal.returns-clause-unchanged
returns-clause-unchanged c =
    let l = c.self.inside in
    let New : CoreView = core_of l.shape l.store l.directory c.cut_line.new.lines.items l.ports.items in
    by_result (λ (r : Result PieceView DeskFault). RefusalKeeps (cut_reply r) (Cut c.args.vc) c.args.self.now New) c.cut_line.result
    (λ piece is. tt)
    (λ fault is. subst (λ (old : CoreView). New ≡ old) c.self.view_is
    (cut_line-keeps l.shape l.store l.directory l.lines.items l.ports.items c.args.vc c.in-Some.seating
    c.cut_line.result c.cut_line.new.lines.items fault
    c.cut_line.ensures is))

pub returns-clause-reserves : goal.returns-clause-reserves
returns-clause-reserves c =
    let l = c.self.inside in
    let New : CoreView = core_of l.shape l.store l.directory c.cut_line.new.lines.items l.ports.items in
    subst (λ (old : CoreView). StepReserves (cut_reply c.cut_line.result) old New) c.self.view_is
    (step-reserves (cut_reply c.cut_line.result) (core_of l.shape l.store l.directory l.lines.items l.ports.items) New
    (cut_line-reserves (core_of l.shape l.store l.directory l.lines.items l.ports.items) New c.args.vc c.in-Some.seating c.cut_line.result c.cut_line.ensures))
