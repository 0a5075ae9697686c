use Rattle.std.proofs.Common.{◌≡◌, ◌↔◌, None, Result, Ok, Err, IsOk, IsSome, ap, refl, sym, subst, ◌∙◌}
use Rattle.std.specs.Prelude.{IsErrOf}
use Rattle.gen_arena.specs.declared.id.Id.{Id}
use Rattle.gen_arena.specs.Live.{live_value, IsLive}
use Rattle.line_record.specs.Directory.{DirectoryView, seating_at}
use Rattle.card_core.specs.declared.fault.DeskFault.{DeskFault}
use Rattle.card_core.specs.declared.fault.DeskFault.TheVariants.{NoProgram, NoConnection}
use Rattle.card_core.specs.declared.reply.Reply.{Reply}
use Rattle.card_core.specs.declared.reply.Reply.TheVariants.{Reloaded, Refused}
use Rattle.card_core.specs.declared.step.Step.TheVariants.{Reload}
use Rattle.card_core.specs.Agreement.{CoreView, Follows}
use Rattle.card_core.specs.DeskReplies.{reload_reply}
use Rattle.card_core.specs.Kept.{RefusalKeeps}
use Rattle.card_core.proofs.ByResult.{by_result, where_ok, on_err}
use Rattle.card_core.proofs.LookUps.{there_is}
use Rattle.card_core.proofs.PortLemmas.{core_of}
use Rattle.card_core.proofs.DeskSteps.{reload-goes, reload-refused}
use Rattle.card_core.proofs.serial.Core.reload.Goals as goal

pub returns-clause-follows : goal.returns-clause-follows
returns-clause-follows c =
    let l = c.self.inside in
    let vc = c.args.vc in
    let program = c.args.program in
    let e = c.reload.ensures in
    let With : DirectoryView → CoreView = λ directory. core_of l.shape l.store directory l.lines.items l.ports.items in
    let May : Type 0 = IsLive l.store program × IsSome (seating_at l.directory vc) in
    let new = c.reload.new.directory in
    let Goal : Reply → CoreView → Type 0 = λ reply old. Follows old (Reload vc program) reply (With new) in
    by_result (λ (r : Result Id DeskFault). Goal (reload_reply r) c.args.self.now) c.reload.result
    (λ before is.
    let ok : IsOk {E = DeskFault} (Ok before) ↔ May = subst (λ r. IsOk r ↔ May) is e.ok in
    let both = ok.0 refl in
    let seating = there_is (seating_at l.directory vc) both.1 in
    let did = where_ok _ c.reload.result before is e.reloaded seating.0 seating.1 in
    subst (Goal (Reloaded before)) c.self.view_is
    (reload-goes l.shape l.store l.directory l.lines.items l.ports.items vc program new seating.0 before seating.1
    both.0 did.0 did.1 e.used))
    (λ fault is.
    let ok : IsOk {T = Id} (Err fault) ↔ May = subst (λ r. IsOk r ↔ May) is e.ok in
    subst (Goal (Refused fault)) c.self.view_is
    (subst (λ (directory : DirectoryView). Follows (With l.directory) (Reload vc program) (Refused fault) (With directory))
    (sym (on_err _ c.reload.result fault is e.unchanged))
    (reload-refused l.shape l.store l.directory l.lines.items l.ports.items vc program fault
    (subst (λ r. IsErrOf r NoProgram ↔ (live_value l.store program ≡ None)) is e.no_program) (subst (λ r. IsErrOf r NoConnection ↔ (IsLive l.store program × (seating_at l.directory vc ≡ None))) is e.no_connection) (λ both. let no = ok.1 both in cc))))

pub returns-clause-unchanged : goal.returns-clause-unchanged
returns-clause-unchanged c =
    let l = c.self.inside in
    let With : DirectoryView → CoreView = λ directory. core_of l.shape l.store directory l.lines.items l.ports.items in
    by_result (λ (r : Result Id DeskFault). RefusalKeeps (reload_reply r) (Reload c.args.vc c.args.program) c.args.self.now (With c.reload.new.directory)) c.reload.result
    (λ before is. tt)
    (λ fault is. ap With (on_err _ c.reload.result fault is c.reload.ensures.unchanged) ∙ c.self.view_is)
