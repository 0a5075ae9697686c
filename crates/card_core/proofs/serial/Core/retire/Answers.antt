use Rattle.std.proofs.Common.{◌≡◌, ◌↔◌, Some, None, true, false, List, Result, Ok, Err, IsOk, ap, refl, sym, subst, ◌∙◌}
use Rattle.std.specs.Prelude.{IsErrOf, MatchResult, IfOk, OnErr}
use Rattle.std.specs.List.{list_all}
use Rattle.bpf_code.specs.declared.instr.Instr.{Instr}
use Rattle.gen_arena.specs.Live.{live_value, IsLive}
use Rattle.gen_arena.specs.Slot.{Slot}
use Rattle.line_record.specs.Directory.{IsNamed}
use Rattle.card_core.specs.declared.fault.DeskFault.{DeskFault}
use Rattle.card_core.specs.declared.fault.DeskFault.TheVariants.{Busy, NoProgram, InUse}
use Rattle.card_core.specs.declared.reply.Reply.{Reply}
use Rattle.card_core.specs.declared.reply.Reply.TheVariants.{Retired, Refused}
use Rattle.card_core.specs.declared.step.Step.TheVariants.{Retire}
use Rattle.card_core.specs.Agreement.{CoreView, Follows}
use Rattle.card_core.specs.DeskReplies.{retire_reply}
use Rattle.card_core.specs.Kept.{RefusalKeeps}
use Rattle.card_core.specs.inner.Ports.{is_free_port}
use Rattle.card_core.proofs.ByResult.{by_result, where_ok, on_err}
use Rattle.card_core.specs.Inspection.{has_cell, IsRetireFault, TakesOut}
use Rattle.card_core.proofs.Inspecting.{has-cell, never-ok, retire-why, takes-out}
use Rattle.card_core.proofs.PortLemmas.{core_of}
use Rattle.card_core.proofs.StoreSteps.{retire-busy, retire-refused, retire-goes}
use Rattle.card_core.proofs.serial.Core.retire.Goals as goal

pub returns-then-not-are_outside-clause-follows : goal.returns-then-not-are_outside-clause-follows
returns-then-not-are_outside-clause-follows c =
    let l = c.self.inside in
    let some : list_all is_free_port l.ports.items ≡ false =
    let test = c.are_outside.ensures in let same = c.deref.ensures.value in let is = c.if-not-are_outside.true in cc in
    subst (λ (core : CoreView). Follows core (Retire c.args.id) (Refused Busy) core) c.self.view_is
    (retire-busy l.shape l.store l.directory l.lines.items l.ports.items c.args.id some)

pub returns-clause-follows : goal.returns-clause-follows
returns-clause-follows c =
    let l = c.self.inside in
    let id = c.args.id in
    let e = c.retire.ensures in
    let free : list_all is_free_port l.ports.items ≡ true =
    let test = c.are_outside.ensures in let same = c.deref.ensures.value in let is = c.if-not-are_outside.false in cc in
    let With : List (Slot (List Instr)) → CoreView = λ store. core_of l.shape store l.directory l.lines.items l.ports.items in
    let May : Type 0 = IsLive l.store id × (IsNamed l.directory id → ⊥) in
    let Goal : Reply → CoreView → Type 0 = λ reply old. Follows old (Retire id) reply (With c.retire.new.store) in
    by_result (λ (r : Result (List Instr) DeskFault). Goal (retire_reply r) c.args.self.now) c.retire.result
    (λ program is.
    let ok : IsOk {E = DeskFault} (Ok program) ↔ May = subst (λ r. IsOk r ↔ May) is e.ok in
    subst (Goal (Retired program)) c.self.view_is
    (retire-goes l.shape l.store l.directory l.lines.items l.ports.items id c.retire.new.store program free
    (where_ok _ c.retire.result program is e.retired) (ok.0 refl).1))
    (λ fault is.
    let ok : IsOk {T = List Instr} (Err fault) ↔ May = subst (λ r. IsOk r ↔ May) is e.ok in
    subst (Goal (Refused fault)) c.self.view_is
    (subst (λ (store : List (Slot (List Instr))). Follows (With l.store) (Retire id) (Refused fault) (With store))
    (sym (on_err _ c.retire.result fault is e.unchanged))
    (retire-refused l.shape l.store l.directory l.lines.items l.ports.items id fault free
    (subst (λ r. IsErrOf r NoProgram ↔ (live_value l.store id ≡ None)) is e.no_program) (subst (λ r. IsErrOf r InUse ↔ (IsLive l.store id × IsNamed l.directory id)) is e.in_use) (λ both. let no = ok.1 both in cc))))

pub returns-clause-unchanged : goal.returns-clause-unchanged
returns-clause-unchanged c =
    let l = c.self.inside in
    let With : List (Slot (List Instr)) → CoreView = λ store. core_of l.shape store l.directory l.lines.items l.ports.items in
    by_result (λ (r : Result (List Instr) DeskFault). RefusalKeeps (retire_reply r) (Retire c.args.id) c.args.self.now (With c.retire.new.store)) c.retire.result
    (λ program is. tt)
    (λ fault is. ap With (on_err _ c.retire.result fault is c.retire.ensures.unchanged) ∙ c.self.view_is)

pub returns-then-not-are_outside-clause-fault : goal.returns-then-not-are_outside-clause-fault
returns-then-not-are_outside-clause-fault c =
    let l = c.self.inside in
    let some : list_all is_free_port l.ports.items ≡ false =
    let test = c.are_outside.ensures in let same = c.deref.ensures.value in let is = c.if-not-are_outside.true in cc in
    subst (λ (core : CoreView). has_cell core ≡ true) c.self.view_is
    (has-cell l.shape l.store l.directory l.lines.items l.ports.items false some)

pub returns-clause-fault : goal.returns-clause-fault
returns-clause-fault c =
    let l = c.self.inside in
    let id = c.args.id in
    let e = c.retire.ensures in
    let free : list_all is_free_port l.ports.items ≡ true =
    let test = c.are_outside.ensures in let same = c.deref.ensures.value in let is = c.if-not-are_outside.false in cc in
    let May : Type 0 = IsLive l.store id × (IsNamed l.directory id → ⊥) in
    let Old : CoreView = core_of l.shape l.store l.directory l.lines.items l.ports.items in
    let none : has_cell Old ≡ false = has-cell l.shape l.store l.directory l.lines.items l.ports.items true free in
    let Goal : Result (List Instr) DeskFault → CoreView → Type 0 = λ r old. MatchResult r
    (λ _. IsRetireFault old id None)
    (λ fault. IsRetireFault old id (Some fault)) in
    subst (Goal c.retire.result) c.self.view_is
    (by_result (λ (r : Result (List Instr) DeskFault). Goal r Old) c.retire.result
    (λ program is.
    let ok : IsOk {E = DeskFault} (Ok program) ↔ May = subst (λ r. IsOk r ↔ May) is e.ok in
    let may = ok.0 refl in
    (none, may.0, may.1))
    (λ fault is. retire-why l.shape l.store l.directory l.lines.items l.ports.items id fault none
    (subst (λ r. IsErrOf r NoProgram ↔ (live_value l.store id ≡ None)) is e.no_program)
    (subst (λ r. IsErrOf r InUse ↔ (IsLive l.store id × IsNamed l.directory id)) is e.in_use)
    (λ may.
    let ok : IsOk {T = List Instr} (Err fault) ↔ May = subst (λ r. IsOk r ↔ May) is e.ok in
    never-ok (List Instr) fault (ok.1 may))))

pub returns-clause-taken_out : goal.returns-clause-taken_out
returns-clause-taken_out c =
    let l = c.self.inside in
    let New : CoreView = core_of l.shape c.retire.new.store l.directory l.lines.items l.ports.items in
    by_result (λ (r : Result (List Instr) DeskFault). IfOk r (λ program. TakesOut c.args.self.now c.args.id program New)) c.retire.result
    (λ program is. subst (λ (core : CoreView). TakesOut core c.args.id program New) c.self.view_is
    (takes-out l.shape l.store l.directory l.lines.items l.ports.items c.retire.new.store c.args.id program
    (where_ok _ c.retire.result program is c.retire.ensures.retired)))
    (λ fault is. tt)

pub returns-clause-kept : goal.returns-clause-kept
returns-clause-kept c =
    let l = c.self.inside in
    let With : List (Slot (List Instr)) → CoreView = λ store. core_of l.shape store l.directory l.lines.items l.ports.items in
    by_result (λ (r : Result (List Instr) DeskFault). OnErr r (With c.retire.new.store ≡ c.args.self.now)) c.retire.result
    (λ program is. tt)
    (λ fault is. ap With (on_err _ c.retire.result fault is c.retire.ensures.unchanged) ∙ c.self.view_is)
