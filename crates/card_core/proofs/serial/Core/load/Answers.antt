use Rattle.std.proofs.Common.{◌↔◌, Some, None, IsErr, refl, ◌≡◌, true, false, List, Result, Ok, ap, sym, subst, ◌∙◌}
use Rattle.std.specs.Prelude.{MatchResult, IfOk, OnErr}
use Rattle.std.specs.List.{list_all}
use Rattle.gen_arena.specs.Free.{free_slots}
use Rattle.bpf_code.specs.declared.instr.Instr.{Instr}
use Rattle.gen_arena.specs.declared.id.Id.{Id}
use Rattle.gen_arena.specs.Slot.{Slot}
use Rattle.card_core.specs.declared.fault.DeskFault.{DeskFault}
use Rattle.card_core.specs.declared.fault.DeskFault.TheVariants.{Busy, ProgramsFull}
use Rattle.card_core.specs.declared.reply.Reply.{Reply}
use Rattle.card_core.specs.declared.reply.Reply.TheVariants.{Loaded, NotLoaded}
use Rattle.card_core.specs.declared.step.Step.TheVariants.{Load}
use Rattle.card_core.specs.Agreement.{CoreView, Follows}
use Rattle.card_core.specs.DeskReplies.{load_reply}
use Rattle.card_core.specs.Kept.{RefusalKeeps}
use Rattle.card_core.specs.inner.Ports.{is_free_port}
use Rattle.card_core.proofs.ByResult.{by_result, where_ok, where_err, on_err}
use Rattle.card_core.specs.Inspection.{load_fault_of, PutsIn}
use Rattle.card_core.proofs.Inspecting.{load-fault-busy, load-fault-full, load-fault-none, never-err, puts-in}
use Rattle.card_core.proofs.PortLemmas.{core_of}
use Rattle.card_core.proofs.StoreSteps.{load-busy, load-full, load-goes}
use Rattle.card_core.proofs.serial.Core.load.Goals as goal

pub returns-then-not-are_outside-clause-follows : goal.returns-then-not-are_outside-clause-follows
returns-then-not-are_outside-clause-follows c =
    let l = c.self.inside in
    let some : list_all is_free_port l.ports.items ≡ false =
    let test = c.are_outside.ensures in let same = c.deref.ensures.value in let is = c.if-not-are_outside.true in cc in
    subst (λ (core : CoreView). Follows core (Load c.args.program) (NotLoaded Busy c.args.program) core) c.self.view_is
    (load-busy l.shape l.store l.directory l.lines.items l.ports.items c.args.program some)

pub returns-clause-follows : goal.returns-clause-follows
returns-clause-follows c =
    let l = c.self.inside in
    let code = c.args.program in
    let e = c.load.ensures in
    let free : list_all is_free_port l.ports.items ≡ true =
    let test = c.are_outside.ensures in let same = c.deref.ensures.value in let is = c.if-not-are_outside.false in cc in
    let With : List (Slot (List Instr)) → CoreView = λ store. core_of l.shape store l.directory l.lines.items l.ports.items in
    let Goal : Reply → CoreView → Type 0 = λ reply old. Follows old (Load code) reply (With c.load.new.store) in
    by_result (λ (r : Result Id (DeskFault × List Instr)). Goal (load_reply r) c.args.self.now) c.load.result
    (λ id is. subst (Goal (Loaded id)) c.self.view_is
    (load-goes l.shape l.store l.directory l.lines.items l.ports.items code c.load.new.store id free e.accepted
    (where_ok _ c.load.result id is e.loaded)))
    (λ refused is.
    let fault = where_err _ c.load.result refused is e.fault in
    let returned = where_err _ c.load.result refused is e.returned in
    let reply : NotLoaded ProgramsFull code ≡ NotLoaded refused.0 refused.1 =
    ap (λ (f : DeskFault). NotLoaded f code) (sym fault) ∙ ap (NotLoaded refused.0) (sym returned) in
    subst (λ (reply : Reply). Goal reply c.args.self.now) reply
    (subst (Goal (NotLoaded ProgramsFull code)) c.self.view_is
    (subst (λ (store : List (Slot (List Instr))). Follows (With l.store) (Load code) (NotLoaded ProgramsFull code) (With store))
    (sym (on_err _ c.load.result refused is e.unchanged))
    (load-full l.shape l.store l.directory l.lines.items l.ports.items code free (on_err _ c.load.result refused is e.none_is_free)))))

pub returns-clause-unchanged : goal.returns-clause-unchanged
returns-clause-unchanged c =
    let l = c.self.inside in
    let With : List (Slot (List Instr)) → CoreView = λ store. core_of l.shape store l.directory l.lines.items l.ports.items in
    by_result (λ (r : Result Id (DeskFault × List Instr)). RefusalKeeps (load_reply r) (Load c.args.program) c.args.self.now (With c.load.new.store)) c.load.result
    (λ id is. tt)
    (λ refused is. ap With (on_err _ c.load.result refused is c.load.ensures.unchanged) ∙ c.self.view_is)

pub returns-then-not-are_outside-clause-fault : goal.returns-then-not-are_outside-clause-fault
returns-then-not-are_outside-clause-fault c =
    let l = c.self.inside in
    let some : list_all is_free_port l.ports.items ≡ false =
    let test = c.are_outside.ensures in let same = c.deref.ensures.value in let is = c.if-not-are_outside.true in cc in
    subst (λ (core : CoreView). load_fault_of core ≡ Some Busy) c.self.view_is
    (load-fault-busy l.shape l.store l.directory l.lines.items l.ports.items some)

pub returns-clause-fault : goal.returns-clause-fault
returns-clause-fault c =
    let l = c.self.inside in
    let e = c.load.ensures in
    let free : list_all is_free_port l.ports.items ≡ true =
    let test = c.are_outside.ensures in let same = c.deref.ensures.value in let is = c.if-not-are_outside.false in cc in
    let Goal : Result Id (DeskFault × List Instr) → CoreView → Type 0 = λ r old. MatchResult r
    (λ _. load_fault_of old ≡ None)
    (λ refused. load_fault_of old ≡ Some refused.0) in
    subst (Goal c.load.result) c.self.view_is
    (by_result (λ (r : Result Id (DeskFault × List Instr)). Goal r (core_of l.shape l.store l.directory l.lines.items l.ports.items)) c.load.result
    (λ id is. load-fault-none l.shape l.store l.directory l.lines.items l.ports.items free
    (λ full.
    let refused : IsErr {E = DeskFault × List Instr} (Ok id) ↔ (free_slots l.store ≡ 0) = subst (λ (r : Result Id (DeskFault × List Instr)). IsErr r ↔ (free_slots l.store ≡ 0)) is e.full in
    never-err (DeskFault × List Instr) id (refused.1 full)))
    (λ refused is.
    let full : IsErr c.load.result → free_slots l.store ≡ 0 = e.full.0 in
    load-fault-full l.shape l.store l.directory l.lines.items l.ports.items free (full (subst (λ (r : Result Id (DeskFault × List Instr)). IsErr r) (sym is) refl))
    ∙ ap Some (sym (where_err _ c.load.result refused is e.fault))))

pub returns-clause-put_in : goal.returns-clause-put_in
returns-clause-put_in c =
    let l = c.self.inside in
    let New : CoreView = core_of l.shape c.load.new.store l.directory l.lines.items l.ports.items in
    by_result (λ (r : Result Id (DeskFault × List Instr)). IfOk r (λ id. PutsIn c.args.self.now id c.args.program New)) c.load.result
    (λ id is. subst (λ (core : CoreView). PutsIn core id c.args.program New) c.self.view_is
    (puts-in l.shape l.store l.directory l.lines.items l.ports.items c.load.new.store id c.args.program
    (where_ok _ c.load.result id is c.load.ensures.loaded)))
    (λ refused is. tt)

pub returns-clause-kept : goal.returns-clause-kept
returns-clause-kept c =
    let l = c.self.inside in
    let With : List (Slot (List Instr)) → CoreView = λ store. core_of l.shape store l.directory l.lines.items l.ports.items in
    by_result (λ (r : Result Id (DeskFault × List Instr)). OnErr r (With c.load.new.store ≡ c.args.self.now)) c.load.result
    (λ id is. tt)
    (λ refused is. ap With (on_err _ c.load.result refused is c.load.ensures.unchanged) ∙ c.self.view_is)
