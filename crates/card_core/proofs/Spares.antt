-- Some replies never come: Stale, and an allocation failure of a step that doesn't allocate.
use Rattle.std.proofs.Common.{◌≡◌, ℕ, ◌^◌, ◌==◌, Bool, true, false, cond, not, ◌∷◌, length, Option, Some, None, is_none, is_some, slice_get, nat_lt, nat_le, refl, sym, subst}
use Rattle.upc_cell.specs.declared.vc.Vc.{Vc}
use Rattle.upc_cell.specs.Connection.{vc_of}
use Rattle.gen_arena.specs.declared.id.Id.{Id}
use Rattle.line_record.specs.History.{last_moment}
use Rattle.card_core.specs.declared.answer.Answer.{Answer}
use Rattle.card_core.specs.declared.answer.Answer.TheVariants.{MomentTooLate, MomentBack, JournalFull}
use Rattle.card_core.specs.declared.answer.Answer.TheVariants as cell_answers
use Rattle.card_core.specs.declared.ask.Ask.{Ask}
use Rattle.card_core.specs.declared.fault.DeskFault.{DeskFault}
use Rattle.card_core.specs.declared.fault.DeskFault.TheVariants.{NoProgram, NoConnection, Taken, NoLine, InUse, ProgramsFull, Exhausted, BadContracts, Busy}
use Rattle.card_core.specs.declared.reply.Reply.{Reply}
use Rattle.card_core.specs.declared.reply.Reply.TheVariants.{NotNow, Answered, NotLoaded, NotSetUp, Refused}
use Rattle.card_core.specs.declared.step.Step.{Step}
use Rattle.card_core.specs.declared.step.Step.TheVariants.{Enter, Pick, Judge, Load, Retire, Setup, Reload, Release, Cut}
use Rattle.card_core.specs.World.{World, Connection, Picking, PortState, outside, entered, picked, code_in, kept_cells, connection_in, is_busy, any_below, is_open_slot, is_open_line, is_named}
use Rattle.card_core.specs.Refusals.{refusal, enter_refusal, pick_refusal, judge_refusal, picking_refusal, cell_refusal, load_fault, retire_fault, setup_fault, reload_fault, missing_fault}
use Rattle.card_core.specs.Steps.{Succeeds, WorldStep}
use Rattle.card_core.specs.Stale.{is_stale, IsNeverStale}
use Rattle.card_core.specs.Agreement.{CoreView, Follows}
use Rattle.card_core.specs.Laws.{is_of_memory, AnswersAsItMay, SomeAnswersNeverCome}
use Rattle.card_core.proofs.LookUps.{same_some, refused_by, mapped}
use Rattle.card_core.specs.declared.fault.DeskFault.TheVariants.{NoMemory}
use Rattle.card_core.specs.World.{opening_world}
use Rattle.card_core.specs.Steps.{without_memory}
use Rattle.card_core.proofs.Allowed.{succeeded, starved, rejected, step-case}
use Rattle.card_core.proofs.Promise.{run-parts}

-- The reply neither reports an allocation failure nor is Stale.
abbrev pub Spares : Reply → Type 0
Spares reply = (is_of_memory reply ≡ false) × (is_stale reply ≡ false)

abbrev CellSpares : Answer → Type 0
CellSpares answer = Spares (Answered answer)

cell-spares : (before : World) (connection : Connection) (moment : ℕ) (answer : Answer)
    → cell_refusal before connection moment ≡ Some answer → CellSpares answer
cell-spares before connection moment =
    refused_by CellSpares (nat_lt (2 ^ 62) moment) MomentTooLate _ (refl, refl)
    (refused_by CellSpares (nat_lt moment (last_moment 0 connection.history)) (MomentBack (last_moment 0 connection.history)) _ (refl, refl)
    (refused_by CellSpares (nat_le before.shape.journal (length (kept_cells connection))) JournalFull _ (refl, refl)
    (refused_by CellSpares (nat_le (2 ^ 62) (length (before.verdicts connection.line))) JournalFull None (refl, refl)
    (λ x e. absurd (cc)))))

picking-spares : (before : World) (picking : Picking) (o : Option Connection) (answer : Answer)
    → picking_refusal before picking o ≡ Some answer → CellSpares answer
picking-spares before picking None answer e = subst CellSpares (same_some cell_answers.Released answer e) (refl, refl)
picking-spares before picking (Some connection) answer e =
    let choice : (b : Bool) → cond b (cell_refusal before connection picking.moment) (Some cell_answers.Released) ≡ Some answer
    → CellSpares answer = elim [
      | true ↦ λ e. cell-spares before connection picking.moment answer e
      | false ↦ λ e. subst CellSpares (same_some cell_answers.Released answer e) (refl, refl)
    ] in
    choice (connection.incarnation == picking.incarnation) e

enter-spares : (o : Option PortState) (refused : Reply) → enter_refusal o ≡ Some refused → Spares refused
enter-spares None refused e = subst Spares (same_some NotNow refused e) (refl, refl)
enter-spares (Some outside) refused e = absurd (cc)
enter-spares (Some (entered cell moment)) refused e = subst Spares (same_some NotNow refused e) (refl, refl)
enter-spares (Some (picked picking)) refused e = subst Spares (same_some NotNow refused e) (refl, refl)

pick-spares : (before : World) (o : Option PortState) (refused : Reply) → pick_refusal before o ≡ Some refused → Spares refused
pick-spares before None refused e = subst Spares (same_some NotNow refused e) (refl, refl)
pick-spares before (Some outside) refused e = subst Spares (same_some NotNow refused e) (refl, refl)
pick-spares before (Some (entered cell moment)) refused e =
    refused_by Spares (is_none (connection_in before.connections (vc_of before.shape.side cell))) (Answered cell_answers.NoConnection) None
    (refl, refl) (λ x e. absurd (cc)) refused e
pick-spares before (Some (picked picking)) refused e = subst Spares (same_some NotNow refused e) (refl, refl)

judge-spares : (before : World) (o : Option PortState) (refused : Reply) → judge_refusal before o ≡ Some refused → Spares refused
judge-spares before None refused e = subst Spares (same_some NotNow refused e) (refl, refl)
judge-spares before (Some outside) refused e = subst Spares (same_some NotNow refused e) (refl, refl)
judge-spares before (Some (entered cell moment)) refused e = subst Spares (same_some NotNow refused e) (refl, refl)
judge-spares before (Some (picked picking)) refused e =
    let found = mapped Answered (picking_refusal before picking (connection_in before.connections picking.vc)) refused e in
    subst Spares (sym found.2) (picking-spares before picking (connection_in before.connections picking.vc) found.0 found.1)

-- An error of the desk, in any reply that returns it.
module _ (reply : DeskFault → Reply) where
  abbrev FaultSpares : DeskFault → Type 0
  FaultSpares fault = Spares (reply fault)

  module _ (busy : FaultSpares Busy) (no_program : FaultSpares NoProgram) (no_connection : FaultSpares NoConnection) (taken : FaultSpares Taken) (no_line : FaultSpares NoLine) (in_use : FaultSpares InUse) (full : FaultSpares ProgramsFull) (exhausted : FaultSpares Exhausted) (bad : FaultSpares BadContracts) where
    load-spares : (before : World) (fault : DeskFault) → load_fault before ≡ Some fault → FaultSpares fault
    load-spares before =
        refused_by FaultSpares (is_busy before) Busy _ busy
        (refused_by FaultSpares (not (any_below before.shape.programs (is_open_slot before))) ProgramsFull None full
        (λ x e. absurd (cc)))

    retire-spares : (before : World) (id : Id) (fault : DeskFault) → retire_fault before id ≡ Some fault → FaultSpares fault
    retire-spares before id =
        refused_by FaultSpares (is_busy before) Busy _ busy
        (refused_by FaultSpares (is_none (code_in before.live id)) NoProgram _ no_program
        (refused_by FaultSpares (is_named before id) InUse None in_use
        (λ x e. absurd (cc))))

    setup-spares : (before : World) (ask : Ask) (fault : DeskFault) → setup_fault before ask ≡ Some fault → FaultSpares fault
    setup-spares before ask =
        refused_by FaultSpares (is_none (code_in before.live ask.program)) NoProgram _ no_program
        (refused_by FaultSpares (is_some (connection_in before.connections ask.vc)) Taken _ taken
        (refused_by FaultSpares (length ask.contracts.items == 0) BadContracts _ bad
        (refused_by FaultSpares (not (any_below before.shape.lines (is_open_line before))) NoLine _ no_line
        (refused_by FaultSpares (nat_le (2 ^ 62) before.incarnations) Exhausted None exhausted
        (λ x e. absurd (cc))))))

    reload-spares : (before : World) (vc : Vc) (program : Id) (fault : DeskFault) → reload_fault before vc program ≡ Some fault → FaultSpares fault
    reload-spares before vc program =
        refused_by FaultSpares (is_none (code_in before.live program)) NoProgram _ no_program
        (refused_by FaultSpares (is_none (connection_in before.connections vc)) NoConnection None no_connection
        (λ x e. absurd (cc)))

    missing-spares : (before : World) (vc : Vc) (fault : DeskFault) → missing_fault before vc ≡ Some fault → FaultSpares fault
    missing-spares before vc =
        refused_by FaultSpares (is_none (connection_in before.connections vc)) NoConnection None no_connection
        (λ x e. absurd (cc))

pub refused-spares : (before : World) (step : Step) (refused : Reply) → refusal before step ≡ Some refused → Spares refused
refused-spares before (Enter port cell moment) refused e = enter-spares (slice_get before.ports port) refused e
refused-spares before (Pick port) refused e = pick-spares before (slice_get before.ports port) refused e
refused-spares before (Judge port) refused e = judge-spares before (slice_get before.ports port) refused e
refused-spares before (Load code) refused e =
    let reply : DeskFault → Reply = λ fault. NotLoaded fault code in
    let found = mapped reply (load_fault before) refused e in
    subst Spares (sym found.2) (load-spares reply (refl, refl) (refl, refl) (refl, refl) (refl, refl) (refl, refl) (refl, refl) (refl, refl) (refl, refl) (refl, refl) before found.0 found.1)
refused-spares before (Retire id) refused e =
    let found = mapped Refused (retire_fault before id) refused e in
    subst Spares (sym found.2) (retire-spares Refused (refl, refl) (refl, refl) (refl, refl) (refl, refl) (refl, refl) (refl, refl) (refl, refl) (refl, refl) (refl, refl) before id found.0 found.1)
refused-spares before (Setup ask) refused e =
    let reply : DeskFault → Reply = λ fault. NotSetUp fault ask in
    let found = mapped reply (setup_fault before ask) refused e in
    subst Spares (sym found.2) (setup-spares reply (refl, refl) (refl, refl) (refl, refl) (refl, refl) (refl, refl) (refl, refl) (refl, refl) (refl, refl) (refl, refl) before ask found.0 found.1)
refused-spares before (Reload vc program) refused e =
    let found = mapped Refused (reload_fault before vc program) refused e in
    subst Spares (sym found.2) (reload-spares Refused (refl, refl) (refl, refl) (refl, refl) (refl, refl) (refl, refl) (refl, refl) (refl, refl) (refl, refl) (refl, refl) before vc program found.0 found.1)
refused-spares before (Release vc) refused e =
    let found = mapped Refused (missing_fault before vc) refused e in
    subst Spares (sym found.2) (missing-spares Refused (refl, refl) (refl, refl) (refl, refl) (refl, refl) (refl, refl) (refl, refl) (refl, refl) (refl, refl) (refl, refl) before vc found.0 found.1)
refused-spares before (Cut vc) refused e =
    let found = mapped Refused (missing_fault before vc) refused e in
    subst Spares (sym found.2) (missing-spares Refused (refl, refl) (refl, refl) (refl, refl) (refl, refl) (refl, refl) (refl, refl) (refl, refl) (refl, refl) (refl, refl) before vc found.0 found.1)

-- Every step with every reply has this property.

success-spares : (before : World) (step : Step) (reply : Reply) (after : World) → Succeeds before step reply after → Spares reply
success-spares before (Enter port cell moment) reply after w = subst Spares (sym w.answer) (refl, refl)
success-spares before (Pick port) reply after w = subst Spares (sym w.answer) (refl, refl)
success-spares before (Judge port) reply after w = subst Spares (sym w.answer) (refl, refl)
success-spares before (Load code) reply after w = subst Spares (sym w.answer) (refl, refl)
success-spares before (Retire id) reply after w = subst Spares (sym w.answer) (refl, refl)
success-spares before (Setup ask) reply after w = subst Spares (sym w.answer) (refl, refl)
success-spares before (Reload vc program) reply after w = subst Spares (sym w.answer) (refl, refl)
success-spares before (Release vc) reply after w = subst Spares (sym w.answer) (refl, refl)
success-spares before (Cut vc) reply after w = subst Spares (sym w.answer) (refl, refl)

plainly : (step : Step) (reply : Reply) → Spares reply → AnswersAsItMay (record { step = step; reply = reply })
plainly step reply spares = record {
  never_stale = spares.1;
  memory = λ e. let none = spares.0 in absurd (cc);
}

-- A step that fails to allocate is one that may allocate.
starved-spares : (step : Step) (reply : Reply) → without_memory step ≡ Some reply → AnswersAsItMay (record { step = step; reply = reply })
starved-spares (Setup ask) reply e =
    subst (λ (r : Reply). AnswersAsItMay (record { step = Setup ask; reply = r })) (same_some (NotSetUp NoMemory ask) reply e)
    (record { never_stale = refl; memory = λ e. refl })
starved-spares (Cut vc) reply e =
    subst (λ (r : Reply). AnswersAsItMay (record { step = Cut vc; reply = r })) (same_some (Refused NoMemory) reply e)
    (record { never_stale = refl; memory = λ e. refl })
starved-spares _ reply e = absurd (cc)

step-spares : (before : World) (step : Step) (reply : Reply) (after : World) → WorldStep before step reply after
    → AnswersAsItMay (record { step = step; reply = reply })
step-spares before step reply after w = elim (step-case before step reply after w) [
  | succeeded allowed success ↦ plainly step reply (success-spares before step reply after success)
  | starved memory ↦ starved-spares step reply memory.answer
  | rejected refused e refusing ↦ plainly step reply (subst Spares (sym refusing.answer) (refused-spares before step refused e))
]

pub some-never : SomeAnswersNeverCome
some-never shape before after event is =
    let parts = run-parts (opening_world shape) before (event ∷ after) is.0 is.1 in
    step-spares parts.0 event.step event.reply parts.2.0 parts.2.1

pub never-stale : (old new : CoreView) (step : Step) (reply : Reply) → Follows old step reply new → IsNeverStale old reply
never-stale old new step reply goes shape log before leads agrees =
    let on = goes shape log before leads agrees in
    (step-spares before step reply on.after on.stepped).never_stale
