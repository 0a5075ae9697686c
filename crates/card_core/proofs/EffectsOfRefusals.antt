-- A refused step, and one that fails to allocate, changes nothing but that a port moved.
use Rattle.std.proofs.Common.{◌≡◌, ℕ, ◌^◌, ◌==◌, Bool, true, false, cond, length, set, Option, Some, None, slice_get, is_none, nat_lt, nat_le, refl, sym, subst}
use Rattle.upc_cell.specs.Connection.{vc_of}
use Rattle.line_record.specs.History.{last_moment}
use Rattle.card_core.specs.declared.answer.Answer.{Answer}
use Rattle.card_core.specs.declared.answer.Answer.TheVariants.{MomentTooLate, MomentBack, JournalFull}
use Rattle.card_core.specs.declared.answer.Answer.TheVariants as cell_answers
use Rattle.card_core.specs.declared.fault.DeskFault.TheVariants.{NoMemory}
use Rattle.card_core.specs.declared.reply.Reply.{Reply}
use Rattle.card_core.specs.declared.reply.Reply.TheVariants.{NotNow, Answered, NotLoaded, NotSetUp, Refused}
use Rattle.card_core.specs.declared.shape.Shape.{Shape}
use Rattle.card_core.specs.declared.step.Step.{Step}
use Rattle.card_core.specs.declared.step.Step.TheVariants.{Enter, Pick, Judge, Load, Retire, Setup, Reload, Release, Cut}
use Rattle.card_core.specs.World.{World, Connection, Picking, PortState, outside, entered, picked, kept_cells, connection_in, with_port}
use Rattle.card_core.specs.Refusals.{refusal, enter_refusal, pick_refusal, judge_refusal, picking_refusal, cell_refusal, load_fault, retire_fault, setup_fault, reload_fault, missing_fault}
use Rattle.card_core.specs.Steps.{without_memory}
use Rattle.card_core.proofs.LeftLemmas.{with_answered, left_with}
use Rattle.card_core.specs.Judged.{judged_in_answer}
use Rattle.card_core.specs.Headline.{is_at, moves}
use Rattle.card_core.proofs.LogLemmas.{event_of}
use Rattle.card_core.proofs.Effects.{ports-same, ports-moved, StepEffects}
use Rattle.card_core.proofs.LookUps.{same_some, refused_by, mapped}
use Rattle.card_core.proofs.EffectsOfCells.{IsQuiet, quiet-not_now, quiet-answered, quiet-refused, quiet-not_loaded, quiet-not_set_up, effects-quiet}

abbrev pub IsUnjudged : Answer → Type 0
IsUnjudged answer = judged_in_answer answer ≡ None

-- The replies of a refused Pick or Judge.
pub data CellRefused (refused : Reply) : Type 0 where
  at_no_time : refused ≡ NotNow → CellRefused refused
  with_answer : (answer : Answer) → refused ≡ Answered answer → IsUnjudged answer → CellRefused refused

enter-refused : (o : Option PortState) (refused : Reply) → enter_refusal o ≡ Some refused → refused ≡ NotNow
enter-refused None refused e = sym (same_some NotNow refused e)
enter-refused (Some outside) refused e = absurd (cc)
enter-refused (Some (entered cell moment)) refused e = sym (same_some NotNow refused e)
enter-refused (Some (picked picking)) refused e = sym (same_some NotNow refused e)

pub pick-refused : (before : World) (o : Option PortState) (refused : Reply) → pick_refusal before o ≡ Some refused → CellRefused refused
pick-refused before None refused e = at_no_time (sym (same_some NotNow refused e))
pick-refused before (Some outside) refused e = at_no_time (sym (same_some NotNow refused e))
pick-refused before (Some (entered cell moment)) refused e =
    refused_by CellRefused (is_none (connection_in before.connections (vc_of before.shape.side cell))) (Answered cell_answers.NoConnection) None
    (with_answer cell_answers.NoConnection refl refl) (λ x e. absurd (cc)) refused e
pick-refused before (Some (picked picking)) refused e = at_no_time (sym (same_some NotNow refused e))

cell-refused : (before : World) (connection : Connection) (moment : ℕ) (answer : Answer)
    → cell_refusal before connection moment ≡ Some answer → IsUnjudged answer
cell-refused before connection moment =
    refused_by IsUnjudged (nat_lt (2 ^ 62) moment) MomentTooLate _ refl
    (refused_by IsUnjudged (nat_lt moment (last_moment 0 connection.history)) (MomentBack (last_moment 0 connection.history)) _ refl
    (refused_by IsUnjudged (nat_le before.shape.journal (length (kept_cells connection))) JournalFull _ refl
    (refused_by IsUnjudged (nat_le (2 ^ 62) (length (before.verdicts connection.line))) JournalFull None refl
    (λ x e. absurd (cc)))))

picking-refused : (before : World) (picking : Picking) (o : Option Connection) (answer : Answer)
    → picking_refusal before picking o ≡ Some answer → IsUnjudged answer
picking-refused before picking None answer e = subst IsUnjudged (same_some cell_answers.Released answer e) refl
picking-refused before picking (Some connection) answer e =
    let choice : (b : Bool) → cond b (cell_refusal before connection picking.moment) (Some cell_answers.Released) ≡ Some answer
    → IsUnjudged answer = elim [
      | true ↦ λ e. cell-refused before connection picking.moment answer e
      | false ↦ λ e. subst IsUnjudged (same_some cell_answers.Released answer e) refl
    ] in
    choice (connection.incarnation == picking.incarnation) e

pub judge-refused : (before : World) (o : Option PortState) (refused : Reply) → judge_refusal before o ≡ Some refused → CellRefused refused
judge-refused before None refused e = at_no_time (sym (same_some NotNow refused e))
judge-refused before (Some outside) refused e = at_no_time (sym (same_some NotNow refused e))
judge-refused before (Some (entered cell moment)) refused e = at_no_time (sym (same_some NotNow refused e))
judge-refused before (Some (picked picking)) refused e =
    let found = mapped Answered (picking_refusal before picking (connection_in before.connections picking.vc)) refused e in
    with_answer found.0 found.2 (picking-refused before picking (connection_in before.connections picking.vc) found.0 found.1)

-- A step that leaves the world unchanged, with a reply that shows no change.
effects-nothing : (shape : Shape) (before : World) (step : Step) (reply : Reply) → IsQuiet reply → ((port : ℕ) → moves port (event_of step reply) ≡ false)
    → StepEffects shape before step reply before
effects-nothing shape before step reply quiet still =
    effects-quiet shape before step reply before.ports quiet (ports-same before before step reply refl still)

-- A refused Pick or Judge.
effects-cell_refused : (shape : Shape) (before : World) (step : Step) (port : ℕ) (refused : Reply) → ((other : ℕ) → is_at other step ≡ (other == port))
    → CellRefused refused → StepEffects shape before step refused (with_answered before port refused)
effects-cell_refused shape before step port refused at (at_no_time is) =
    subst (λ (r : Reply). StepEffects shape before step r (with_answered before port r)) (sym is)
    (effects-nothing shape before step NotNow quiet-not_now (λ port. refl))
effects-cell_refused shape before step port refused at (with_answer answer is unjudged) =
    subst (λ (r : Reply). StepEffects shape before step r (with_answered before port r)) (sym is)
    (effects-quiet shape before step (Answered answer) (set before.ports port outside) (quiet-answered answer unjudged)
    (ports-moved before (with_port before port outside) step (Answered answer) port outside refl at
    (λ cell moment e. absurd (cc)) (λ picking e. absurd (cc))))

pub effects-refused : (shape : Shape) (before : World) (step : Step) (refused : Reply) → refusal before step ≡ Some refused
    → StepEffects shape before step refused (left_with before step refused)
effects-refused shape before (Enter port cell moment) refused e =
    subst (λ (r : Reply). StepEffects shape before (Enter port cell moment) r before)
    (sym (enter-refused (slice_get before.ports port) refused e))
    (effects-nothing shape before (Enter port cell moment) NotNow quiet-not_now (λ port. refl))
effects-refused shape before (Pick port) refused e =
    effects-cell_refused shape before (Pick port) port refused (λ other. refl) (pick-refused before (slice_get before.ports port) refused e)
effects-refused shape before (Judge port) refused e =
    effects-cell_refused shape before (Judge port) port refused (λ other. refl) (judge-refused before (slice_get before.ports port) refused e)
effects-refused shape before (Load code) refused e =
    let found = mapped (λ fault. NotLoaded fault code) (load_fault before) refused e in
    subst (λ (r : Reply). StepEffects shape before (Load code) r before) (sym found.2)
    (effects-nothing shape before (Load code) (NotLoaded found.0 code) (quiet-not_loaded found.0 code) (λ port. refl))
effects-refused shape before (Retire id) refused e =
    let found = mapped Refused (retire_fault before id) refused e in
    subst (λ (r : Reply). StepEffects shape before (Retire id) r before) (sym found.2)
    (effects-nothing shape before (Retire id) (Refused found.0) (quiet-refused found.0) (λ port. refl))
effects-refused shape before (Setup ask) refused e =
    let found = mapped (λ fault. NotSetUp fault ask) (setup_fault before ask) refused e in
    subst (λ (r : Reply). StepEffects shape before (Setup ask) r before) (sym found.2)
    (effects-nothing shape before (Setup ask) (NotSetUp found.0 ask) (quiet-not_set_up found.0 ask) (λ port. refl))
effects-refused shape before (Reload vc program) refused e =
    let found = mapped Refused (reload_fault before vc program) refused e in
    subst (λ (r : Reply). StepEffects shape before (Reload vc program) r before) (sym found.2)
    (effects-nothing shape before (Reload vc program) (Refused found.0) (quiet-refused found.0) (λ port. refl))
effects-refused shape before (Release vc) refused e =
    let found = mapped Refused (missing_fault before vc) refused e in
    subst (λ (r : Reply). StepEffects shape before (Release vc) r before) (sym found.2)
    (effects-nothing shape before (Release vc) (Refused found.0) (quiet-refused found.0) (λ port. refl))
effects-refused shape before (Cut vc) refused e =
    let found = mapped Refused (missing_fault before vc) refused e in
    subst (λ (r : Reply). StepEffects shape before (Cut vc) r before) (sym found.2)
    (effects-nothing shape before (Cut vc) (Refused found.0) (quiet-refused found.0) (λ port. refl))

pub effects-starved : (shape : Shape) (before : World) (step : Step) (reply : Reply) → without_memory step ≡ Some reply
    → StepEffects shape before step reply before
effects-starved shape before (Setup ask) reply e =
    subst (λ (r : Reply). StepEffects shape before (Setup ask) r before) (same_some (NotSetUp NoMemory ask) reply e)
    (effects-nothing shape before (Setup ask) (NotSetUp NoMemory ask) (quiet-not_set_up NoMemory ask) (λ port. refl))
effects-starved shape before (Cut vc) reply e =
    subst (λ (r : Reply). StepEffects shape before (Cut vc) r before) (same_some (Refused NoMemory) reply e)
    (effects-nothing shape before (Cut vc) (Refused NoMemory) (quiet-refused NoMemory) (λ port. refl))
effects-starved shape before _ reply e = absurd (cc)
