-- A card reports no faults but those that are listed: its core was reached by a log, and no port has a cell.
use Rattle.std.proofs.Common.{◌≡◌, ◌⊎◌, inl, inr, ℕ, ◌^◌, ◌==◌, Bool, true, false, cond, not, List, length, Option, Some, None, is_none, is_some, nat_lt, nat_le, refl, sym, ap, ◌∙◌, subst, arith}
use Rattle.std.proofs.lemmas.Bool.Decides.{nat_tests}
use Rattle.std.specs.Option.{MatchOption, option_map}
use Rattle.std.specs.Prelude.{slice_get}
use mathlib.Core.Logic.{∥∥₁_elim}
use Rattle.card_core.specs.Agreement.{CoreView}
use Rattle.card_core.specs.inner.ArrivalWays.{AnsweredByPick, AnsweredByJudgement}
use Rattle.card_core.proofs.Public.{arrival-ways}
use Rattle.card_core.specs.Log.{Run}
use Rattle.card_core.specs.Refusals.{refusal, enter_refusal, pick_refusal, judge_refusal, picking_refusal, cell_refusal, load_fault, retire_fault, setup_fault, reload_fault, missing_fault}
use Rattle.card_core.specs.Steps.{FindsNoMemory, IsRefused, Succeeds, WorldStep, without_memory}
use Rattle.card_core.specs.World.{World, PortState, Picking, Connection, outside, entered, picked, code_in, connection_in, kept_cells, is_busy, any_below, is_open_slot, is_open_line, is_named}
use Rattle.card_core.specs.declared.answer.Answer.{Answer}
use Rattle.card_core.specs.declared.answer.Answer.TheVariants.{MomentTooLate, MomentBack, JournalFull}
use Rattle.card_core.specs.declared.answer.Answer.TheVariants as cell_answers
use Rattle.card_core.specs.declared.ask.Ask.{Ask}
use Rattle.card_core.specs.declared.fault.DeskFault.{DeskFault}
use Rattle.card_core.specs.declared.fault.DeskFault.TheVariants.{NoProgram, NoConnection, Taken, NoLine, InUse, ProgramsFull, Exhausted, BadContracts, Busy, NoMemory}
use Rattle.card_core.specs.declared.reply.Reply.{Reply}
use Rattle.card_core.specs.declared.reply.Reply.TheVariants.{Entered, Picked, NotNow, Answered, NotLoaded, NotSetUp, Refused}
use Rattle.card_core.specs.declared.step.Step.{Step}
use Rattle.card_core.specs.declared.step.Step.TheVariants.{Enter, Pick, Judge, Load, Retire, Setup, Reload, Release, Cut}
use Rattle.gen_arena.specs.declared.id.Id.{Id}
use Rattle.line_record.specs.History.{last_moment}
use Rattle.upc_cell.specs.Connection.{vc_of}
use Rattle.upc_cell.specs.declared.vc.Vc.{Vc}
use Rattle.upc_c.specs.CardArrival.{reason_of_answer}
use Rattle.upc_c.specs.CardDesk.{RefusesStep, reason_of}
use Rattle.upc_c.specs.ListedFaults.{ReportsNoOthers, may_answer, may_refuse}
use Rattle.upc_c.specs.declared.card.UpcCard.{UpcCard}
use Rattle.upc_c.specs.declared.fault.UpcFault.{UpcFault}
use Rattle.upc_c.specs.inner.ReachedCore.{IsIdlePort, IsReachedCore, Reaching}
use Rattle.upc_c.proofs.CardArrivals.{PickedBy, Taken as TakenStep, at_judging, at_pick, entered-there, enters, pick-picked, picks, there}

same_some : {X : Type 0} (x y : X) → Some x ≡ Some y → x ≡ y
same_some x y e = cc

-- The first test that passes gives the refusal.
refused_by : {X : Type 0} (P : X → Type 0) (test : Bool) (refused : X) (rest : Option X) → P refused
    → ((x : X) → rest ≡ Some x → P x) → (x : X) → cond test (Some refused) rest ≡ Some x → P x
refused_by P true refused rest here later x e = subst P (same_some refused x e) here
refused_by P false refused rest here later x e = later x e

mapped : {X Y : Type 0} (f : X → Y) (o : Option X) (y : Y) → option_map f o ≡ Some y → (x : X) × (o ≡ Some x) × (y ≡ f x)
mapped f None y e = absurd (cc)
mapped f (Some x) y e = (x, refl, sym (same_some (f x) y e))

-- Either there is no refusal, or it is known.
by-refusal : {X : Type 0} (P S : Type 0) (R : X → Type 0) (o : Option X) → (S → P) → ((x : X) → o ≡ Some x → R x → P) → MatchOption o S R → P
by-refusal P S R None goes refuses is = goes is
by-refusal P S R (Some x) goes refuses is = refuses x refl is

-- The step may be refused for this reason.
abbrev May : Step → DeskFault → Type 0
May step reason = may_refuse step reason ≡ true

load-listed : (code : List _) (before : World) → is_busy before ≡ false → (reason : DeskFault) → load_fault before ≡ Some reason → May (Load code) reason
load-listed code before quiet reason e =
    let choice : (busy : Bool) → busy ≡ false
    → cond busy (Some Busy) (cond (not (any_below before.shape.programs (is_open_slot before))) (Some ProgramsFull) None) ≡ Some reason
    → May (Load code) reason = elim [
      | true ↦ λ is e. absurd (cc)
      | false ↦ λ is e. refused_by (May (Load code)) (not (any_below before.shape.programs (is_open_slot before))) ProgramsFull None refl
          (λ x e. absurd (cc)) reason e
    ] in
    choice (is_busy before) quiet e

retire-listed : (id : Id) (before : World) → is_busy before ≡ false → (reason : DeskFault) → retire_fault before id ≡ Some reason → May (Retire id) reason
retire-listed id before quiet reason e =
    let choice : (busy : Bool) → busy ≡ false
    → cond busy (Some Busy) (cond (is_none (code_in before.live id)) (Some NoProgram) (cond (is_named before id) (Some InUse) None)) ≡ Some reason
    → May (Retire id) reason = elim [
      | true ↦ λ is e. absurd (cc)
      | false ↦ λ is e. refused_by (May (Retire id)) (is_none (code_in before.live id)) NoProgram _ refl
          (refused_by (May (Retire id)) (is_named before id) InUse None refl (λ x e. absurd (cc))) reason e
    ] in
    choice (is_busy before) quiet e

setup-listed : (before : World) (ask : Ask) (reason : DeskFault) → setup_fault before ask ≡ Some reason → May (Setup ask) reason
setup-listed before ask =
    refused_by (May (Setup ask)) (is_none (code_in before.live ask.program)) NoProgram _ refl
    (refused_by (May (Setup ask)) (is_some (connection_in before.connections ask.vc)) Taken _ refl
    (refused_by (May (Setup ask)) (length ask.contracts.items == 0) BadContracts _ refl
    (refused_by (May (Setup ask)) (not (any_below before.shape.lines (is_open_line before))) NoLine _ refl
    (refused_by (May (Setup ask)) (nat_le (2 ^ 62) before.incarnations) Exhausted None refl
    (λ x e. absurd (cc))))))

reload-listed : (before : World) (vc : Vc) (id : Id) (reason : DeskFault) → reload_fault before vc id ≡ Some reason → May (Reload vc id) reason
reload-listed before vc id =
    refused_by (May (Reload vc id)) (is_none (code_in before.live id)) NoProgram _ refl
    (refused_by (May (Reload vc id)) (is_none (connection_in before.connections vc)) NoConnection None refl
    (λ x e. absurd (cc)))

missing-listed : (before : World) (vc : Vc) (P : DeskFault → Type 0) → P NoConnection → (reason : DeskFault) → missing_fault before vc ≡ Some reason → P reason
missing-listed before vc P here =
    refused_by P (is_none (connection_in before.connections vc)) NoConnection None here (λ x e. absurd (cc))

-- The steps of a cell have no reply with a reason of the desk.
no-reason : (refused : Reply) (reason : DeskFault) → reason_of refused ≡ None → reason_of refused ≡ Some reason → ⊥
no-reason refused reason none reported = let no : None ≡ Some reason = sym none ∙ reported in cc

enter-none : (o : Option PortState) (refused : Reply) → enter_refusal o ≡ Some refused → reason_of refused ≡ None
enter-none None refused e = ap reason_of (sym (same_some NotNow refused e))
enter-none (Some outside) refused e = absurd (cc)
enter-none (Some (entered cell moment)) refused e = ap reason_of (sym (same_some NotNow refused e))
enter-none (Some (picked picking)) refused e = ap reason_of (sym (same_some NotNow refused e))

pick-none : (before : World) (o : Option PortState) (refused : Reply) → pick_refusal before o ≡ Some refused → reason_of refused ≡ None
pick-none before None refused e = ap reason_of (sym (same_some NotNow refused e))
pick-none before (Some outside) refused e = ap reason_of (sym (same_some NotNow refused e))
pick-none before (Some (entered cell moment)) refused e =
    refused_by (λ (r : Reply). reason_of r ≡ None) (is_none (connection_in before.connections (vc_of before.shape.side cell))) (Answered cell_answers.NoConnection) None
    refl (λ x e. absurd (cc)) refused e
pick-none before (Some (picked picking)) refused e = ap reason_of (sym (same_some NotNow refused e))

judge-none : (before : World) (o : Option PortState) (refused : Reply) → judge_refusal before o ≡ Some refused → reason_of refused ≡ None
judge-none before None refused e = ap reason_of (sym (same_some NotNow refused e))
judge-none before (Some outside) refused e = ap reason_of (sym (same_some NotNow refused e))
judge-none before (Some (entered cell moment)) refused e = ap reason_of (sym (same_some NotNow refused e))
judge-none before (Some (picked picking)) refused e =
    let found = mapped Answered (picking_refusal before picking (connection_in before.connections picking.vc)) refused e in
    ap reason_of found.2

-- A refusal of the desk has its reason.
same-reason : (step : Step) (refused : Reply) (found reason : DeskFault) → reason_of refused ≡ Some found → reason_of refused ≡ Some reason
    → May step found → May step reason
same-reason step refused found reason has reported may = subst (May step) (same_some found reason (sym has ∙ reported)) may

refused-listed : (before : World) (step : Step) (refused : Reply) (reason : DeskFault) → is_busy before ≡ false
    → refusal before step ≡ Some refused → reason_of refused ≡ Some reason → May step reason
refused-listed before (Enter port cell moment) refused reason quiet e reported =
    absurd (no-reason refused reason (enter-none (slice_get before.ports port) refused e) reported)
refused-listed before (Pick port) refused reason quiet e reported =
    absurd (no-reason refused reason (pick-none before (slice_get before.ports port) refused e) reported)
refused-listed before (Judge port) refused reason quiet e reported =
    absurd (no-reason refused reason (judge-none before (slice_get before.ports port) refused e) reported)
refused-listed before (Load code) refused reason quiet e reported =
    let found = mapped (λ fault. NotLoaded fault code) (load_fault before) refused e in
    same-reason (Load code) refused found.0 reason (ap reason_of found.2) reported (load-listed code before quiet found.0 found.1)
refused-listed before (Retire id) refused reason quiet e reported =
    let found = mapped Refused (retire_fault before id) refused e in
    same-reason (Retire id) refused found.0 reason (ap reason_of found.2) reported (retire-listed id before quiet found.0 found.1)
refused-listed before (Setup ask) refused reason quiet e reported =
    let found = mapped (λ fault. NotSetUp fault ask) (setup_fault before ask) refused e in
    same-reason (Setup ask) refused found.0 reason (ap reason_of found.2) reported (setup-listed before ask found.0 found.1)
refused-listed before (Reload vc id) refused reason quiet e reported =
    let found = mapped Refused (reload_fault before vc id) refused e in
    same-reason (Reload vc id) refused found.0 reason (ap reason_of found.2) reported (reload-listed before vc id found.0 found.1)
refused-listed before (Release vc) refused reason quiet e reported =
    let found = mapped Refused (missing_fault before vc) refused e in
    same-reason (Release vc) refused found.0 reason (ap reason_of found.2) reported (missing-listed before vc (May (Release vc)) refl found.0 found.1)
refused-listed before (Cut vc) refused reason quiet e reported =
    let found = mapped Refused (missing_fault before vc) refused e in
    same-reason (Cut vc) refused found.0 reason (ap reason_of found.2) reported (missing-listed before vc (May (Cut vc)) refl found.0 found.1)

success-none : (before : World) (step : Step) (reply : Reply) (after : World) → Succeeds before step reply after → reason_of reply ≡ None
success-none before (Enter port cell moment) reply after w = ap reason_of w.answer
success-none before (Pick port) reply after w = ap reason_of w.answer
success-none before (Judge port) reply after w = ap reason_of w.answer
success-none before (Load code) reply after w = ap reason_of w.answer
success-none before (Retire id) reply after w = ap reason_of w.answer
success-none before (Setup ask) reply after w = ap reason_of w.answer
success-none before (Reload vc id) reply after w = ap reason_of w.answer
success-none before (Release vc) reply after w = ap reason_of w.answer
success-none before (Cut vc) reply after w = ap reason_of w.answer

starved-listed : (step : Step) (reply : Reply) (reason : DeskFault) → without_memory step ≡ Some reply → reason_of reply ≡ Some reason → May step reason
starved-listed (Setup ask) reply reason e reported =
    same-reason (Setup ask) reply NoMemory reason (ap reason_of (sym (same_some (NotSetUp NoMemory ask) reply e))) reported refl
starved-listed (Cut vc) reply reason e reported =
    same-reason (Cut vc) reply NoMemory reason (ap reason_of (sym (same_some (Refused NoMemory) reply e))) reported refl
starved-listed _ reply reason e reported = absurd (cc)

step-listed : (before after : World) (step : Step) (reply : Reply) (reason : DeskFault) → is_busy before ≡ false
    → WorldStep before step reply after → reason_of reply ≡ Some reason → May step reason
step-listed before after step reply reason quiet stepped reported =
    by-refusal (May step reason) (Succeeds before step reply after ⊎ FindsNoMemory before step reply after)
    (λ refused. IsRefused before step refused reply after) (refusal before step)
    (elim [
      | inl success ↦ absurd (no-reason reply reason (success-none before step reply after success) reported)
      | inr memory ↦ starved-listed step reply reason memory.answer reported
    ])
    (λ refused e is. refused-listed before step refused reason quiet e (ap reason_of (sym is.answer) ∙ reported))
    stepped

-- A fact about a test follows if it does for each log that may have led to the core.
by-log : (test : Bool) (core : CoreView) → IsReachedCore core → (Reaching core → test ≡ true) → test ≡ true
by-log true core reached holds = refl
by-log false core reached holds = absurd (∥∥₁_elim reached (λ x y. absurd x) (λ r. let no : false ≡ true = holds r in cc))

desk-listed : (before after : UpcCard) (step : Step) (fault : UpcFault) (refused : RefusesStep before after step fault) → May step refused.reason
desk-listed before after step fault refused =
    let taken = refused.taken in
    by-log (may_refuse step refused.reason) taken.old (before.reached taken.old taken.had) (λ r.
    let gone = taken.follows r.shape r.log r.world r.leads r.agrees in
    step-listed r.world gone.after step refused.reply refused.reason r.quiet gone.stepped refused.refused)

-- A cell that isn't judged may have this answer.
abbrev MayAnswer : Answer → Type 0
MayAnswer answer = may_answer answer ≡ true

abbrev answer-in : Reply → Answer → Answer
answer-in (Answered answer) other = answer
answer-in _ other = other

same-answer : (answer found : Answer) → Answered answer ≡ Answered found → MayAnswer found → MayAnswer answer
same-answer answer found e may = subst MayAnswer (sym (ap (λ (r : Reply). answer-in r answer) e)) may

pick-answers : (missing : Bool) (before after : World) (answer : Answer) → PickedBy missing before (Answered answer) after → MayAnswer answer
pick-answers true before after answer is = same-answer answer cell_answers.NoConnection is.answer refl
pick-answers false before after answer (inl p) = let no : Answered answer ≡ Picked = p.answer in cc
pick-answers false before after answer (inr l) = let no = l.answer in cc

cell-answers : (before : World) (connection : Connection) (moment : ℕ) (answer : Answer)
    → cell_refusal before connection moment ≡ Some answer → MayAnswer answer
cell-answers before connection moment =
    refused_by MayAnswer (nat_lt (2 ^ 62) moment) MomentTooLate _ refl
    (refused_by MayAnswer (nat_lt moment (last_moment 0 connection.history)) (MomentBack (last_moment 0 connection.history)) _ refl
    (refused_by MayAnswer (nat_le before.shape.journal (length (kept_cells connection))) JournalFull _ refl
    (refused_by MayAnswer (nat_le (2 ^ 62) (length (before.verdicts connection.line))) JournalFull None refl
    (λ x e. absurd (cc)))))

-- The connection is still the one that was picked.
picking-answers : (before : World) (picking : Picking) (connection : Connection) (o : Option Connection) → connection.incarnation ≡ picking.incarnation
    → o ≡ Some connection → (answer : Answer) → picking_refusal before picking o ≡ Some answer → MayAnswer answer
picking-answers before picking connection None same found answer e = absurd (cc)
picking-answers before picking connection (Some it) same found answer e =
    let is : it ≡ connection = same_some it connection found in
    let kept : it.incarnation ≡ picking.incarnation = ap (λ (c : Connection). c.incarnation) is ∙ same in
    let choice : (b : Bool) → (it.incarnation == picking.incarnation) ≡ b
    → cond b (cell_refusal before it picking.moment) (Some cell_answers.Released) ≡ Some answer → MayAnswer answer = elim [
      | true ↦ λ test e. cell-answers before it picking.moment answer e
      | false ↦ λ test e. absurd (grind (arith, nat_tests))
    ] in
    choice (it.incarnation == picking.incarnation) refl e

judge-answers : (refused : Option Answer) (before after : World) (answer : Answer) (fault : UpcFault) → reason_of_answer answer ≡ Some fault
    → ((found : Answer) → refused ≡ Some found → MayAnswer found)
    → MatchOption (option_map Answered refused) (TakenStep before (Judge 0) (Answered answer) after)
    (λ reply. IsRefused before (Judge 0) reply (Answered answer) after) → MayAnswer answer
judge-answers None before after answer fault reported may (inl j) =
    let is = ap (λ (r : Reply). answer-in r answer) j.answer in
    let no : None ≡ Some fault = ap reason_of_answer (sym is) ∙ reported in cc
judge-answers None before after answer fault reported may (inr l) = let no = l.answer in cc
judge-answers (Some found) before after answer fault reported may is = same-answer answer found is.answer (may found refl)

at-pick-answers : (before after : World) (cell : List ℕ) (moment : ℕ) (answer : Answer) → IsIdlePort before
    → Run before (at_pick cell moment answer) after → MayAnswer answer
at-pick-answers before after cell moment answer idle run =
    let one = run.0 in let entering = entered-there before one cell moment (enters before one cell moment Entered idle run.1) in
    let in_port = there before one (entered cell moment) outside idle entering in
    pick-answers (is_none (connection_in one.connections (vc_of one.shape.side cell))) one run.2.0 answer
    (picks one run.2.0 cell moment (Answered answer) in_port run.2.1)

at-judging-answers : (before after : World) (cell : List ℕ) (moment : ℕ) (answer : Answer) (fault : UpcFault) → IsIdlePort before
    → reason_of_answer answer ≡ Some fault → Run before (at_judging cell moment answer) after → MayAnswer answer
at-judging-answers before after cell moment answer fault idle reported run =
    let one = run.0 in let entering = entered-there before one cell moment (enters before one cell moment Entered idle run.1) in
    let in_port = there before one (entered cell moment) outside idle entering in
    let two = run.2.0 in let three = run.2.2.0 in
    let from = pick-picked (is_none (connection_in one.connections (vc_of one.shape.side cell))) one two cell moment
    (picks one two cell moment Picked in_port run.2.1) in
    let had = there one two (picked from.picking) (entered cell moment) in_port from.placed in
    let P : Option PortState → Type 0 = λ port. MatchOption (judge_refusal two port) (TakenStep two (Judge 0) (Answered answer) three)
    (λ refused. IsRefused two (Judge 0) refused (Answered answer) three) in
    judge-answers (picking_refusal two from.picking (connection_in two.connections from.picking.vc)) two three answer fault reported
    (picking-answers two from.picking from.connection (connection_in two.connections from.picking.vc) from.same from.found)
    (subst P had run.2.2.1)

arrival-answers : (old new : CoreView) (cell : List ℕ) (moment : ℕ) (answer : Answer) (fault : UpcFault) → IsReachedCore old
    → reason_of_answer answer ≡ Some fault → AnsweredByPick old 0 cell moment answer new ⊎ AnsweredByJudgement old 0 cell moment answer new → MayAnswer answer
arrival-answers old new cell moment answer fault reached reported (inl follows) = by-log (may_answer answer) old reached (λ r.
    let gone = follows r.shape r.log r.world r.leads r.agrees in
    at-pick-answers r.world gone.after cell moment answer r.idle gone.stepped)
arrival-answers old new cell moment answer fault reached reported (inr follows) = by-log (may_answer answer) old reached (λ r.
    let gone = follows r.shape r.log r.world r.leads r.agrees in
    at-judging-answers r.world gone.after cell moment answer fault r.idle reported gone.stepped)

pub reports-no-others : ReportsNoOthers
reports-no-others = record {
  desk = desk-listed;
  cells = λ before after cell moment fault refused.
      let arrives = refused.arrives in
      arrival-answers arrives.old arrives.new cell moment refused.answer fault (before.reached arrives.old arrives.had) refused.reported
      (arrival-ways arrives.old arrives.new 0 cell moment refused.answer arrives.answers);
}
