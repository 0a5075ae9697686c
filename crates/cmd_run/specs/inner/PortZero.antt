-- Port 0, which every cell of a script enters. It has no cell before and after each command.
use Rattle.std.proofs.Common.{◌≡◌, ◌⊎◌, ℕ, inl, inr, Bool, true, false, if◌then◌else◌, List, [], ◌∷◌, Option, Some, None, slice_get, option_map, refl, sym, ap, ◌∙◌, subst}
use Rattle.std.specs.Prelude.{is_none, slice_set}
use Rattle.std.specs.Option.{MatchOption}
use Rattle.upc_cell.specs.Connection.{vc_of}
use Rattle.upc_cell.specs.declared.vc.Vc.{Vc}
use Rattle.bpf_code.specs.declared.instr.Instr.{Instr}
use Rattle.gen_arena.specs.declared.id.Id.{Id}
use Rattle.card_core.specs.Refusals.{enter_refusal, judge_refusal, load_fault, missing_fault, pick_refusal, picking_refusal, reload_fault, retire_fault, setup_fault}
use Rattle.card_core.specs.Steps.{Enters, FindsNoMemory, IsRefused, Judges, Picks, Succeeds, WorldStep, judged_answer, left_by, left_by_judge, left_by_pick, picking_of}
use Rattle.card_core.specs.World.{Picking, PortState, World, connection_in, entered, outside, picked}
use Rattle.card_core.specs.declared.answer.Answer.{Answer}
use Rattle.card_core.specs.declared.answer.Answer.TheVariants as answer
use Rattle.card_core.specs.declared.ask.Ask.{Ask}
use Rattle.card_core.specs.declared.reply.Reply.{Reply}
use Rattle.card_core.specs.declared.reply.Reply.TheVariants.{Entered, Picked, Answered, NotLoaded, NotSetUp, Refused}
use Rattle.card_core.specs.declared.fault.DeskFault.{DeskFault}
use Rattle.card_core.specs.declared.step.Step.{Step}
use Rattle.card_core.specs.declared.step.Step.TheVariants.{Enter, Pick, Judge, Load, Retire, Setup, Reload, Release, Cut}
use Rattle.cmd_run.specs.inner.CardSteps.{desk-cases}

-- Port 0 has this state.
abbrev pub PortIs : World → PortState → Type 0
PortIs world state = slice_get world.ports 0 ≡ Some state

-- A step of the desk leaves the ports unchanged.
abbrev Same : World → World → Type 0
Same before after = after.ports ≡ before.ports

-- A step of the desk that leaves the ports if it succeeds leaves them in any case.
desk-ports : (wrap : DeskFault → Reply) (found : Option DeskFault) (before after : World) (step : Step) (reply : Reply)
    → (left_by before step).ports ≡ before.ports → (Succeeds before step reply after → Same before after)
    → MatchOption (option_map wrap found) (Succeeds before step reply after ⊎ FindsNoMemory before step reply after)
    (λ refused. IsRefused before step refused reply after) → Same before after
desk-ports wrap found before after step reply left succeeds =
    desk-cases (Same before after) wrap found before after step reply succeeds (λ l. ap (λ w. w.ports) l.world)
    (λ fault r. ap (λ w. w.ports) r.world ∙ left)

pub load-ports : (before after : World) (code : List Instr) (reply : Reply) → WorldStep before (Load code) reply after → Same before after
load-ports before after code reply =
    desk-ports (λ fault. NotLoaded fault code) (load_fault before) before after (Load code) reply refl (λ s. ap (λ w. w.ports) s.world)

pub retire-ports : (before after : World) (id : Id) (reply : Reply) → WorldStep before (Retire id) reply after → Same before after
retire-ports before after id reply =
    desk-ports (λ fault. Refused fault) (retire_fault before id) before after (Retire id) reply refl (λ s. ap (λ w. w.ports) s.world)

pub setup-ports : (before after : World) (ask : Ask) (reply : Reply) → WorldStep before (Setup ask) reply after → Same before after
setup-ports before after ask reply =
    desk-ports (λ fault. NotSetUp fault ask) (setup_fault before ask) before after (Setup ask) reply refl (λ s. ap (λ w. w.ports) s.world)

pub reload-ports : (before after : World) (vc : Vc) (id : Id) (reply : Reply) → WorldStep before (Reload vc id) reply after → Same before after
reload-ports before after vc id reply =
    desk-ports (λ fault. Refused fault) (reload_fault before vc id) before after (Reload vc id) reply refl (λ s. ap (λ w. w.ports) s.world)

pub release-ports : (before after : World) (vc : Vc) (reply : Reply) → WorldStep before (Release vc) reply after → Same before after
release-ports before after vc reply =
    desk-ports (λ fault. Refused fault) (missing_fault before vc) before after (Release vc) reply refl (λ s. ap (λ w. w.ports) s.world)

pub cut-ports : (before after : World) (vc : Vc) (reply : Reply) → WorldStep before (Cut vc) reply after → Same before after
cut-ports before after vc reply =
    desk-ports (λ fault. Refused fault) (missing_fault before vc) before after (Cut vc) reply refl (λ s. ap (λ w. w.ports) s.world)

-- A state that is written to place 0 is there.
put-there : (states : List PortState) (old new : PortState) → slice_get states 0 ≡ Some old → slice_get (slice_set states 0 new) 0 ≡ Some new
put-there [] old new e = cc
put-there (state ∷ states) old new e = refl

-- A cell enters the port.
pub enter-goes : (before after : World) (cell : List ℕ) (moment : ℕ) (reply : Reply) → PortIs before outside
    → WorldStep before (Enter 0 cell moment) reply after → (reply ≡ Entered) × PortIs after (entered cell moment)
enter-goes before after cell moment reply free step =
    let Cases : Option PortState → Type 0 = λ o. MatchOption (enter_refusal o)
    (Enters before 0 cell moment reply after ⊎ FindsNoMemory before (Enter 0 cell moment) reply after)
    (λ refused. IsRefused before (Enter 0 cell moment) refused reply after) in
    let found : Enters before 0 cell moment reply after ⊎ FindsNoMemory before (Enter 0 cell moment) reply after = subst Cases free step in
    elim found [
      | inl goes ↦ (goes.answer, subst (λ (w : World). PortIs w (entered cell moment)) (sym goes.world) (put-there before.ports outside (entered cell moment) free))
      | inr lacks ↦ let no = lacks.answer in cc
    ]

-- The result of a pick of port 0: an answer, after which the port has no cell, or a picked cell.
abbrev pub PickComesTo : Reply → World → Type 0
PickComesTo reply after =
    ((given : Answer) × (reply ≡ Answered given) × PortIs after outside)
    ⊎ ((picking : Picking) × (reply ≡ Picked) × PortIs after (picked picking))

pub pick-goes : (before after : World) (cell : List ℕ) (moment : ℕ) (reply : Reply) → PortIs before (entered cell moment)
    → WorldStep before (Pick 0) reply after → PickComesTo reply after
pick-goes before after cell moment reply had step =
    let Cases : Option PortState → Type 0 = λ o. MatchOption (pick_refusal before o)
    (Picks before 0 reply after ⊎ FindsNoMemory before (Pick 0) reply after) (λ refused. IsRefused before (Pick 0) refused reply after) in
    by (is_none (connection_in before.connections (vc_of before.shape.side cell))) (subst Cases had step)
  where
    by : (b : Bool) → MatchOption (if b then Some (Answered answer.NoConnection) else None)
        (Picks before 0 reply after ⊎ FindsNoMemory before (Pick 0) reply after) (λ refused. IsRefused before (Pick 0) refused reply after)
        → PickComesTo reply after
    by true is = inl (answer.NoConnection, is.answer, subst (λ (w : World). PortIs w outside) (sym (is.world ∙ ap (left_by_pick before 0) had)) (put-there before.ports (entered cell moment) outside had))
    by false (inl goes) =
        let picking = picking_of goes.cell goes.moment (vc_of before.shape.side goes.cell) goes.connection goes.value in
        inr (picking, goes.answer, subst (λ (w : World). PortIs w (picked picking)) (sym goes.world) (put-there before.ports (entered cell moment) (picked picking) had))
    by false (inr lacks) = let no = lacks.answer in cc

-- A picked cell gets an answer, and the port has no cell.
pub judge-goes : (before after : World) (picking : Picking) (reply : Reply) → PortIs before (picked picking)
    → WorldStep before (Judge 0) reply after → (given : Answer) × (reply ≡ Answered given) × PortIs after outside
judge-goes before after picking reply had step =
    let Cases : Option PortState → Type 0 = λ o. MatchOption (judge_refusal before o)
    (Judges before 0 reply after ⊎ FindsNoMemory before (Judge 0) reply after) (λ refused. IsRefused before (Judge 0) refused reply after) in
    by (picking_refusal before picking (connection_in before.connections picking.vc)) (subst Cases had step)
  where
    by : (found : Option Answer) → MatchOption (option_map Answered found)
        (Judges before 0 reply after ⊎ FindsNoMemory before (Judge 0) reply after) (λ refused. IsRefused before (Judge 0) refused reply after)
        → (given : Answer) × (reply ≡ Answered given) × PortIs after outside
    by None (inl goes) = (judged_answer before goes.picking goes.connection, goes.answer, subst (λ (w : World). PortIs w outside) (sym goes.world) (put-there before.ports (picked picking) outside had))
    by None (inr lacks) = let no = lacks.answer in cc
    by (Some given) is = (given, is.answer, subst (λ (w : World). PortIs w outside) (sym (is.world ∙ ap (left_by_judge before 0) had)) (put-there before.ports (picked picking) outside had))
