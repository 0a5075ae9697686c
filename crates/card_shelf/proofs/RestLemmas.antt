-- A card at rest answers each arrival, and is at rest afterwards.
use Rattle.std.proofs.Common.{◌≡◌, ◌⊎◌, ℕ, zero, suc, ◌≤◌, List, [], ◌∷◌, ◌++◌, Option, Some, None, replicate, refl, ap, ◌∙◌, inl, inr, arith}
use Rattle.std.specs.Prelude.{slice_get, slice_set, MatchOption}
use Rattle.card_core.specs.Agreement.{CoreView, CoreAgrees, Follows, events_of}
use Rattle.card_core.specs.Arrival.{AnswersArrival}
use Rattle.card_core.specs.inner.ArrivalWays.{AnsweredByPick, AnsweredByJudgement}
use Rattle.card_core.proofs.Public.{arrival-ways}
use Rattle.card_core.specs.World.{World, Picking, PortState, outside, entered, picked, opening_world}
use Rattle.card_core.specs.Refusals.{refusal, enter_refusal, pick_refusal, judge_refusal}
use Rattle.card_core.specs.Steps.{Succeeds, FindsNoMemory, IsRefused, left_by_pick, left_by_judge}
use Rattle.card_core.specs.declared.answer.Answer.{Answer}
use Rattle.card_core.specs.declared.reply.Reply.{Reply}
use Rattle.card_core.specs.declared.reply.Reply.TheVariants.{Entered, Picked, NotNow, Answered}
use Rattle.card_core.specs.declared.shape.Shape.{Shape}
use Rattle.card_core.specs.declared.step.Step.{Step}
use Rattle.card_core.specs.declared.step.Step.TheVariants.{Enter, Pick, Judge, Load, Retire, Setup, Reload, Release, Cut}
use Rattle.card_shelf.specs.inner.Rest.{IsAtRest, IsOfDesk}

-- At first every port is outside.
first-outside : (n : ℕ) → 1 ≤ n → slice_get (replicate n outside) 0 ≡ Some outside
first-outside zero some = absurd (omega (arith, some))
first-outside (suc n) some = refl

pub opening-rests : (shape : Shape) (core : CoreView) → 1 ≤ shape.ports → CoreAgrees core (opening_world shape) → IsAtRest core
opening-rests shape core some agrees = record {
  shape = shape;
  log = [];
  world = opening_world shape;
  leads = refl;
  agrees = agrees;
  free = first-outside shape.ports some;
}

-- A step of the desk leaves the ports.
desk-ports : (before : World) (step : Step) (reply : Reply) (after : World) → IsOfDesk step → (o : Option Reply)
    → MatchOption o (Succeeds before step reply after ⊎ FindsNoMemory before step reply after)
    (λ refused. IsRefused before step refused reply after) → after.ports ≡ before.ports
desk-ports before (Enter port cell moment) reply after desk o goes = absurd desk
desk-ports before (Pick port) reply after desk o goes = absurd desk
desk-ports before (Judge port) reply after desk o goes = absurd desk
desk-ports before (Load code) reply after desk None (inl goes) = ap (λ (w : World). w.ports) goes.world
desk-ports before (Load code) reply after desk None (inr goes) = ap (λ (w : World). w.ports) goes.world
desk-ports before (Load code) reply after desk (Some refused) goes = ap (λ (w : World). w.ports) goes.world
desk-ports before (Retire id) reply after desk None (inl goes) = ap (λ (w : World). w.ports) goes.world
desk-ports before (Retire id) reply after desk None (inr goes) = ap (λ (w : World). w.ports) goes.world
desk-ports before (Retire id) reply after desk (Some refused) goes = ap (λ (w : World). w.ports) goes.world
desk-ports before (Setup ask) reply after desk None (inl goes) = ap (λ (w : World). w.ports) goes.world
desk-ports before (Setup ask) reply after desk None (inr goes) = ap (λ (w : World). w.ports) goes.world
desk-ports before (Setup ask) reply after desk (Some refused) goes = ap (λ (w : World). w.ports) goes.world
desk-ports before (Reload vc program) reply after desk None (inl goes) = ap (λ (w : World). w.ports) goes.world
desk-ports before (Reload vc program) reply after desk None (inr goes) = ap (λ (w : World). w.ports) goes.world
desk-ports before (Reload vc program) reply after desk (Some refused) goes = ap (λ (w : World). w.ports) goes.world
desk-ports before (Release vc) reply after desk None (inl goes) = ap (λ (w : World). w.ports) goes.world
desk-ports before (Release vc) reply after desk None (inr goes) = ap (λ (w : World). w.ports) goes.world
desk-ports before (Release vc) reply after desk (Some refused) goes = ap (λ (w : World). w.ports) goes.world
desk-ports before (Cut vc) reply after desk None (inl goes) = ap (λ (w : World). w.ports) goes.world
desk-ports before (Cut vc) reply after desk None (inr goes) = ap (λ (w : World). w.ports) goes.world
desk-ports before (Cut vc) reply after desk (Some refused) goes = ap (λ (w : World). w.ports) goes.world

pub desk-rests : (old new : CoreView) (step : Step) (reply : Reply) → IsOfDesk step → IsAtRest old → Follows old step reply new → IsAtRest new
desk-rests old new step reply desk rest follows =
    let gone = follows rest.shape rest.log rest.world rest.leads rest.agrees in
    record {
      shape = rest.shape;
      log = rest.log ++ record { step = step; reply = reply } ∷ [];
      world = gone.after;
      leads = gone.leads;
      agrees = gone.agrees;
      free = ap (λ (ports : List PortState). slice_get ports 0)
          (desk-ports rest.world step reply gone.after desk (refusal rest.world step) gone.stepped) ∙ rest.free;
    }

-- A port that there is, once it is written to.
set-there : (ports : List PortState) (port : ℕ) (old new : PortState) → slice_get ports port ≡ Some old
    → slice_get (slice_set ports port new) port ≡ Some new
set-there [] port old new e = absurd (cc)
set-there (first ∷ later) zero old new e = refl
set-there (first ∷ later) (suc port) old new e = set-there later port old new e

-- The step is answered so, where this is the reason to refuse it, if there is one.
abbrev Goes : World → Step → Answer → World → Option Reply → Type 0
Goes before step answer after o = MatchOption o
    (Succeeds before step (Answered answer) after ⊎ FindsNoMemory before step (Answered answer) after)
    (λ refused. IsRefused before step refused (Answered answer) after)

-- A pick that answers the cell leaves the port outside,
picked-entered : (before : World) (port : ℕ) (answer : Answer) (after : World) (cell : List ℕ) (moment : ℕ)
    → slice_get before.ports port ≡ Some (entered cell moment) → (o : Option Reply)
    → Goes before (Pick port) answer after o → slice_get after.ports port ≡ Some outside
picked-entered before port answer after cell moment e None (inl goes) = let no = goes.answer in absurd (cc)
picked-entered before port answer after cell moment e None (inr goes) = let no = goes.answer in absurd (cc)
picked-entered before port answer after cell moment e (Some refused) goes =
    let is : after ≡ left_by_pick before port (Some (entered cell moment)) = goes.world ∙ ap (left_by_pick before port) e in
    ap (λ (w : World). slice_get w.ports port) is ∙ set-there before.ports port (entered cell moment) outside e

pick-frees : (before : World) (port : ℕ) (answer : Answer) (after : World) (o : Option PortState) → slice_get before.ports port ≡ o
    → Goes before (Pick port) answer after (pick_refusal before o) → slice_get after.ports port ≡ Some outside
pick-frees before port answer after None e goes = let no = goes.answer in absurd (cc)
pick-frees before port answer after (Some outside) e goes = let no = goes.answer in absurd (cc)
pick-frees before port answer after (Some (entered cell moment)) e goes =
    picked-entered before port answer after cell moment e (pick_refusal before (Some (entered cell moment))) goes
pick-frees before port answer after (Some (picked picking)) e goes = let no = goes.answer in absurd (cc)

-- and so does every judgement.
judged-picked : (before : World) (port : ℕ) (answer : Answer) (after : World) (picking : Picking)
    → slice_get before.ports port ≡ Some (picked picking) → (o : Option Reply)
    → Goes before (Judge port) answer after o → slice_get after.ports port ≡ Some outside
judged-picked before port answer after picking e None (inl goes) =
    ap (λ (w : World). slice_get w.ports port) goes.world ∙ set-there before.ports port (picked picking) outside e
judged-picked before port answer after picking e None (inr goes) = let no = goes.answer in absurd (cc)
judged-picked before port answer after picking e (Some refused) goes =
    let is : after ≡ left_by_judge before port (Some (picked picking)) = goes.world ∙ ap (left_by_judge before port) e in
    ap (λ (w : World). slice_get w.ports port) is ∙ set-there before.ports port (picked picking) outside e

judge-frees : (before : World) (port : ℕ) (answer : Answer) (after : World) (o : Option PortState) → slice_get before.ports port ≡ o
    → Goes before (Judge port) answer after (judge_refusal before o) → slice_get after.ports port ≡ Some outside
judge-frees before port answer after None e goes = let no = goes.answer in absurd (cc)
judge-frees before port answer after (Some outside) e goes = let no = goes.answer in absurd (cc)
judge-frees before port answer after (Some (entered cell moment)) e goes = let no = goes.answer in absurd (cc)
judge-frees before port answer after (Some (picked picking)) e goes =
    judged-picked before port answer after picking e (judge_refusal before (Some (picked picking))) goes

serving-rests_by : (old new : CoreView) (cell : List ℕ) (moment : ℕ) (answer : Answer) → IsAtRest old
    → AnsweredByPick old 0 cell moment answer new ⊎ AnsweredByJudgement old 0 cell moment answer new → IsAtRest new
serving-rests_by old new cell moment answer rest (inl goes) =
    let gone = goes rest.shape rest.log rest.world rest.leads rest.agrees in
    let run = gone.stepped in
    let before = run.2.0 in
    record {
      shape = rest.shape;
      log = rest.log ++ events_of (Enter 0 cell moment ∷ Pick 0 ∷ []) (Entered ∷ Answered answer ∷ []);
      world = gone.after;
      leads = gone.leads;
      agrees = gone.agrees;
      free = ap (λ (w : World). slice_get w.ports 0) run.2.2
          ∙ pick-frees run.0 0 answer before (slice_get run.0.ports 0) refl run.2.1;
    }
serving-rests_by old new cell moment answer rest (inr goes) =
    let gone = goes rest.shape rest.log rest.world rest.leads rest.agrees in
    let run = gone.stepped in
    let picked_world = run.2.0 in
    let before = run.2.2.0 in
    record {
      shape = rest.shape;
      log = rest.log ++ events_of (Enter 0 cell moment ∷ Pick 0 ∷ Judge 0 ∷ []) (Entered ∷ Picked ∷ Answered answer ∷ []);
      world = gone.after;
      leads = gone.leads;
      agrees = gone.agrees;
      free = ap (λ (w : World). slice_get w.ports 0) run.2.2.2
          ∙ judge-frees picked_world 0 answer before (slice_get picked_world.ports 0) refl run.2.2.1;
    }

-- A card at rest takes a cell.
not-now : (before : World) (cell : List ℕ) (moment : ℕ) (after : World) (o : Option PortState) → o ≡ Some outside
    → MatchOption (enter_refusal o)
    (Succeeds before (Enter 0 cell moment) NotNow after ⊎ FindsNoMemory before (Enter 0 cell moment) NotNow after)
    (λ refused. IsRefused before (Enter 0 cell moment) refused NotNow after) → ⊥
not-now before cell moment after None e goes = absurd (cc)
not-now before cell moment after (Some outside) e (inl goes) = let no = goes.answer in absurd (cc)
not-now before cell moment after (Some outside) e (inr goes) = let no = goes.answer in absurd (cc)
not-now before cell moment after (Some (entered other came)) e goes = absurd (cc)
not-now before cell moment after (Some (picked picking)) e goes = absurd (cc)

pub resting-takes : (old new : CoreView) (cell : List ℕ) (moment : ℕ) → IsAtRest old → Follows old (Enter 0 cell moment) NotNow new → ⊥
resting-takes old new cell moment rest follows =
    let gone = follows rest.shape rest.log rest.world rest.leads rest.agrees in
    not-now rest.world cell moment gone.after (slice_get rest.world.ports 0) rest.free gone.stepped

pub serving-rests : (old new : CoreView) (cell : List ℕ) (moment : ℕ) (answer : Answer) → IsAtRest old
    → AnswersArrival old 0 cell moment answer new → IsAtRest new
serving-rests old new cell moment answer rest goes =
    serving-rests_by old new cell moment answer rest (arrival-ways old new 0 cell moment answer goes)
