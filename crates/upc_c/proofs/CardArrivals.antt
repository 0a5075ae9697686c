-- All steps of a cell at port 0, which has no cell before and afterwards.
use Rattle.std.proofs.Common.{◌≡◌, ◌⊎◌, inl, inr, ℕ, zero, suc, Bool, true, false, not, ◌&&◌, List, [], ◌∷◌, ◌++◌, Option, Some, None, replicate, refl, ap, ◌∙◌, subst}
use Rattle.std.specs.List.{list_all}
use Rattle.std.specs.Option.{MatchOption, option_map}
use Rattle.std.specs.Prelude.{slice_get, slice_set, if◌then◌else◌, is_none}
use mathlib.Core.Logic.{∥∥₁_elim, ∥∥₁_map}
use Rattle.card_core.specs.Agreement.{CoreView, CoreAgrees, Follows}
use Rattle.card_core.specs.Arrival.{AnswersArrival}
use Rattle.card_core.specs.inner.ArrivalWays.{AnsweredByPick, AnsweredByJudgement}
use Rattle.card_core.proofs.Public.{arrival-ways}
use Rattle.card_core.specs.Log.{Event, Run}
use Rattle.card_core.specs.Refusals.{enter_refusal, pick_refusal, judge_refusal, picking_refusal}
use Rattle.card_core.specs.Shapes.{is_beyond, shape_fault}
use Rattle.card_core.specs.Steps.{FindsNoMemory, IsRefused, Succeeds, WorldStep, left_by_judge, left_by_pick, picking_of}
use Rattle.card_core.specs.World.{World, PortState, Picking, Connection, outside, entered, picked, connection_in, is_busy, is_outside, opening_world}
use Rattle.card_core.specs.declared.answer.Answer.{Answer}
use Rattle.card_core.specs.declared.answer.Answer.TheVariants as cell_answers
use Rattle.card_core.specs.declared.fault.CardFault.TheVariants.{Programs, Lines, Ports, Journal}
use Rattle.card_core.specs.declared.reply.Reply.{Reply}
use Rattle.card_core.specs.declared.reply.Reply.TheVariants.{Entered, Picked, NotNow, Answered}
use Rattle.card_core.specs.declared.shape.Shape.{Shape}
use Rattle.card_core.specs.declared.step.Step.{Step}
use Rattle.card_core.specs.declared.step.Step.TheVariants.{Enter, Pick, Judge}
use Rattle.upc_cell.specs.Connection.{vc_of}
use Rattle.upc_c.specs.inner.ReachedCore.{IsIdlePort, IsReachedCore}

-- A state that is written to port 0, if it exists, is there.
written : (ports : List PortState) (before state : PortState) → slice_get ports 0 ≡ Some before → slice_get (slice_set ports 0 state) 0 ≡ Some state
written [] before state e = let no : None ≡ Some before = e in cc
written (port ∷ ports) before state e = refl

-- The ports are those of the other world, except for this state of port 0.
abbrev pub With : World → PortState → World → Type 0
With before state after = after.ports ≡ slice_set before.ports 0 state

pub there : (before after : World) (state had : PortState) → slice_get before.ports 0 ≡ Some had → With before state after → slice_get after.ports 0 ≡ Some state
there before after state had e with = ap (λ (ports : List PortState). slice_get ports 0) with ∙ written before.ports had state e

-- A step that isn't refused.
abbrev pub Taken : World → Step → Reply → World → Type 0
Taken before step reply after = Succeeds before step reply after ⊎ FindsNoMemory before step reply after

pub enters : (before after : World) (cell : List ℕ) (moment : ℕ) (reply : Reply) → IsIdlePort before
    → WorldStep before (Enter 0 cell moment) reply after → Taken before (Enter 0 cell moment) reply after
enters before after cell moment reply idle step =
    let P : Option PortState → Type 0 = λ port. MatchOption (enter_refusal port) (Taken before (Enter 0 cell moment) reply after)
    (λ refused. IsRefused before (Enter 0 cell moment) refused reply after) in
    subst P idle step

-- A cell enters a port without a cell, and no other reply is possible.
pub entered-there : (before after : World) (cell : List ℕ) (moment : ℕ) → Taken before (Enter 0 cell moment) Entered after
    → With before (entered cell moment) after
entered-there before after cell moment (inl e) = ap (λ (w : World). w.ports) e.world
entered-there before after cell moment (inr l) = let no = l.answer in cc

never-now : (before after : World) (cell : List ℕ) (moment : ℕ) → Taken before (Enter 0 cell moment) NotNow after → ⊥
never-now before after cell moment (inl e) = let no : NotNow ≡ Entered = e.answer in cc
never-now before after cell moment (inr l) = let no = l.answer in cc

-- The two outcomes of a pick, by whether a connection is missing.
abbrev pub PickedBy : Bool → World → Reply → World → Type 0
PickedBy missing before reply after = MatchOption (if missing then Some (Answered cell_answers.NoConnection) else None)
    (Taken before (Pick 0) reply after) (λ refused. IsRefused before (Pick 0) refused reply after)

pub picks : (before after : World) (cell : List ℕ) (moment : ℕ) (reply : Reply) → slice_get before.ports 0 ≡ Some (entered cell moment)
    → WorldStep before (Pick 0) reply after → PickedBy (is_none (connection_in before.connections (vc_of before.shape.side cell))) before reply after
picks before after cell moment reply had step =
    let P : Option PortState → Type 0 = λ port. MatchOption (pick_refusal before port) (Taken before (Pick 0) reply after)
    (λ refused. IsRefused before (Pick 0) refused reply after) in
    subst P had step

-- After an answer at the pick the port has no cell.
pick-answered : (missing : Bool) (before after : World) (cell : List ℕ) (moment : ℕ) (answer : Answer)
    → slice_get before.ports 0 ≡ Some (entered cell moment) → PickedBy missing before (Answered answer) after → With before outside after
pick-answered true before after cell moment answer had is =
    ap (λ (w : World). w.ports) (is.world ∙ ap (left_by_pick before 0) had)
pick-answered false before after cell moment answer had (inl p) = let no : Answered answer ≡ Picked = p.answer in cc
pick-answered false before after cell moment answer had (inr l) = let no = l.answer in cc

-- After a successful pick the port has the picked cell, whose connection is there.
pub record PickedFrom (before after : World) : Type 0 where
  pub picking : Picking
  pub connection : Connection
  pub found : connection_in after.connections picking.vc ≡ Some connection
  pub same : connection.incarnation ≡ picking.incarnation
  pub placed : With before (picked picking) after

pub pick-picked : (missing : Bool) (before after : World) (cell : List ℕ) (moment : ℕ) → PickedBy missing before Picked after → PickedFrom before after
pick-picked true before after cell moment is = let no : Picked ≡ Answered cell_answers.NoConnection = is.answer in cc
pick-picked false before after cell moment (inl p) =
    let vc = vc_of before.shape.side p.cell in record {
      picking = picking_of p.cell p.moment vc p.connection p.value;
      connection = p.connection;
      found = ap (λ (w : World). connection_in w.connections vc) p.world ∙ p.found;
      same = refl;
      placed = ap (λ (w : World). w.ports) p.world;
    }
pick-picked false before after cell moment (inr l) = let no = l.answer in cc

-- After the judgement the port has no cell.
judge-answered : (refusal : Option Answer) (before after : World) (picking : Picking) (answer : Answer)
    → slice_get before.ports 0 ≡ Some (picked picking)
    → MatchOption (option_map Answered refusal) (Taken before (Judge 0) (Answered answer) after)
    (λ refused. IsRefused before (Judge 0) refused (Answered answer) after) → With before outside after
judge-answered None before after picking answer had (inl j) = ap (λ (w : World). w.ports) j.world
judge-answered None before after picking answer had (inr l) = let no = l.answer in cc
judge-answered (Some refused) before after picking answer had is =
    ap (λ (w : World). w.ports) (is.world ∙ ap (left_by_judge before 0) had)

judged : (before after : World) (picking : Picking) (answer : Answer) → slice_get before.ports 0 ≡ Some (picked picking)
    → WorldStep before (Judge 0) (Answered answer) after → With before outside after
judged before after picking answer had step =
    let P : Option PortState → Type 0 = λ port. MatchOption (judge_refusal before port) (Taken before (Judge 0) (Answered answer) after)
    (λ refused. IsRefused before (Judge 0) refused (Answered answer) after) in
    judge-answered (picking_refusal before picking (connection_in before.connections picking.vc)) before after picking answer had (subst P had step)

-- The events of a cell, with the answer at the pick or at the judgement.
abbrev pub at_pick : List ℕ → ℕ → Answer → List Event
at_pick cell moment answer =
    record { step = Enter 0 cell moment; reply = Entered } ∷ record { step = Pick 0; reply = Answered answer } ∷ []

abbrev pub at_judging : List ℕ → ℕ → Answer → List Event
at_judging cell moment answer =
    record { step = Enter 0 cell moment; reply = Entered } ∷ record { step = Pick 0; reply = Picked }
    ∷ record { step = Judge 0; reply = Answered answer } ∷ []

-- Of two states that are written to port 0 one after the other, the later one remains.
written-twice : (ports : List PortState) (one other : PortState) → slice_set (slice_set ports 0 one) 0 other ≡ slice_set ports 0 other
written-twice [] one other = refl
written-twice (port ∷ ports) one other = refl

over : (before next after : World) (one other : PortState) → With before one next → With next other after → With before other after
over before next after one other first second =
    second ∙ ap (λ (ports : List PortState). slice_set ports 0 other) first ∙ written-twice before.ports one other

left-same : (before last after : World) → after ≡ last → With before outside last → With before outside after
left-same before last after same left = ap (λ (w : World). w.ports) same ∙ left

-- The steps of a cell leave port 0 without a cell, and the other ports as they were.
pick-leaves : (before after : World) (cell : List ℕ) (moment : ℕ) (answer : Answer) → IsIdlePort before
    → Run before (at_pick cell moment answer) after → With before outside after
pick-leaves before after cell moment answer idle run =
    let one = run.0 in let entering = entered-there before one cell moment (enters before one cell moment Entered idle run.1) in
    let in_port = there before one (entered cell moment) outside idle entering in
    let two = run.2.0 in
    let left = pick-answered (is_none (connection_in one.connections (vc_of one.shape.side cell))) one two cell moment answer in_port
    (picks one two cell moment (Answered answer) in_port run.2.1) in
    left-same before two after run.2.2 (over before one two (entered cell moment) outside entering left)

judging-leaves : (before after : World) (cell : List ℕ) (moment : ℕ) (answer : Answer) → IsIdlePort before
    → Run before (at_judging cell moment answer) after → With before outside after
judging-leaves before after cell moment answer idle run =
    let one = run.0 in let entering = entered-there before one cell moment (enters before one cell moment Entered idle run.1) in
    let in_port = there before one (entered cell moment) outside idle entering in
    let two = run.2.0 in
    let from = pick-picked (is_none (connection_in one.connections (vc_of one.shape.side cell))) one two cell moment
    (picks one two cell moment Picked in_port run.2.1) in
    let found = there one two (picked from.picking) (entered cell moment) in_port from.placed in
    let three = run.2.2.0 in
    let left = judged two three from.picking answer found run.2.2.1 in
    let picked_there = over before one two (entered cell moment) (picked from.picking) entering from.placed in
    left-same before three after run.2.2.2 (over before two three (picked from.picking) outside picked_there left)

idle-left : (before after : World) → IsIdlePort before → With before outside after → IsIdlePort after
idle-left before after idle left = there before after outside outside idle left

-- If no port had a cell, none has one after port 0 was emptied.
second-passes : (one other : Bool) → not (one && other) ≡ false → not other ≡ false
second-passes true other e = e
second-passes false other e = let no : true ≡ false = e in cc

still-quiet : (ports : List PortState) → not (list_all is_outside ports) ≡ false → not (list_all is_outside (slice_set ports 0 outside)) ≡ false
still-quiet [] quiet = refl
still-quiet (port ∷ ports) quiet = second-passes (is_outside port) (list_all is_outside ports) quiet

quiet-left : (before after : World) → is_busy before ≡ false → With before outside after → is_busy after ≡ false
quiet-left before after quiet left = ap (λ (ports : List PortState). not (list_all is_outside ports)) left ∙ still-quiet before.ports quiet

-- The log with the events of the cell.
answers-reached_by : (old new : CoreView) (cell : List ℕ) (moment : ℕ) (answer : Answer) → IsReachedCore old
    → AnsweredByPick old 0 cell moment answer new ⊎ AnsweredByJudgement old 0 cell moment answer new → IsReachedCore new
answers-reached_by old new cell moment answer reached (inl follows) = ∥∥₁_map reached (λ r.
    let gone = follows r.shape r.log r.world r.leads r.agrees in
    record {
      shape = r.shape;
      log = r.log ++ at_pick cell moment answer;
      world = gone.after;
      leads = gone.leads;
      agrees = gone.agrees;
      idle = idle-left r.world gone.after r.idle (pick-leaves r.world gone.after cell moment answer r.idle gone.stepped);
      quiet = quiet-left r.world gone.after r.quiet (pick-leaves r.world gone.after cell moment answer r.idle gone.stepped);
    })
answers-reached_by old new cell moment answer reached (inr follows) = ∥∥₁_map reached (λ r.
    let gone = follows r.shape r.log r.world r.leads r.agrees in
    record {
      shape = r.shape;
      log = r.log ++ at_judging cell moment answer;
      world = gone.after;
      leads = gone.leads;
      agrees = gone.agrees;
      idle = idle-left r.world gone.after r.idle (judging-leaves r.world gone.after cell moment answer r.idle gone.stepped);
      quiet = quiet-left r.world gone.after r.quiet (judging-leaves r.world gone.after cell moment answer r.idle gone.stepped);
    })

pub answers-reached : (old new : CoreView) (cell : List ℕ) (moment : ℕ) (answer : Answer) → IsReachedCore old
    → AnswersArrival old 0 cell moment answer new → IsReachedCore new
answers-reached old new cell moment answer reached goes =
    answers-reached_by old new cell moment answer reached (arrival-ways old new 0 cell moment answer goes)

-- NotNow is never the answer.
pub always-now : (old new : CoreView) (cell : List ℕ) (moment : ℕ) → IsReachedCore old → Follows old (Enter 0 cell moment) NotNow new → ⊥
always-now old new cell moment reached follows = ∥∥₁_elim reached (λ x y. absurd x) (λ r.
    let gone = follows r.shape r.log r.world r.leads r.agrees in
    never-now r.world gone.after cell moment (enters r.world gone.after cell moment NotNow r.idle gone.stepped))

-- A card has port 0.
some-port : (programs lines ports journal : Bool)
    → (if programs then Some Programs else if lines then Some Lines else if ports then Some Ports else if journal then Some Journal else None) ≡ None
    → ports ≡ false
some-port true lines ports journal e = let no : Some Programs ≡ None = e in cc
some-port false true ports journal e = let no : Some Lines ≡ None = e in cc
some-port false false true journal e = let no : Some Ports ≡ None = e in cc
some-port false false false journal e = refl

first-idle : (ports : ℕ) → is_beyond ports 16 ≡ false → slice_get (replicate ports outside) 0 ≡ Some outside
first-idle zero e = let no : true ≡ false = e in cc
first-idle (suc more) e = refl

pub opening-idle : (shape : Shape) → shape_fault shape ≡ None → IsIdlePort (opening_world shape)
opening-idle shape e =
    first-idle shape.ports (some-port (is_beyond shape.programs 1024) (is_beyond shape.lines 4096) (is_beyond shape.ports 16) (is_beyond shape.journal 65536) e)

all-outside : (ports : ℕ) → not (list_all is_outside (replicate ports outside)) ≡ false
all-outside zero = refl
all-outside (suc more) = all-outside more

-- The empty log leads to the opening world.
pub opening-reached : (shape : Shape) (core : CoreView) → shape_fault shape ≡ None → CoreAgrees core (opening_world shape) → IsReachedCore core
opening-reached shape core fits agrees = ∣ record {
  shape = shape;
  log = [];
  world = opening_world shape;
  leads = refl;
  agrees = agrees;
  idle = opening-idle shape fits;
  quiet = all-outside shape.ports;
} ∣₁
