-- The connections of a world are those of its log.
use Rattle.std.proofs.Common.{◌≡◌, ◌≢◌, ℕ, ◌+◌, Bool, true, false, List, [], ◌∷◌, ◌++◌, Option, Some, IsSome, slice_get, is_some, sym, ap, ◌∙◌, subst, inl, inr}
use Rattle.upc_cell.specs.declared.vc.Vc.{Vc}
use Rattle.upc_cell.specs.Connection.{is_same_vc}
use Rattle.upc_cell.proofs.Public.{vc_itself, vc_cases}
use Rattle.line_record.specs.declared.owner.Owner.{Owner}
use Rattle.card_core.specs.declared.ask.Ask.{Ask}
use Rattle.card_core.specs.declared.fault.DeskFault.TheVariants.{NoMemory}
use Rattle.card_core.specs.declared.reply.Reply.{Reply}
use Rattle.card_core.specs.declared.reply.Reply.TheVariants.{SetUp, NotSetUp}
use Rattle.card_core.specs.declared.shape.Shape.{Shape}
use Rattle.card_core.specs.declared.step.Step.{Step}
use Rattle.card_core.specs.declared.step.Step.TheVariants.{Enter, Pick, Judge, Load, Retire, Setup, Reload, Release, Cut}
use Rattle.card_core.specs.World.{World, Connection, PortState, entered, picked, connection_in, with_connection, opening_world}
use Rattle.card_core.specs.Refusals.{setup_fault}
use Rattle.card_core.specs.Steps.{Succeeds, WorldStep, left_by, left_by_pick, left_by_judge, new_connection}
use Rattle.card_core.specs.Log.{Event, Run, Leads}
use Rattle.card_core.specs.Headline.{Never, changes, setting_up, IsInForceSince}
use Rattle.card_core.specs.Laws.{IsConnectionOfLog, ConnectionsFollowFromTheLog}
use Rattle.card_core.proofs.LookUps.{mapped}
use Rattle.card_core.proofs.LogLemmas.{event_of, never-first, never-later}
use Rattle.card_core.proofs.ConnectionLemmas.{with-here, with-others, without-others}
use Rattle.card_core.proofs.Allowed.{succeeded, starved, rejected, step-case}
use Rattle.card_core.proofs.Knows.{KnowsConnection, leads-knows}
use Rattle.card_core.proofs.Promise.{run-parts}

-- A connection remains unless it is released.

there-with : (connections : List (Vc × Connection)) (other : Vc) (new : Connection) (vc : Vc)
    → IsSome (connection_in connections vc) → IsSome (connection_in (with_connection connections other new) vc)
there-with connections other new vc there = elim (vc_cases vc other) [
  | inl same ↦
      subst (λ (v : Vc). IsSome (connection_in (with_connection connections other new) v)) (sym same)
      (ap is_some (with-here connections other new))
  | inr apart ↦ ap is_some (with-others connections other new vc apart) ∙ there
]

apart-from : (vc other : Vc) → is_same_vc vc other ≡ false → vc ≢ other
apart-from vc other none same =
    let at : is_same_vc vc other ≡ true = subst (λ (v : Vc). is_same_vc vc v ≡ true) same (vc_itself vc) in
    absurd (cc)

abbrev IsThere : World → Vc → Type 0
IsThere world vc = IsSome (connection_in world.connections vc)

-- The step with this reply doesn't set up or release the virtual connection.
abbrev Unchanged : Vc → Step → Reply → Type 0
Unchanged vc step reply = changes vc (event_of step reply) ≡ false

stays-success : (before : World) (step : Step) (reply : Reply) (after : World) (vc : Vc) → IsThere before vc
    → Succeeds before step reply after → Unchanged vc step reply → IsThere after vc
stays-success before (Enter port cell moment) reply after vc there w still = subst (λ (v : World). IsThere v vc) (sym w.world) there
stays-success before (Pick port) reply after vc there w still = subst (λ (v : World). IsThere v vc) (sym w.world) there
stays-success before (Judge port) reply after vc there w still =
    subst (λ (v : World). IsThere v vc) (sym w.world) (there-with before.connections w.picking.vc _ vc there)
stays-success before (Load code) reply after vc there w still = subst (λ (v : World). IsThere v vc) (sym w.world) there
stays-success before (Retire id) reply after vc there w still = subst (λ (v : World). IsThere v vc) (sym w.world) there
stays-success before (Setup ask) reply after vc there w still =
    subst (λ (v : World). IsThere v vc) (sym w.world) (there-with before.connections ask.vc _ vc there)
stays-success before (Reload other program) reply after vc there w still =
    subst (λ (v : World). IsThere v vc) (sym w.world) (there-with before.connections other _ vc there)
stays-success before (Release other) reply after vc there w still =
    let differs : is_same_vc vc other ≡ false = subst (λ (r : Reply). Unchanged vc (Release other) r) w.answer still in
    subst (λ (v : World). IsThere v vc) (sym w.world)
    (ap is_some (without-others before.connections other vc (apart-from vc other differs)) ∙ there)
stays-success before (Cut other) reply after vc there w still =
    subst (λ (v : World). IsThere v vc) (sym w.world) (there-with before.connections other _ vc there)

there-left_by_pick : (before : World) (port : ℕ) (o : Option PortState) (vc : Vc) → IsThere before vc → IsThere (left_by_pick before port o) vc
there-left_by_pick before port (Some (entered cell moment)) vc there = there
there-left_by_pick before port _ vc there = there

there-left_by_judge : (before : World) (port : ℕ) (o : Option PortState) (vc : Vc) → IsThere before vc → IsThere (left_by_judge before port o) vc
there-left_by_judge before port (Some (picked picking)) vc there = there
there-left_by_judge before port _ vc there = there

there-left : (before : World) (step : Step) (vc : Vc) → IsThere before vc → IsThere (left_by before step) vc
there-left before (Pick port) vc there = there-left_by_pick before port (slice_get before.ports port) vc there
there-left before (Judge port) vc there = there-left_by_judge before port (slice_get before.ports port) vc there
there-left before _ vc there = there

stays : (before : World) (step : Step) (reply : Reply) (after : World) (vc : Vc) → IsThere before vc
    → WorldStep before step reply after → Unchanged vc step reply → IsThere after vc
stays before step reply after vc there w still = elim (step-case before step reply after w) [
  | succeeded allowed success ↦ stays-success before step reply after vc there success still
  | starved memory ↦ subst (λ (v : World). IsThere v vc) (sym memory.world) there
  | rejected refused e refusing ↦ subst (λ (v : World). IsThere v vc) (sym refusing.world) (there-left before step vc there)
]

stays-run : (before : World) (log : List Event) (after : World) (vc : Vc) → IsThere before vc
    → Run before log after → Never (changes vc) log → IsThere after vc
stays-run before [] after vc there run still = subst (λ (v : World). IsThere v vc) (sym run) there
stays-run before (event ∷ later) after vc there run still =
    stays-run run.0 later after vc
    (stays before event.step event.reply run.0 vc there run.1 (never-first (changes vc) event later still))
    run.2 (never-later (changes vc) event later still)

-- A connection that was set up exists.

has_set_up : Reply → Bool
has_set_up (SetUp owner) = true
has_set_up _ = false

set-up-there : (before : World) (ask : Ask) (owner : Owner) (after : World) → WorldStep before (Setup ask) (SetUp owner) after
    → IsThere after ask.vc
unfolding has_set_up
set-up-there before ask owner after w = elim (step-case before (Setup ask) (SetUp owner) after w) [
  | succeeded allowed success ↦
      subst (λ (v : World). IsThere v ask.vc) (sym success.world)
      (ap is_some (with-here before.connections ask.vc (new_connection ask success.line (before.incarnations + 1))))
  | starved memory ↦
      let answered : Some (NotSetUp NoMemory ask) ≡ Some (SetUp owner) = memory.answer in
      absurd (cc)
  | rejected refused e refusing ↦
      let found = mapped (λ fault. NotSetUp fault ask) (setup_fault before ask) refused e in
      let answered : SetUp owner ≡ NotSetUp found.0 ask = refusing.answer ∙ found.2 in
      absurd (cc)
]

in_force-there : (shape : Shape) (log : List Event) (world : World) → Leads shape log world
    → (vc : Vc) (ask : Ask) (since : List Event) → IsInForceSince log vc ask since → IsThere world vc
in_force-there shape log world leads vc ask since in_force =
    let run : Run (opening_world shape) (in_force.earlier ++ setting_up ask in_force.incarnation ∷ since) world =
    subst (λ (l : List Event). Run (opening_world shape) l world) in_force.cut leads in
    let parts = run-parts (opening_world shape) in_force.earlier (setting_up ask in_force.incarnation ∷ since) world run in
    let there : IsThere parts.2.0 vc =
    subst (λ (v : Vc). IsThere parts.2.0 v) in_force.asked
    (set-up-there parts.0 ask (record { vc = ask.vc; incarnation = in_force.incarnation }) parts.2.0 parts.2.1) in
    stays-run parts.2.0 since world vc there parts.2.2 in_force.unchanged

of-log : (shape : Shape) (log : List Event) (vc : Vc) (connection : Connection) → KnowsConnection shape log vc connection
    → IsConnectionOfLog shape log vc connection
of-log shape log vc connection known = record {
  ask = known.ask;
  since = known.since;
  in_force = known.agrees.in_force;
  incarnation = sym known.agrees.incarnation;
  contracts = known.agrees.contracts;
  program = known.program;
  cells = known.agrees.cells;
  held = known.agrees.held;
}

pub connections-of_log : ConnectionsFollowFromTheLog
connections-of_log shape log world leads = record {
  connections = λ vc connection found. of-log shape log vc connection ((leads-knows shape log world leads).connections vc connection found);
  there = in_force-there shape log world leads;
}
