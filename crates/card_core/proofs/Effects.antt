-- The effect that a step's reply shows on the codes, the connections, the ports and the verdicts.
use Rattle.std.proofs.Common.{◌≡◌, ◌≢◌, ◌⊎◌, ℕ, ◌<◌, ◌==◌, false, List, [], ◌∷◌, ◌++◌, map, filter, set, Some, None, slice_get, append-nil, refl, sym, ap, ◌∙◌, subst, inl, inr}
use Rattle.std.proofs.lemmas.Bool.{ne_eqb}
use Rattle.upc_cell.specs.declared.vc.Vc.{Vc}
use Rattle.upc_cell.specs.Connection.{vc_of, is_same_vc}
use Rattle.upc_cell.proofs.Public.{vc_cases}
use Rattle.bpf_code.specs.declared.instr.Instr.{Instr}
use Rattle.gen_arena.specs.declared.id.Id.{Id}
use Rattle.card_core.specs.declared.ask.Ask.{Ask}
use Rattle.card_core.specs.declared.reply.Reply.{Reply}
use Rattle.card_core.specs.declared.reply.Reply.TheVariants.{Entered, Picked, Loaded, Retired, SetUp}
use Rattle.card_core.specs.declared.shape.Shape.{Shape}
use Rattle.card_core.specs.declared.step.Step.{Step}
use Rattle.card_core.specs.declared.step.Step.TheVariants.{Enter, Pick, Load, Retire, Setup}
use Rattle.card_core.specs.World.{World, Connection, Picking, PortState, entered, picked, code_in, without_code, connection_in, with_connection}
use Rattle.card_core.specs.Steps.{Gives}
use Rattle.card_core.specs.Headline.{loads, retires, changes, moves, named_after, judged_cells, verdicts_on, cells_on, cells_judged_on, as_it_came}
use Rattle.card_core.specs.Judged.{JudgedView}
use Rattle.card_core.proofs.LogLemmas.{event_of}
use Rattle.gen_arena.proofs.Public.{slice_get-set}
use Rattle.card_core.proofs.LookUps.{same_some}
use Rattle.card_core.proofs.ConnectionLemmas.{with-here, with-others}

-- The effect on the codes: none, or one was loaded, or one was retired.
pub data StoreEffects (before after : World) (step : Step) (reply : Reply) : Type 0 where
  store_same : after.loaded ≡ before.loaded → after.live ≡ before.live
      → ((id : Id) → loads id (event_of step reply) ≡ false) → ((id : Id) → retires id (event_of step reply) ≡ false)
      → StoreEffects before after step reply
  store_loaded : (id : Id) (code : List Instr) → step ≡ Load code → reply ≡ Loaded id
      → after.loaded ≡ record { id = id; code = code } ∷ before.loaded
      → after.live ≡ record { id = id; code = code } ∷ before.live
      → code_in before.loaded id ≡ None
      → StoreEffects before after step reply
  store_retired : (id : Id) (code : List Instr) → step ≡ Retire id → reply ≡ Retired code
      → after.loaded ≡ before.loaded → after.live ≡ without_code before.live id
      → code_in before.live id ≡ Some code
      → StoreEffects before after step reply

-- A connection that existed before, and the effect on it.
pub record Kept (shape : Shape) (old connection : Connection) (vc : Vc) (step : Step) (reply : Reply) : Type 0 where
  pub incarnation : connection.incarnation ≡ old.incarnation
  pub line : connection.line ≡ old.line
  pub contracts : connection.contracts ≡ old.contracts
  pub unchanged : changes vc (event_of step reply) ≡ false
  pub program : connection.program ≡ named_after vc old.program reply step
  pub cells : connection.history ≡ old.history ++ cells_judged_on shape vc (event_of step reply ∷ [])
  pub held : connection.history ≡ old.history ++ cells_on old.line (event_of step reply ∷ [])

-- A connection that this step set up.
pub record IsFresh (used : ℕ) (connection : Connection) (vc : Vc) (step : Step) (reply : Reply) : Type 0 where
  pub ask : Ask
  pub asked : ask.vc ≡ vc
  pub step_is : step ≡ Setup ask
  pub reply_is : reply ≡ SetUp (record { vc = ask.vc; incarnation = connection.incarnation })
  pub later : used < connection.incarnation
  pub contracts : connection.contracts ≡ ask.contracts.items
  pub program : connection.program ≡ ask.program
  pub history : connection.history ≡ []

pub data Fate (shape : Shape) (before : World) (vc : Vc) (connection : Connection) (step : Step) (reply : Reply) : Type 0 where
  kept : (old : Connection) → connection_in before.connections vc ≡ Some old → Kept shape old connection vc step reply
      → Fate shape before vc connection step reply
  fresh : IsFresh before.incarnations connection vc step reply → Fate shape before vc connection step reply

abbrev pub ConnectionEffects : Shape → World → World → Step → Reply → Type 0
ConnectionEffects shape before after step reply = (vc : Vc) (connection : Connection)
    → connection_in after.connections vc ≡ Some connection → Fate shape before vc connection step reply

-- The step has no effect on the connection.
pub record IsSilent (vc : Vc) (step : Step) (reply : Reply) : Type 0 where
  pub unchanged : changes vc (event_of step reply) ≡ false
  pub programs : (program : Id) → named_after vc program reply step ≡ program
  pub cells : judged_cells (event_of step reply ∷ []) ≡ []

-- A connection that is unchanged, except for its returned cells, fits a step without an effect on it.
pub kept-silent : (shape : Shape) (old connection : Connection) (vc : Vc) (step : Step) (reply : Reply) → IsSilent vc step reply
    → connection.incarnation ≡ old.incarnation → connection.line ≡ old.line → connection.contracts ≡ old.contracts
    → connection.program ≡ old.program → connection.history ≡ old.history → Kept shape old connection vc step reply
kept-silent shape old connection vc step reply silent incarnation line contracts program history = record {
  incarnation = incarnation;
  line = line;
  contracts = contracts;
  unchanged = silent.unchanged;
  program = program ∙ sym (silent.programs old.program);
  cells = history
      ∙ sym (ap (λ (added : List JudgedView). old.history ++ map as_it_came (filter (λ judged. is_same_vc vc (vc_of shape.side judged.cell)) added)) silent.cells
      ∙ append-nil old.history);
  held = history
      ∙ sym (ap (λ (added : List JudgedView). old.history ++ map as_it_came (filter (λ judged. judged.line == old.line) added)) silent.cells
      ∙ append-nil old.history);
}

pub same-silent : (shape : Shape) (old connection : Connection) (vc : Vc) (step : Step) (reply : Reply) → IsSilent vc step reply
    → connection ≡ old → Kept shape old connection vc step reply
same-silent shape old connection vc step reply silent same =
    subst (λ (c : Connection). Kept shape old c vc step reply) (sym same)
    (kept-silent shape old old vc step reply silent refl refl refl refl refl)

pub connections-same : (shape : Shape) (before after : World) (step : Step) (reply : Reply) → ((vc : Vc) → IsSilent vc step reply)
    → after.connections ≡ before.connections → ConnectionEffects shape before after step reply
connections-same shape before after step reply silent same vc connection found =
    kept connection (subst (λ (l : List (Vc × Connection)). connection_in l vc ≡ Some connection) same found)
    (same-silent shape connection connection vc step reply (silent vc) refl)

-- One connection is written, with this effect, and the others are unchanged.
pub connections-with : (shape : Shape) (before after : World) (step : Step) (reply : Reply) (vc : Vc) (new : Connection)
    → after.connections ≡ with_connection before.connections vc new
    → Fate shape before vc new step reply
    → ((other : Vc) → other ≢ vc → (old : Connection) → connection_in before.connections other ≡ Some old
    → Kept shape old old other step reply)
    → ConnectionEffects shape before after step reply
connections-with shape before after step reply vc new same here others other connection found =
    let at : connection_in (with_connection before.connections vc new) other ≡ Some connection =
    subst (λ (l : List (Vc × Connection)). connection_in l other ≡ Some connection) same found in
    elim (vc_cases other vc) [
      | inl is ↦
          let at_vc : connection_in (with_connection before.connections vc new) vc ≡ Some connection =
          subst (λ (v : Vc). connection_in (with_connection before.connections vc new) v ≡ Some connection) is at in
          let new_is : new ≡ connection = same_some new connection (sym (with-here before.connections vc new) ∙ at_vc) in
          subst (λ (v : Vc). Fate shape before v connection step reply) (sym is)
          (subst (λ (c : Connection). Fate shape before vc c step reply) new_is here)
      | inr apart ↦
          let old : connection_in before.connections other ≡ Some connection =
          sym (with-others before.connections vc new other apart) ∙ at in
          kept connection old (others other apart connection old)
    ]

-- A port keeps its state and didn't move.
abbrev pub PortStays : World → ℕ → PortState → Step → Reply → Type 0
PortStays before port state step reply =
    (slice_get before.ports port ≡ Some state) × (moves port (event_of step reply) ≡ false)

-- This step picks the port's cell.
pub record IsPickedNow (before : World) (port : ℕ) (picking : Picking) (step : Step) (reply : Reply) : Type 0 where
  pub step_is : step ≡ Pick port
  pub reply_is : reply ≡ Picked
  pub had : slice_get before.ports port ≡ Some (entered picking.cell picking.moment)
  pub connection : Connection
  pub found : connection_in before.connections picking.vc ≡ Some connection
  pub incarnation : picking.incarnation ≡ connection.incarnation
  pub program : picking.program ≡ connection.program
  pub code : List Instr
  pub given : code_in before.loaded picking.program ≡ Some code
  pub gives : Gives code picking.cell picking.value

pub record PortEffects (before after : World) (step : Step) (reply : Reply) : Type 0 where
  pub entered_ports : (port : ℕ) (cell : List ℕ) (moment : ℕ) → slice_get after.ports port ≡ Some (entered cell moment)
      → PortStays before port (entered cell moment) step reply ⊎ ((step ≡ Enter port cell moment) × (reply ≡ Entered))
  pub picked_ports : (port : ℕ) (picking : Picking) → slice_get after.ports port ≡ Some (picked picking)
      → PortStays before port (picked picking) step reply ⊎ IsPickedNow before port picking step reply

pub ports-same : (before after : World) (step : Step) (reply : Reply) → after.ports ≡ before.ports
    → ((port : ℕ) → moves port (event_of step reply) ≡ false) → PortEffects before after step reply
ports-same before after step reply same still = record {
  entered_ports = λ port cell moment e.
      inl (subst (λ (l : List PortState). slice_get l port ≡ Some (entered cell moment)) same e, still port);
  picked_ports = λ port picking e.
      inl (subst (λ (l : List PortState). slice_get l port ≡ Some (picked picking)) same e, still port);
}

pub ports-moved : (before after : World) (step : Step) (reply : Reply) (port : ℕ) (state : PortState)
    → after.ports ≡ set before.ports port state → ((other : ℕ) → moves other (event_of step reply) ≡ (other == port))
    → ((cell : List ℕ) (moment : ℕ) → state ≡ entered cell moment → (step ≡ Enter port cell moment) × (reply ≡ Entered))
    → ((picking : Picking) → state ≡ picked picking → IsPickedNow before port picking step reply)
    → PortEffects before after step reply
ports-moved before after step reply port state same moved enters picks = record {
  entered_ports = λ other cell moment e.
      elim (slice_get-set before.ports port other state (entered cell moment)
      (subst (λ (l : List PortState). slice_get l other ≡ Some (entered cell moment)) same e)) [
        | inl here ↦
            subst (λ place. PortStays before place (entered cell moment) step reply ⊎ ((step ≡ Enter place cell moment) × (reply ≡ Entered)))
            (sym here.0) (inr (enters cell moment here.1))
        | inr there ↦ inl (there.1, moved other ∙ ne_eqb other port there.0)
      ];
  picked_ports = λ other picking e.
      elim (slice_get-set before.ports port other state (picked picking)
      (subst (λ (l : List PortState). slice_get l other ≡ Some (picked picking)) same e)) [
        | inl here ↦
            subst (λ place. PortStays before place (picked picking) step reply ⊎ IsPickedNow before place picking step reply)
            (sym here.0) (inr (picks picking here.1))
        | inr there ↦ inl (there.1, moved other ∙ ne_eqb other port there.0)
      ];
}

-- The effect of a step on all parts of the world.
pub record StepEffects (shape : Shape) (before : World) (step : Step) (reply : Reply) (after : World) : Type 0 where
  pub shape_same : after.shape ≡ before.shape
  pub store : StoreEffects before after step reply
  pub connections : ConnectionEffects shape before after step reply
  pub ports : PortEffects before after step reply
  pub verdicts : (line : ℕ) → after.verdicts line ≡ before.verdicts line ++ verdicts_on line (event_of step reply ∷ [])
