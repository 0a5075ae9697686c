-- The effect of Enter and Pick on a connection.
use Rattle.std.proofs.Common.{◌≡◌, ℕ, Bool, true, false, cond, List, Option, Some, None, slice_get, option_map, refl, sym, ap, ◌∙◌, subst}
use Rattle.std.proofs.lemmas.Bool.{eq-eqb}
use Rattle.upc_cell.specs.declared.side.Side.{Side}
use Rattle.upc_cell.specs.declared.vc.Vc.{Vc}
use Rattle.upc_cell.specs.Connection.{vc_of, is_same_vc}
use Rattle.card_core.specs.declared.reply.Reply.{Reply}
use Rattle.card_core.specs.declared.reply.Reply.TheVariants.{Entered, Picked}
use Rattle.card_core.specs.declared.step.Step.TheVariants.{Enter, Pick}
use Rattle.card_core.specs.World.{World, Connection, Picking, PortState, outside, entered, picked, code_in, connection_in, with_port}
use Rattle.card_core.specs.Refusals.{refusal, enter_refusal}
use Rattle.card_core.specs.Steps.{Enters, Picks, picking_of}
use Rattle.card_isolation.specs.Act.{enters, looks_up}
use Rattle.card_isolation.specs.Outcome.{done}
use Rattle.card_isolation.specs.OwnEvents.{own_where, notes_after}
use Rattle.card_isolation.proofs.Basics.{with_at, with_at-same, seen-set}
use Rattle.card_isolation.proofs.Connections.{found-same}
use Rattle.card_isolation.proofs.Alone.{OwnConnection, Place, idle, came, looked, Alone, IsNamed, LooksUp, found_alone, is_idle}
use Rattle.card_isolation.proofs.Views.{event_of, own_connection_of, is_current, place_of, has_own_in, alone_in, notes_in, Goes, StepEffect, no-more, same-notes, same-alone, goes-by, effect-at}

-- A port has a new state: the connection's part of it, and the reader's state of it.

pub places-set : (vc : Vc) (before : World) (port : ℕ) (old new : PortState) → slice_get before.ports port ≡ Some old
    → alone_in vc (with_port before port new)
    ≡ record (alone_in vc before) {
      places = with_at (alone_in vc before).places port (place_of before.shape.side vc before.loaded (connection_in before.connections vc) (Some new));
    }
places-set vc before port old new had =
    same-alone (alone_in vc (with_port before port new))
    (record (alone_in vc before) {
      places = with_at (alone_in vc before).places port (place_of before.shape.side vc before.loaded (connection_in before.connections vc) (Some new));
    })
    refl
    (seen-set (place_of before.shape.side vc before.loaded (connection_in before.connections vc)) before.ports port new old had)

pub noted-set : (vc : Vc) (before : World) (port : ℕ) (old new : PortState) → slice_get before.ports port ≡ Some old
    → (notes_in vc (with_port before port new)).has_own
    ≡ with_at (notes_in vc before).has_own port (has_own_in before.shape.side vc (Some new))
noted-set vc before port old new had = seen-set (has_own_in before.shape.side vc) before.ports port new old had

-- A cell may enter only a port without a cell.
pub let_in : (o : Option PortState) → enter_refusal o ≡ None → o ≡ Some outside
let_in None e = absurd (cc)
let_in (Some outside) e = refl
let_in (Some (entered cell moment)) e = absurd (cc)
let_in (Some (picked picking)) e = absurd (cc)

pub effect-enters : (vc : Vc) (before : World) (port : ℕ) (cell : List ℕ) (moment : ℕ) (reply : Reply) (after : World)
    → refusal before (Enter port cell moment) ≡ None → Enters before port cell moment reply after
    → StepEffect vc before (Enter port cell moment) reply after
effect-enters vc before port cell moment reply after allowed w =
    let side : Side = before.shape.side in
    let alone : Alone = alone_in vc before in
    let own : Bool = is_same_vc vc (vc_of side cell) in
    let was : slice_get before.ports port ≡ Some outside = let_in (slice_get before.ports port) allowed in
    let was_idle : alone.places port ≡ idle = ap (place_of side vc before.loaded (connection_in before.connections vc)) was in
    let later : World = with_port before port (entered cell moment) in
    let choice : (b : Bool) → Goes before.shape.journal (own_where b (enters port cell moment) done) alone
    (record alone { places = with_at alone.places port (cond b (came cell moment) idle) }) = elim [
      | true ↦ record { fits = tt; outcome = refl; next = refl }
      | false ↦ ap (λ (p : ℕ → Place). record alone { places = p }) (with_at-same alone.places port idle was_idle)
    ] in
    effect-at vc before (Enter port cell moment) reply Entered after later w.answer w.world (record {
      shape = refl;
      notes = same-notes (notes_after side vc (notes_in vc before) (event_of (Enter port cell moment) Entered)) (notes_in vc later) refl
          (λ other. ap (λ (has : ℕ → Bool). has other) (sym (noted-set vc before port outside (entered cell moment) was)));
      own = goes-by before.shape.journal (own_where own (enters port cell moment) done) (own_where own (enters port cell moment) done) alone
          (record alone { places = with_at alone.places port (cond own (came cell moment) idle) }) (alone_in vc later) refl
          (places-set vc before port outside (entered cell moment) was) (choice own);
      counts = λ line. no-more (before.verdicts line);
    })

-- A look-up with the connection that was found.
looks-up : (connection : Option OwnConnection) (own_connection : OwnConnection) (place : Place) (cell : List ℕ) (moment : ℕ) (after : Place)
    → connection ≡ Some own_connection → place ≡ came cell moment → IsNamed own_connection cell moment after → LooksUp connection place after
looks-up connection own_connection place cell moment after found at named =
    subst (λ (c : Option OwnConnection). LooksUp c place after) (sym found)
    (subst (λ (p : Place). LooksUp (Some own_connection) p after) (sym at) named)

pub effect-picks : (vc : Vc) (before : World) (port : ℕ) (reply : Reply) (after : World)
    → Picks before port reply after → StepEffect vc before (Pick port) reply after
effect-picks vc before port reply after w =
    let side : Side = before.shape.side in
    let alone : Alone = alone_in vc before in
    let own : Bool = is_same_vc vc (vc_of side w.cell) in
    let here : Option Connection = connection_in before.connections vc in
    let picking : Picking = picking_of w.cell w.moment (vc_of side w.cell) w.connection w.value in
    let later : World = with_port before port (picked picking) in
    let place : Place = looked w.cell w.moment w.value (code_in before.loaded w.connection.program) (is_current here picking) in
    let had : has_own_in side vc (slice_get before.ports port) ≡ own = ap (has_own_in side vc) w.had in
    let at : alone.places port ≡ cond own (came w.cell w.moment) idle = ap (place_of side vc before.loaded here) w.had in
    let choice : (b : Bool) → own ≡ b → Goes before.shape.journal (own_where b (looks_up port) done) alone
    (record alone { places = with_at alone.places port (cond b place idle) }) = elim [
      | true ↦ λ e.
          let found : here ≡ Some w.connection = found-same before.connections vc (vc_of side w.cell) (Some w.connection) e w.found in
          let own_connection : alone.connection ≡ Some (own_connection_of before.loaded w.connection) = ap (option_map (own_connection_of before.loaded)) found in
          let named : IsNamed (own_connection_of before.loaded w.connection) w.cell w.moment place = record {
            code = w.code;
            named = w.named;
            value = w.value;
            gives = w.gives;
            is = ap (looked w.cell w.moment w.value (code_in before.loaded w.connection.program))
                (ap (λ (o : Option Connection). is_current o picking) found
                ∙ eq-eqb w.connection.incarnation w.connection.incarnation refl);
          } in
          record {
            fits = ap is_idle (at ∙ ap (λ b. cond b (came w.cell w.moment) idle) e);
            outcome = sym (ap found_alone own_connection);
            next = (
              place,
              looks-up alone.connection (own_connection_of before.loaded w.connection) (alone.places port) w.cell w.moment place
                  own_connection (at ∙ ap (λ b. cond b (came w.cell w.moment) idle) e) named,
              refl,
            );
          }
      | false ↦ λ e.
          ap (λ (p : ℕ → Place). record alone { places = p })
          (with_at-same alone.places port idle (at ∙ ap (λ b. cond b (came w.cell w.moment) idle) e))
    ] in
    effect-at vc before (Pick port) reply Picked after later w.answer w.world (record {
      shape = refl;
      notes = same-notes (notes_after side vc (notes_in vc before) (event_of (Pick port) Picked)) (notes_in vc later) refl
          (λ other.
          ap (λ (has : ℕ → Bool). has other) (sym (with_at-same (notes_in vc before).has_own port own had))
          ∙ ap (λ (has : ℕ → Bool). has other) (sym (noted-set vc before port (entered w.cell w.moment) (picked picking) w.had)));
      own = goes-by before.shape.journal (own_where (has_own_in side vc (slice_get before.ports port)) (looks_up port) done)
          (own_where own (looks_up port) done) alone
          (record alone { places = with_at alone.places port (cond own place idle) }) (alone_in vc later)
          (ap (λ b. own_where b (looks_up port) done) had)
          (places-set vc before port (entered w.cell w.moment) (picked picking) w.had) (choice own refl);
      counts = λ line. no-more (before.verdicts line);
    })
