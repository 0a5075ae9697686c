-- One connection's part of a world, and the effect of a step on it.
use Rattle.std.proofs.Common.{◌≡◌, ℕ, ◌≤◌, ◌==◌, suc, Bool, false, if◌then◌else◌, List, map, length, Option, Some, None, slice_get, option_map, sym, ap, ◌∙◌, subst, arith}
use Rattle.upc_cell.specs.declared.side.Side.{Side}
use Rattle.upc_cell.specs.declared.vc.Vc.{Vc}
use Rattle.upc_cell.specs.Connection.{vc_of, is_same_vc}
use Rattle.leaky.specs.declared.verdict.Verdict.{Verdict}
use Rattle.card_core.specs.declared.reply.Reply.{Reply}
use Rattle.card_core.specs.declared.step.Step.{Step}
use Rattle.card_core.specs.World.{World, Loading, Connection, Picking, PortState, outside, entered, picked, code_in, connection_in}
use Rattle.card_core.specs.Log.{Event}
use Rattle.card_isolation.specs.OwnEvents.{OwnEvent, Notes, notes_after, own_event}
use Rattle.card_isolation.proofs.Basics.{pointwise}
use Rattle.card_isolation.proofs.Forgotten.{forgotten}
use Rattle.card_isolation.proofs.Alone.{OwnConnection, Place, idle, came, looked, Alone, Does}

abbrev pub event_of : Step → Reply → Event
event_of step reply = record { step = step; reply = reply }

-- The connection without the values that it shares with others.
abbrev pub own_connection_of : List Loading → Connection → OwnConnection
own_connection_of given connection = record {
  contracts = connection.contracts;
  code = code_in given connection.program;
  history = map forgotten connection.history;
  returned = connection.returned;
}

-- The connection is the one that was looked up.
abbrev pub is_current : Option Connection → Picking → Bool
is_current None picking = false
is_current (Some connection) picking = connection.incarnation == picking.incarnation

-- The connection's part of a port in this state.
abbrev pub place_of : Side → Vc → List Loading → Option Connection → Option PortState → Place
place_of side vc given found None = idle
place_of side vc given found (Some outside) = idle
place_of side vc given found (Some (entered cell moment)) = if is_same_vc vc (vc_of side cell) then came cell moment else idle
place_of side vc given found (Some (picked picking)) =
    if is_same_vc vc picking.vc
    then looked picking.cell picking.moment picking.value (code_in given picking.program) (is_current found picking)
    else idle

abbrev pub has_own_in : Side → Vc → Option PortState → Bool
has_own_in side vc None = false
has_own_in side vc (Some outside) = false
has_own_in side vc (Some (entered cell moment)) = is_same_vc vc (vc_of side cell)
has_own_in side vc (Some (picked picking)) = is_same_vc vc picking.vc

abbrev pub alone_of : Side → Vc → List Loading → Option Connection → List PortState → Alone
alone_of side vc given found ports = record {
  connection = option_map (own_connection_of given) found;
  places = λ port. place_of side vc given found (slice_get ports port);
}

-- The connection's part of the world.
abbrev pub alone_in : Vc → World → Alone
alone_in vc world = alone_of world.shape.side vc world.loaded (connection_in world.connections vc) world.ports

-- The reader's state after a log that leads to the world.
abbrev pub notes_in : Vc → World → Notes
notes_in vc world = record {
  codes = world.loaded;
  has_own = λ port. has_own_in world.shape.side vc (slice_get world.ports port);
}

-- The effect of an event on the connection, if it is its own.
abbrev pub Goes : ℕ → Option OwnEvent → Alone → Alone → Type 0
Goes journal None before after = after ≡ before
Goes journal (Some event) before after = Does journal before event after

-- The effect of a step on a connection.
pub record StepEffect (vc : Vc) (before : World) (step : Step) (reply : Reply) (after : World) : Type 0 where
  pub shape : after.shape ≡ before.shape
  pub notes : notes_after before.shape.side vc (notes_in vc before) (event_of step reply) ≡ notes_in vc after
  pub own : Goes before.shape.journal (own_event before.shape.side vc (notes_in vc before) reply step) (alone_in vc before) (alone_in vc after)
  pub counts : (line : ℕ) → length (after.verdicts line) ≤ suc (length (before.verdicts line))

pub no-more : (given : List Verdict) → length given ≤ suc (length given)
no-more given = omega arith

-- The reply and the world after a step, replaced by equal ones.
pub effect-at : (vc : Vc) (before : World) (step : Step) (one other : Reply) (after later : World)
    → one ≡ other → after ≡ later → StepEffect vc before step other later → StepEffect vc before step one after
effect-at vc before step one other after later same leads effect =
    subst (λ (r : Reply). StepEffect vc before step r after) (sym same)
    (subst (λ (w : World). StepEffect vc before step other w) (sym leads) effect)

-- States of the reader with equal parts are equal.
pub same-notes : (one other : Notes) → one.codes ≡ other.codes → ((port : ℕ) → one.has_own port ≡ other.has_own port) → one ≡ other
same-notes one other codes ports =
    ap (λ (c : List Loading). record one { codes = c }) codes
    ∙ ap (λ (has : ℕ → Bool). record other { has_own = has }) (pointwise one.has_own other.has_own ports)

-- States of the connection with equal parts are equal.
pub same-alone : (one other : Alone) → one.connection ≡ other.connection → one.places ≡ other.places → one ≡ other
same-alone one other connection places =
    ap (λ (c : Option OwnConnection). record one { connection = c }) connection
    ∙ ap (λ (p : ℕ → Place). record other { places = p }) places

-- The event isn't the connection's own, and its part of the world is unchanged.
pub goes-by : (journal : ℕ) (event other : Option OwnEvent) (before one after : Alone) → event ≡ other → after ≡ one
    → Goes journal other before one → Goes journal event before after
goes-by journal event other before one after same leads goes =
    subst (λ (e : Option OwnEvent). Goes journal e before after) (sym same)
    (subst (λ (a : Alone). Goes journal other before a) (sym leads) goes)
