-- The own events of a virtual connection in a log: its successful setups, reloads, releases and cuts, and each step of
-- its cells, from Enter to Judge.
use Rattle.std.specs.Prelude.{ℕ, ◌==◌, Bool, false, if◌then◌else◌, List, [], ◌∷◌, map, Option, Some, None}
use Rattle.upc_cell.specs.declared.side.Side.{Side}
use Rattle.upc_cell.specs.declared.vc.Vc.{Vc}
use Rattle.upc_cell.specs.Connection.{vc_of, is_same_vc}
use Rattle.card_core.specs.declared.reply.Reply.{Reply}
use Rattle.card_core.specs.declared.reply.Reply.TheVariants.{Entered, Picked, Answered, Loaded, SetUp, Reloaded, Released, Cut as CutOff}
use Rattle.card_core.specs.declared.step.Step.{Step}
use Rattle.card_core.specs.declared.step.Step.TheVariants.{Enter, Pick, Judge, Load, Setup, Reload, Release, Cut}
use Rattle.card_core.specs.World.{Loading, code_in}
use Rattle.card_core.specs.Log.{Event}
use Rattle.card_isolation.specs.Act.{Act, sets_up, reloads, releases, cuts, enters, looks_up, judges}
use Rattle.card_isolation.specs.Outcome.{Outcome, done, named_before, outcome_of, outcome_of_piece}

-- An act for the connection, and its outcome.
pub record OwnEvent : Type 0 where
  pub act : Act
  pub outcome : Outcome

-- The state of a reader of a log for one connection: the codes that were loaded so far, the latest first, and which
-- ports have a cell of the connection.
pub record Notes : Type 0 where
  pub codes : List Loading
  pub has_own : ℕ → Bool

-- Initially no code was loaded, and no port has a cell.
abbrev pub opening_notes : Notes
opening_notes = record { codes = []; has_own = λ port. false }

-- The loaded codes after the step with this reply.
abbrev pub codes_after : List Loading → Reply → Step → List Loading
codes_after codes (Loaded id) (Load code) = record { id = id; code = code } ∷ codes
codes_after codes _ _ = codes

-- Whether the port has a cell of the connection after the step with this reply, from whether it had one before. A cell
-- that enters belongs to the connection in its header, and a cell that is answered is gone.
abbrev pub has_own_after : Side → Vc → ℕ → Bool → Reply → Step → Bool
has_own_after side vc port had Entered (Enter other cell moment) = if port == other then is_same_vc vc (vc_of side cell) else had
has_own_after side vc port had (Answered answer) (Pick other) = if port == other then false else had
has_own_after side vc port had (Answered answer) (Judge other) = if port == other then false else had
has_own_after side vc port had _ _ = had

-- The reader's state after one more event.
abbrev pub notes_after : Side → Vc → Notes → Event → Notes
notes_after side vc notes event = record {
  codes = codes_after notes.codes event.reply event.step;
  has_own = λ port. has_own_after side vc port (notes.has_own port) event.reply event.step;
}

-- This event, if it is the connection's own.
abbrev pub own_where : Bool → Act → Outcome → Option OwnEvent
own_where is_own act outcome = if is_own then Some (record { act = act; outcome = outcome }) else None

-- The own event of the connection that the step with this reply is, in this state of the reader, if it is one. A step
-- that the desk refused, or that didn't fit the state of its port, is none.
abbrev pub own_event : Side → Vc → Notes → Reply → Step → Option OwnEvent
own_event side vc notes (SetUp owner) (Setup ask) =
    own_where (is_same_vc vc ask.vc) (sets_up ask.contracts.items (code_in notes.codes ask.program)) done
own_event side vc notes (Reloaded old) (Reload other program) =
    own_where (is_same_vc vc other) (reloads (code_in notes.codes program)) (named_before (code_in notes.codes old))
own_event side vc notes (Released piece) (Release other) = own_where (is_same_vc vc other) releases (outcome_of_piece piece)
own_event side vc notes (CutOff piece) (Cut other) = own_where (is_same_vc vc other) cuts (outcome_of_piece piece)
own_event side vc notes Entered (Enter port cell moment) = own_where (is_same_vc vc (vc_of side cell)) (enters port cell moment) done
own_event side vc notes Picked (Pick port) = own_where (notes.has_own port) (looks_up port) done
own_event side vc notes (Answered answer) (Pick port) = own_where (notes.has_own port) (looks_up port) (outcome_of notes.codes answer)
own_event side vc notes (Answered answer) (Judge port) = own_where (notes.has_own port) (judges port) (outcome_of notes.codes answer)
own_event side vc notes _ _ = None

-- This event, if there is one, followed by these.
abbrev pub with_event : Option OwnEvent → List OwnEvent → List OwnEvent
with_event None later = later
with_event (Some event) later = event ∷ later

-- The connection's own events among these, from this state of the reader.
abbrev pub own_events_after : Side → Vc → Notes → List Event → List OwnEvent
own_events_after side vc notes [] = []
own_events_after side vc notes (event ∷ later) =
    with_event (own_event side vc notes event.reply event.step) (own_events_after side vc (notes_after side vc notes event) later)

-- The connection's own events in a whole log.
abbrev pub own_events : Side → Vc → List Event → List OwnEvent
own_events side vc log = own_events_after side vc opening_notes log

-- The acts of these events.
abbrev pub acts_of : List OwnEvent → List Act
acts_of events = map (λ event. event.act) events
