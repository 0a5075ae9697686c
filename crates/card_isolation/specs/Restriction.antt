-- Restriction: any set of connections, and so each connection, is served as on a card that has no other connections.
use Rattle.std.specs.Prelude.{◌≡◌, ◌≤◌, ◌^◌, ◌⊎◌, ⊤, Bool, true, List, [], ◌∷◌, length, All}
use Rattle.upc_cell.specs.declared.side.Side.{Side}
use Rattle.upc_cell.specs.declared.vc.Vc.{Vc}
use Rattle.upc_cell.specs.Connection.{vc_of, is_same_vc}
use Rattle.card_core.specs.declared.shape.Shape.{Shape}
use Rattle.card_core.specs.declared.step.Step.{Step}
use Rattle.card_core.specs.declared.step.Step.TheVariants.{Enter, Setup, Reload, Release, Cut}
use Rattle.card_core.specs.Log.{Event, IsLog}
use Rattle.card_isolation.specs.OwnEvents.{own_events}

-- Whether the step is for no other connection than the kept ones. An Enter is for the connection of its cell. A Load, a
-- Retire, a Pick and a Judge name no connection, so they pass whatever is kept.
abbrev pub is_for_no_other_than : Side → (Vc → Bool) → Step → Bool
is_for_no_other_than side kept (Enter port cell moment) = kept (vc_of side cell)
is_for_no_other_than side kept (Setup ask) = kept ask.vc
is_for_no_other_than side kept (Reload vc program) = kept vc
is_for_no_other_than side kept (Release vc) = kept vc
is_for_no_other_than side kept (Cut vc) = kept vc
is_for_no_other_than side kept _ = true

-- The first log has steps of the second, in the same order, and may leave steps out. The replies may differ.
abbrev pub LeavesOutSteps : List Event → List Event → Type 0
LeavesOutSteps [] log = ⊤
LeavesOutSteps (event ∷ later) [] = ⊥
LeavesOutSteps (event ∷ later) (first ∷ log) =
    ((event.step ≡ first.step) × LeavesOutSteps later log) ⊎ LeavesOutSteps (event ∷ later) log

-- A card of this shape may have a log of some of these steps, in the same order, without steps for a connection that
-- isn't kept, in which each kept connection has the same own events with the same outcomes.
pub record AreServedAlike (shape : Shape) (kept : Vc → Bool) (log : List Event) : Type 0 where
  pub restricted : List Event
  pub is_log : IsLog shape restricted
  pub leaves_out : LeavesOutSteps restricted log
  pub only_kept : All (λ event. is_for_no_other_than shape.side kept event.step ≡ true) restricted
  pub same : (vc : Vc) → kept vc ≡ true → own_events shape.side vc restricted ≡ own_events shape.side vc log

-- This holds for each set of virtual connections and any log of at most 2^62 events: one log serves all kept
-- connections.
abbrev pub KeptConnectionsAreServedAlike : Type 0
KeptConnectionsAreServedAlike = (shape : Shape) (log : List Event) (kept : Vc → Bool) → IsLog shape log
    → length log ≤ 2 ^ 62 → AreServedAlike shape kept log

-- Whether the step is for no other connection than this one.
abbrev pub is_for_no_other : Side → Vc → Step → Bool
is_for_no_other side vc step = is_for_no_other_than side (λ other. is_same_vc vc other) step

-- A card of this shape may have a log of some of these steps, in the same order, without steps for another connection,
-- in which this one has the same own events with the same outcomes.
pub record IsServedAlone (shape : Shape) (vc : Vc) (log : List Event) : Type 0 where
  pub alone : List Event
  pub is_log : IsLog shape alone
  pub leaves_out : LeavesOutSteps alone log
  pub no_other : All (λ event. is_for_no_other shape.side vc event.step ≡ true) alone
  pub same : own_events shape.side vc alone ≡ own_events shape.side vc log

-- This holds for each virtual connection and any log of at most 2^62 events.
abbrev pub EachIsServedAsAlone : Type 0
EachIsServedAsAlone = (shape : Shape) (log : List Event) (vc : Vc) → IsLog shape log → length log ≤ 2 ^ 62
    → IsServedAlone shape vc log
