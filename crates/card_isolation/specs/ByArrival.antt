-- Own events with the number of the arrival instead of the port. The port of a cell is no part of the acts for its
-- connection.
use Rattle.std.specs.Prelude.{ℕ, suc, ◌==◌, if◌then◌else◌, List, [], ◌∷◌}
use Rattle.card_isolation.specs.Act.{Act, enters, looks_up, judges}
use Rattle.card_isolation.specs.OwnEvents.{OwnEvent}

-- The number of cells of the connection that have entered, and for each port the number, counted from 0, of the latest
-- that entered it.
pub record Arrivals : Type 0 where
  pub entered : ℕ
  pub latest : ℕ → ℕ

-- Initially no cell has entered.
abbrev pub opening_arrivals : Arrivals
opening_arrivals = record { entered = 0; latest = λ port. 0 }

-- The arrivals after one more act.
abbrev pub arrivals_after : Arrivals → Act → Arrivals
arrivals_after arrivals (enters port cell moment) = record {
  entered = suc arrivals.entered;
  latest = λ other. if other == port then arrivals.entered else arrivals.latest other;
}
arrivals_after arrivals _ = arrivals

-- The act with the number of its arrival instead of its port.
abbrev pub with_number : Arrivals → Act → Act
with_number arrivals (enters port cell moment) = enters arrivals.entered cell moment
with_number arrivals (looks_up port) = looks_up (arrivals.latest port)
with_number arrivals (judges port) = judges (arrivals.latest port)
with_number arrivals act = act

-- These events, which come after these arrivals, with numbers of arrivals instead of ports.
abbrev pub by_arrival_after : Arrivals → List OwnEvent → List OwnEvent
by_arrival_after arrivals [] = []
by_arrival_after arrivals (event ∷ later) =
    record event { act = with_number arrivals event.act } ∷ by_arrival_after (arrivals_after arrivals event.act) later

-- The own events of a whole log, with numbers of arrivals instead of ports.
abbrev pub by_arrival : List OwnEvent → List OwnEvent
by_arrival events = by_arrival_after opening_arrivals events
