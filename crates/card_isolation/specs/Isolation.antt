-- Isolation: the outcomes of a connection's own acts depend on these acts alone.
use Rattle.std.specs.Prelude.{◌≡◌, ◌≤◌, ◌^◌, List, length}
use Rattle.upc_cell.specs.declared.side.Side.{Side}
use Rattle.upc_cell.specs.declared.vc.Vc.{Vc}
use Rattle.card_core.specs.declared.shape.Shape.{Shape}
use Rattle.card_core.specs.Log.{Event, IsLog}
use Rattle.card_isolation.specs.OwnEvents.{OwnEvent, own_events, acts_of}
use Rattle.card_isolation.specs.ByArrival.{by_arrival}

-- The connection's own events, with numbers of arrivals instead of ports.
abbrev pub account_of : Side → Vc → List Event → List OwnEvent
account_of side vc log = by_arrival (own_events side vc log)

-- Take two logs of at most 2^62 events each, of cards with the same side and the same journal limit. If the acts for a
-- virtual connection are the same, in the same order, so are their outcomes. The cards may differ in their numbers of
-- lines, ports and programs, in the ports at which the cells arrive, and in everything that is done for other
-- connections, before and between these acts. The limit of 2^62 is there since a line that has judged 2^62 cells
-- answers JournalFull.
abbrev pub ConnectionsAreIsolated : Type 0
ConnectionsAreIsolated = (shape other : Shape) (log another : List Event) (vc : Vc)
    → IsLog shape log → IsLog other another
    → shape.side ≡ other.side → shape.journal ≡ other.journal
    → length log ≤ 2 ^ 62 → length another ≤ 2 ^ 62
    → acts_of (account_of shape.side vc log) ≡ acts_of (account_of other.side vc another)
    → account_of shape.side vc log ≡ account_of other.side vc another
