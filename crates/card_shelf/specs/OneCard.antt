-- A shelf beside one card that has all its connections. Both give the same answer to each arrival, except for what
-- belongs to a card: the number of the line, the count on it, and the id of the program.
use Rattle.std.specs.Prelude.{◌≡◌, ◌≤◌, ◌^◌, ◌+◌, ◌*◌, ℕ, List, [], ◌∷◌, length, fold, ⊤, Some, Result, slice_get}
use Rattle.upc_cell.specs.declared.side.Side.{Side}
use Rattle.upc_cell.specs.declared.vc.Vc.{Vc}
use Rattle.card_core.specs.Agreement.{CoreView, CoreAgrees}
use Rattle.card_core.specs.Log.{Event, Leads}
use Rattle.card_core.specs.Sections.{answer_to}
use Rattle.card_core.specs.World.{World, Loading}
use Rattle.card_core.specs.declared.answer.Judgement.{Judgement}
use Rattle.card_core.specs.declared.answer.Unjudged.{Unjudged}
use Rattle.card_core.specs.declared.shape.Shape.{Shape}
use Rattle.card_isolation.specs.Isolation.{account_of}
use Rattle.card_isolation.specs.Outcome.{outcome_of}
use Rattle.card_isolation.specs.OwnEvents.{acts_of, codes_after}
use Rattle.card_shelf.specs.declared.arrival.Arrival.{Arrival}
use Rattle.card_shelf.specs.Dealing.{card_of, card_for}
use Rattle.card_shelf.specs.Logs.{GoesOnBy}
use Rattle.card_shelf.specs.Own.{ServesAll, own_arrivals, own_decisions}
use Rattle.card_shelf.specs.Policing.{PolicesAll}

-- The log is one of this card: it leads to a world that the card agrees with.
pub record IsLogOf (shape : Shape) (log : List Event) (card : CoreView) : Type 0 where
  pub world : World
  pub leads : Leads shape log world
  pub agrees : CoreAgrees card world

-- A card of this shape, and a log of the steps that it has taken.
pub record LoggedCard : Type 0 where
  pub shape : Shape
  pub log : List Event
  pub card : CoreView

-- The cards of a shelf, each of this shape, and for each a log of the steps that it has taken.
pub record LoggedShelf : Type 0 where
  pub shape : Shape
  pub logs : List (List Event)
  pub cards : List CoreView

-- The cells of the card and of the shelf have the same header, their journals hold as many entries, and the logs are
-- theirs.
pub record AreLogged (one : LoggedCard) (shelf : LoggedShelf) : Type 0 where
  pub side : one.shape.side ≡ shelf.shape.side
  pub journal : one.shape.journal ≡ shelf.shape.journal
  pub here : IsLogOf one.shape one.log one.card
  pub sized : length shelf.logs ≡ length shelf.cards
  pub each : (number : ℕ) (own : List Event) (core : CoreView) → slice_get shelf.logs number ≡ Some own
      → slice_get shelf.cards number ≡ Some core → IsLogOf shelf.shape own core

-- The card is beside the shelf: for each connection it has the same account as the card of the shelf that serves the
-- connection. The same was done for the connection, in the same order, with the same outcomes.
pub record IsBeside (one : LoggedCard) (shelf : LoggedShelf) : Type 0 where
  pub logged : AreLogged one shelf
  pub accounts : (vc : Vc) (own : List Event) → slice_get shelf.logs (card_of vc (length shelf.logs)) ≡ Some own
      → account_of one.shape.side vc one.log ≡ account_of shelf.shape.side vc own

-- With this number of further events each log has at most 2^62. After 2^62 cells of a line a card answers that its journal
-- is full.
pub record HaveTimeFor (events : ℕ) (one : LoggedCard) (shelf : LoggedShelf) : Type 0 where
  pub here : length one.log + events ≤ 2 ^ 62
  pub each : (number : ℕ) (own : List Event) → slice_get shelf.logs number ≡ Some own → length own + events ≤ 2 ^ 62

-- The codes that were loaded by this log, each under its id.
abbrev pub codes_in : List Event → List Loading
codes_in log = fold (λ codes event. codes_after codes event.reply event.step) [] log

-- After these logs two cards have given the same answer to an arrival: the moment, the value, the code of the program
-- that gave it, the verdict and the cell as it leaves, or why the cell was not judged.
abbrev pub AreAlike : List Event → List Event → Arrival → Result Judgement Unjudged → Result Judgement Unjudged → Type 0
AreAlike log another arrival answer decision =
    outcome_of (codes_in log) (answer_to arrival.cell answer) ≡ outcome_of (codes_in another) (answer_to arrival.cell decision)

-- The card of an arrival, which has one of these logs, has given the same answer to it as the card with this log.
abbrev pub IsDecidedAlike : Side → List Event → List (List Event) → Arrival → Result Judgement Unjudged → Result Judgement Unjudged → Type 0
IsDecidedAlike side log logs arrival answer decision = (own : List Event) → slice_get logs (card_for side (length logs) arrival) ≡ Some own
    → AreAlike log own arrival answer decision

-- The same holds for each of these arrivals.
abbrev pub AreDecidedAlike : Side → List Event → List (List Event) → List Arrival → List (Result Judgement Unjudged) → List (Result Judgement Unjudged) → Type 0
AreDecidedAlike side log logs [] [] [] = ⊤
AreDecidedAlike side log logs (arrival ∷ later) (answer ∷ answers) (decision ∷ more) =
    IsDecidedAlike side log logs arrival answer decision × AreDecidedAlike side log logs later answers more
AreDecidedAlike side log logs _ _ _ = ⊥

-- Afterwards both have longer logs: the card's goes on by the steps of these arrivals, and that of each card of the shelf
-- by the steps of its own arrivals. The card is beside the shelf again, and both have given the same answer to each arrival.
pub record StaysBeside (one : LoggedCard) (shelf : LoggedShelf) (next : CoreView) (new : List CoreView) (arrivals : List Arrival)
    (answers decisions : List (Result Judgement Unjudged)) : Type 0 where
  pub log : List Event
  pub logs : List (List Event)
  pub goes_on : GoesOnBy one.log arrivals answers log
  pub sized : length logs ≡ length shelf.logs
  pub each_goes_on : (number : ℕ) (earlier own : List Event) → slice_get shelf.logs number ≡ Some earlier
      → slice_get logs number ≡ Some own
      → GoesOnBy earlier (own_arrivals shelf.shape.side (length shelf.logs) number arrivals)
      (own_decisions shelf.shape.side (length shelf.logs) number arrivals decisions) own
  pub beside : IsBeside (record one { log = log; card = next }) (record shelf { logs = logs; cards = new })
  pub alike : AreDecidedAlike shelf.shape.side log logs arrivals answers decisions

-- The answers of the cards of a shelf to these arrivals are those of one card with all their connections. This holds for
-- any card beside them, and for any answers of that card to all the arrivals, one after another.
abbrev pub DecidesAsOneCard : Shape → List CoreView → List Arrival → List (Result Judgement Unjudged) → List CoreView → Type 0
DecidesAsOneCard shape old arrivals decisions new =
    (one : LoggedCard) (logs : List (List Event)) (next : CoreView) (answers : List (Result Judgement Unjudged))
    → IsBeside one (record { shape = shape; logs = logs; cards = old })
    → HaveTimeFor (3 * length arrivals) one (record { shape = shape; logs = logs; cards = old })
    → ServesAll one.card arrivals answers next
    → StaysBeside one (record { shape = shape; logs = logs; cards = old }) next new arrivals answers decisions

-- If each arrival is answered by its own card, one after another, the answers are those of one card with all the connections.
abbrev pub ShelvesDecideAsOneCard : Type 0
ShelvesDecideAsOneCard = (shape : Shape) (old new : List CoreView) (arrivals : List Arrival) (decisions : List (Result Judgement Unjudged))
    → PolicesAll shape.side old arrivals decisions new → DecidesAsOneCard shape old arrivals decisions new

-- A card is beside a shelf if the same was done for each connection, in the same order, on the one card and on the card of
-- the shelf that serves the connection. The outcomes are then the same.
abbrev pub TheSameActsSuffice : Type 0
TheSameActsSuffice = (one : LoggedCard) (shelf : LoggedShelf) → AreLogged one shelf → HaveTimeFor 0 one shelf
    → ((vc : Vc) (own : List Event) → slice_get shelf.logs (card_of vc (length shelf.logs)) ≡ Some own
    → acts_of (account_of one.shape.side vc one.log) ≡ acts_of (account_of shelf.shape.side vc own))
    → IsBeside one shelf
