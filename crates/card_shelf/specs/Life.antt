-- The whole life of a shelf: any batches of arrivals, and any calls of the desk that are granted. The outcomes are those of
-- one card that takes the same calls.
use Rattle.std.specs.Prelude.{◌≡◌, ◌≤◌, ◌^◌, ◌+◌, ◌*◌, ℕ, List, [], ◌∷◌, length, map, ⊤, Some, slice_get}
use Rattle.upc_cell.specs.declared.side.Side.{Side}
use Rattle.card_core.specs.Agreement.{CoreView, CoreAgrees}
use Rattle.card_core.specs.Log.{Event}
use Rattle.card_core.specs.World.{opening_world}
use Rattle.card_core.specs.declared.shape.Shape.{Shape}
use Rattle.card_isolation.specs.Outcome.{Outcome}
use Rattle.card_shelf.specs.Calls.{Call, police, load, retire, serve, CardState, CardGrants, ShelfState, ShelfGrants}
use Rattle.card_shelf.specs.OneCard.{LoggedCard, LoggedShelf, IsBeside, HaveTimeFor, codes_in}

-- The largest number of events that a call adds to the log of a card.
abbrev pub most_events : Call → ℕ
most_events (police arrivals) = 3 * length arrivals
most_events (load code) = 1
most_events retire = 1
most_events (serve vc service) = 1

-- The same for a list of calls.
abbrev pub most_events_of : List Call → ℕ
most_events_of [] = 0
most_events_of (call ∷ later) = most_events call + most_events_of later

-- One card grants these calls, one after another, with these outcomes: a list for each call.
abbrev pub CardGrantsAll : CardState → List Call → List (List Outcome) → Type 0
CardGrantsAll old [] [] = ⊤
CardGrantsAll old (call ∷ later) (outcomes ∷ more) = (next : CardState) × CardGrants call old outcomes next × CardGrantsAll next later more
CardGrantsAll old _ _ = ⊥

-- The shelf grants these calls, one after another, with these outcomes: a list for each call.
abbrev pub ShelfGrantsAll : Side → ShelfState → List Call → List (List Outcome) → Type 0
ShelfGrantsAll side old [] [] = ⊤
ShelfGrantsAll side old (call ∷ later) (outcomes ∷ more) =
    (next : ShelfState) × ShelfGrants side call old outcomes next × ShelfGrantsAll side next later more
ShelfGrantsAll side old _ _ = ⊥

-- A new card and a new shelf take the same calls, and grant them all. Their cells have the same header, and their journals
-- hold as many entries. The calls are so few that no log has more than 2^62 events.
pub record TakeTheSameCalls (calls : List Call) (card_outcomes shelf_outcomes : List (List Outcome)) : Type 0 where
  pub card_shape : Shape
  pub card : CoreView
  pub new_card : CoreAgrees card (opening_world card_shape)
  pub shelf_shape : Shape
  pub cards : List CoreView
  pub new_cards : (number : ℕ) (core : CoreView) → slice_get cards number ≡ Some core → CoreAgrees core (opening_world shelf_shape)
  pub side : card_shape.side ≡ shelf_shape.side
  pub journal : card_shape.journal ≡ shelf_shape.journal
  pub few : most_events_of calls ≤ 2 ^ 62
  pub card_grants : CardGrantsAll (record { card = card; codes = [] }) calls card_outcomes
  pub shelf_grants : ShelfGrantsAll shelf_shape.side (record { cards = cards; codes = map (λ core. []) cards }) calls shelf_outcomes

-- For any list of batches and granted calls of the desk, policed on any number of threads, the outcomes of the shelf are
-- those of one card that takes the same calls, and the arrivals one after another.
abbrev pub ShelvesAnswerAsOneCard : Type 0
ShelvesAnswerAsOneCard = (calls : List Call) (card_outcomes shelf_outcomes : List (List Outcome))
    → TakeTheSameCalls calls card_outcomes shelf_outcomes → shelf_outcomes ≡ card_outcomes

-- A card with this log, and the codes that the log loaded.
abbrev pub card_state_of : LoggedCard → CardState
card_state_of one = record { card = one.card; codes = codes_in one.log }

-- The cards of a shelf with these logs, and the codes that each log loaded.
abbrev pub shelf_state_of : LoggedShelf → ShelfState
shelf_state_of shelf = record { cards = shelf.cards; codes = map codes_in shelf.logs }

-- After a call that both granted, the card is beside the shelf again, with longer logs. These have the codes that are
-- loaded now. There is time for as many further events as before, less those of the call. The outcomes are the same.
pub record GoOnBeside (one : LoggedCard) (shelf : LoggedShelf) (call : Call) (card_outcomes shelf_outcomes : List Outcome) (next : CardState)
    (new : ShelfState) : Type 0 where
  pub log : List Event
  pub logs : List (List Event)
  pub beside : IsBeside (record one { log = log; card = next.card }) (record shelf { logs = logs; cards = new.cards })
  pub codes : next.codes ≡ codes_in log
  pub codes_on : new.codes ≡ map codes_in logs
  pub time : (further : ℕ) → HaveTimeFor (most_events call + further) one shelf
      → HaveTimeFor further (record one { log = log; card = next.card }) (record shelf { logs = logs; cards = new.cards })
  pub same : shelf_outcomes ≡ card_outcomes

-- A card that is beside a shelf stays beside it through each call that both grant, and the outcomes are the same.
abbrev pub CallsKeepACardBeside : Type 0
CallsKeepACardBeside = (one : LoggedCard) (shelf : LoggedShelf) (call : Call) (card_outcomes shelf_outcomes : List Outcome) (next : CardState)
    (new : ShelfState) → IsBeside one shelf → HaveTimeFor (most_events call) one shelf
    → CardGrants call (card_state_of one) card_outcomes next → ShelfGrants shelf.shape.side call (shelf_state_of shelf) shelf_outcomes new
    → GoOnBeside one shelf call card_outcomes shelf_outcomes next new
