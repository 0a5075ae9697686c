-- A shelf decides as one card does, over its whole life.
use Rattle.std.proofs.Common.{◌≡◌, ℕ, ◌+◌, ◌≤◌, List, [], ◌∷◌, length, map, Some, refl, ap, ◌∙◌, subst, arith}
use Rattle.std.specs.Prelude.{slice_get}
use Rattle.std.proofs.lemmas.List.{length-map}
use Rattle.card_core.specs.Agreement.{CoreView}
use Rattle.card_core.specs.Log.{Event}
use Rattle.card_core.specs.World.{Loading, opening_world}
use Rattle.card_core.specs.declared.shape.Shape.{Shape}
use Rattle.card_isolation.specs.Isolation.{account_of}
use Rattle.card_isolation.specs.Outcome.{Outcome}
use Rattle.card_shelf.specs.Calls.{Call}
use Rattle.card_shelf.specs.Life.{CardGrantsAll, ShelfGrantsAll, ShelvesAnswerAsOneCard, most_events, most_events_of, card_state_of, shelf_state_of}
use Rattle.card_shelf.specs.OneCard.{LoggedCard, LoggedShelf, IsLogOf, IsBeside, HaveTimeFor, codes_in}
use Rattle.card_shelf.proofs.CallsBeside.{calls-keep}
use Rattle.card_shelf.proofs.Lists.{map-there}

-- Less time is left than that for more.
less-time : (one : LoggedCard) (shelf : LoggedShelf) (few many : ℕ) → few ≤ many → HaveTimeFor many one shelf → HaveTimeFor few one shelf
less-time one shelf few many fewer time = record {
  here = omega (arith, fewer, time.here);
  each = λ number own is. let room = time.each number own is in omega (arith, fewer, room);
}

live-on : (calls : List Call) (answers decisions : List (List Outcome)) (one : LoggedCard) (shelf : LoggedShelf)
    → IsBeside one shelf → HaveTimeFor (most_events_of calls) one shelf
    → CardGrantsAll (card_state_of one) calls answers → ShelfGrantsAll shelf.shape.side (shelf_state_of shelf) calls decisions → decisions ≡ answers
live-on [] [] [] one shelf beside time lives lives_too = refl
live-on [] [] (t ∷ ts) one shelf beside time lives lives_too = absurd lives_too
live-on [] (a ∷ answers) decisions one shelf beside time lives lives_too = absurd lives
live-on (call ∷ later) [] decisions one shelf beside time lives lives_too = absurd lives
live-on (call ∷ later) (a ∷ answers) [] one shelf beside time lives lives_too = absurd lives_too
live-on (call ∷ later) (a ∷ answers) (t ∷ ts) one shelf beside time lives lives_too =
    let next = lives.0 in
    let new = lives_too.0 in
    let went = calls-keep one shelf call a t next new beside (less-time one shelf (most_events call) (most_events call + most_events_of later) (omega arith) time)
    lives.1 lives_too.1 in
    let one_then : LoggedCard = record one { log = went.log; card = next.card } in
    let shelf_then : LoggedShelf = record shelf { logs = went.logs; cards = new.cards } in
    let card_grants : CardGrantsAll (card_state_of one_then) later answers =
    subst (λ (codes : List Loading). CardGrantsAll (record { card = next.card; codes = codes }) later answers) went.codes lives.2 in
    let shelf_grants : ShelfGrantsAll shelf.shape.side (shelf_state_of shelf_then) later ts =
    subst (λ (codes : List (List Loading)). ShelfGrantsAll shelf.shape.side (record { cards = new.cards; codes = codes }) later ts) went.codes_on lives_too.2 in
    let rest = live-on later answers ts one_then shelf_then went.beside (went.time (most_events_of later) time) card_grants shelf_grants in
    ap (λ (first : List Outcome). first ∷ ts) went.same ∙ ap (λ (others : List (List Outcome)). a ∷ others) rest

-- The logs of new cards are empty, and have loaded no code.
abbrev no_logs : List CoreView → List (List Event)
no_logs cards = map (λ core. []) cards

no-codes : (cards : List CoreView) → map (λ (core : CoreView). let none : List Loading = [] in none) cards ≡ map codes_in (no_logs cards)
no-codes [] = refl
no-codes (core ∷ later) = ap (λ (codes : List (List Loading)). [] ∷ codes) (no-codes later)

new-beside : (one shape : Shape) (card : CoreView) (cards : List CoreView) → one.side ≡ shape.side → one.journal ≡ shape.journal
    → IsLogOf one [] card → ((number : ℕ) (core : CoreView) → slice_get cards number ≡ Some core → IsLogOf shape [] core)
    → IsBeside (record { shape = one; log = []; card = card }) (record { shape = shape; logs = no_logs cards; cards = cards })
new-beside one shape card cards side journal here each = record {
  logged = record {
    side = side;
    journal = journal;
    here = here;
    sized = length-map cards (λ core. []);
    each = λ number own core is is_core.
        subst (λ (l : List Event). IsLogOf shape l core) (map-there (λ (core : CoreView). let none : List Event = [] in none) cards number own is).2 (each number core is_core);
  };
  accounts = λ vc own is.
      ap (account_of shape.side vc) (map-there (λ (core : CoreView). let none : List Event = [] in none) cards _ own is).2;
}

pub lives-alike : ShelvesAnswerAsOneCard
lives-alike calls answers decisions both =
    let one : LoggedCard = record { shape = both.card_shape; log = []; card = both.card } in
    let shelf : LoggedShelf = record { shape = both.shelf_shape; logs = no_logs both.cards; cards = both.cards } in
    let beside : IsBeside one shelf = new-beside both.card_shape both.shelf_shape both.card both.cards both.side both.journal
    (record { world = opening_world both.card_shape; leads = refl; agrees = both.new_card })
    (λ number core is. record { world = opening_world both.shelf_shape; leads = refl; agrees = both.new_cards number core is }) in
    let time : HaveTimeFor (most_events_of calls) one shelf = record {
      here = omega (arith, both.few);
      each = λ number own is.
          let empty = (map-there (λ (core : CoreView). let none : List Event = [] in none) both.cards number own is).2 in
          omega (arith, both.few, ap length empty);
    } in
    live-on calls answers decisions one shelf beside time both.card_grants
    (subst (λ (codes : List (List Loading)). ShelfGrantsAll both.shelf_shape.side (record { cards = both.cards; codes = codes }) calls decisions) (no-codes both.cards) both.shelf_grants)
