-- A card stays beside a shelf through what both do for a connection, with the same outcomes.
use Rattle.std.proofs.Common.{◌≡◌, ℕ, ◌<◌, true, List, [], ◌∷◌, ◌++◌, length, map, Option, Some, None, sym, ap, ◌∙◌, subst, inl, inr, arith, length-set}
use Rattle.std.specs.Prelude.{slice_get, slice_set, unwrap_or, option_map}
use Rattle.std.proofs.lemmas.List.{length-append, length-map, map-append}
use Rattle.std.proofs.lemmas.Option.{same_Some, slice_get_within, slice_get-map}
use Rattle.upc_cell.specs.declared.vc.Vc.{Vc}
use Rattle.upc_cell.specs.Connection.{is_same_vc}
use Rattle.upc_cell.proofs.Public.{vc_same, vc_itself}
use Rattle.card_core.specs.declared.shape.Shape.{Shape}
use Rattle.card_core.specs.Agreement.{CoreView, Follows}
use Rattle.card_core.specs.Log.{Event}
use Rattle.card_core.specs.World.{Loading}
use Rattle.card_isolation.specs.Act.{Act}
use Rattle.card_isolation.specs.Isolation.{account_of}
use Rattle.card_isolation.specs.Outcome.{Outcome}
use Rattle.card_isolation.specs.OwnEvents.{OwnEvent, acts_of}
use Rattle.card_isolation.proofs.Isolated.{isolated}
use Rattle.card_shelf.specs.Calls.{Service, Grants, CardState, ShelfState, CardServes, ShelfServes, serve, codes_at}
use Rattle.card_shelf.specs.Dealing.{card_of}
use Rattle.card_shelf.specs.Life.{GoOnBeside, card_state_of, shelf_state_of}
use Rattle.card_shelf.specs.OneCard.{LoggedCard, LoggedShelf, IsLogOf, IsBeside, HaveTimeFor, codes_in}
use Rattle.gen_arena.proofs.Public.{slice_get-set}
use Rattle.card_shelf.proofs.BesideStep.{steps-beside}
use Rattle.card_shelf.proofs.DeskWays.{act_of, Did, did, served-here, served-elsewhere, noted, codes-next}
use Rattle.card_shelf.proofs.Lists.{there, map-there, same-lists}
use Rattle.card_shelf.proofs.WayAlike.{cancel}

-- The codes at a place are those of the log there.
pub codes-at : (logs : List (List Event)) (number : ℕ) (own : List Event) → slice_get logs number ≡ Some own
    → codes_at (map codes_in logs) number ≡ codes_in own
codes-at logs number own at =
    ap (λ (o : Option (List Loading)). unwrap_or o []) (slice_get-map codes_in logs number ∙ ap (option_map codes_in) at)

-- If the log at one place is replaced by one with the same codes, all codes are as before.
same-codes : (logs : List (List Event)) (number : ℕ) (own longer : List Event) → slice_get logs number ≡ Some own → codes_in longer ≡ codes_in own
    → map codes_in logs ≡ map codes_in (slice_set logs number longer)
same-codes logs number own longer at codes =
    same-lists (map codes_in (slice_set logs number longer)) (map codes_in logs)
    (length-map (slice_set logs number longer) codes_in ∙ length-set logs number longer ∙ sym (length-map logs codes_in))
    (λ k x y is is_too.
    let from = map-there codes_in (slice_set logs number longer) k x is in
    let was = map-there codes_in logs k y is_too in
    elim (slice_get-set logs number k longer from.0 from.1) [
      | inl here ↦
          let same : own ≡ was.0 = same_Some own was.0 (sym at ∙ ap (slice_get logs) (sym here.0) ∙ was.1) in
          sym was.2 ∙ ap codes_in (sym same) ∙ sym codes ∙ ap codes_in here.1 ∙ from.2
      | inr apart ↦
          let same : was.0 ≡ from.0 = same_Some was.0 from.0 (sym was.1 ∙ apart.1) in
          sym was.2 ∙ ap codes_in same ∙ from.2
    ])

-- A step leads the log of a card on.
pub logged-next : (shape : Shape) (log : List Event) (old new : CoreView) (event : Event) → IsLogOf shape log old
    → Follows old event.step event.reply new → IsLogOf shape (log ++ event ∷ []) new
logged-next shape log old new event is follows =
    let gone = follows shape log is.world is.leads is.agrees in
    record { world = gone.after; leads = gone.leads; agrees = gone.agrees }

abbrev own_outcome : List OwnEvent → Option Outcome
own_outcome [] = None
own_outcome (event ∷ later) = Some event.outcome

abbrev act_in : OwnEvent → Act
act_in event = event.act

module _ (one : LoggedCard) (shelf : LoggedShelf) (vc : Vc) (service : Service) (answers decisions : List Outcome) (next : CardState) (new : ShelfState)
    (beside : IsBeside one shelf) (time : HaveTimeFor 1 one shelf)
    (here : CardServes vc service (card_state_of one) answers next) (there_too : ShelfServes vc service (shelf_state_of shelf) decisions new) where
  abbrev Number : ℕ
  Number = card_of vc (length shelf.cards)

  number-same : card_of vc (length shelf.logs) ≡ Number
  number-same = ap (card_of vc) beside.logged.sized

  in-logs : Number < length shelf.logs
  in-logs = let within = slice_get_within shelf.cards Number there_too.grants.card there_too.grants.there in omega (arith, within, beside.logged.sized)

  own : (log : List Event) × (slice_get shelf.logs Number ≡ Some log)
  own = there shelf.logs Number in-logs

  codes-same : codes_at (map codes_in shelf.logs) (card_of vc (length (map codes_in shelf.logs))) ≡ codes_in own.0
  codes-same =
      ap (λ (n : ℕ). codes_at (map codes_in shelf.logs) (card_of vc n)) (length-map shelf.logs codes_in ∙ beside.logged.sized)
      ∙ codes-at shelf.logs Number own.0 own.1

  mine : Did (codes_in one.log) vc service here.outcome one.card next.card
  mine = did (codes_in one.log) vc service here.outcome one.card next.card here.grants

  theirs : Did (codes_in own.0) vc service there_too.outcome there_too.grants.card there_too.grants.next
  theirs =
      did (codes_in own.0) vc service there_too.outcome there_too.grants.card there_too.grants.next
      (subst (λ (codes : List Loading). Grants codes vc service there_too.outcome there_too.grants.card there_too.grants.next) codes-same there_too.grants.did)

  is-log : IsLogOf one.shape (one.log ++ mine.event ∷ []) next.card
  is-log = logged-next one.shape one.log one.card next.card mine.event beside.logged.here mine.follows

  is-log-too : IsLogOf shelf.shape (own.0 ++ theirs.event ∷ []) there_too.grants.next
  is-log-too =
      logged-next shelf.shape own.0 there_too.grants.card there_too.grants.next theirs.event
      (beside.logged.each Number own.0 there_too.grants.card own.1 there_too.grants.there) theirs.follows

  before : (other : Vc) → is_same_vc other vc ≡ true → account_of one.shape.side other one.log ≡ account_of shelf.shape.side other own.0
  before other is =
      beside.accounts other own.0 (ap (λ (v : Vc). slice_get shelf.logs (card_of v (length shelf.logs))) (vc_same other vc is)
      ∙ ap (slice_get shelf.logs) number-same ∙ own.1)

  account-here : (other : Vc) → is_same_vc other vc ≡ true
      → account_of one.shape.side other (one.log ++ mine.event ∷ [])
      ≡ account_of one.shape.side other one.log ++ record { act = act_of service; outcome = here.outcome } ∷ []
  account-here other is =
      served-here one.shape.side other one.log mine.event vc service here.outcome
      (mine.own one.shape.side other _ (noted one.shape.side other one.log mine.event)) is

  account-there : (other : Vc) → is_same_vc other vc ≡ true
      → account_of shelf.shape.side other (own.0 ++ theirs.event ∷ [])
      ≡ account_of shelf.shape.side other own.0 ++ record { act = act_of service; outcome = there_too.outcome } ∷ []
  account-there other is =
      served-here shelf.shape.side other own.0 theirs.event vc service there_too.outcome
      (theirs.own shelf.shape.side other _ (noted shelf.shape.side other own.0 theirs.event)) is

  same-account : (other : Vc) → is_same_vc other vc ≡ true
      → account_of one.shape.side other (one.log ++ mine.event ∷ []) ≡ account_of shelf.shape.side other (own.0 ++ theirs.event ∷ [])
  same-account other is =
      let room = time.each Number own.0 own.1 in
      let length_is = length-append one.log (mine.event ∷ []) in
      let length_too = length-append own.0 (theirs.event ∷ []) in
      let acts_here : acts_of (account_of one.shape.side other (one.log ++ mine.event ∷ [])) ≡ acts_of (account_of one.shape.side other one.log) ++ act_of service ∷ [] =
      ap acts_of (account-here other is) ∙ map-append act_in (account_of one.shape.side other one.log) (record { act = act_of service; outcome = here.outcome } ∷ []) in
      let acts_there : acts_of (account_of shelf.shape.side other (own.0 ++ theirs.event ∷ [])) ≡ acts_of (account_of shelf.shape.side other own.0) ++ act_of service ∷ [] =
      ap acts_of (account-there other is) ∙ map-append act_in (account_of shelf.shape.side other own.0) (record { act = act_of service; outcome = there_too.outcome } ∷ []) in
      isolated one.shape shelf.shape (one.log ++ mine.event ∷ []) (own.0 ++ theirs.event ∷ []) other (is-log.world, is-log.leads) (is-log-too.world, is-log-too.leads)
      beside.logged.side beside.logged.journal (omega (arith, time.here, length_is)) (omega (arith, room, length_too))
      (acts_here ∙ ap (λ (es : List OwnEvent). acts_of es ++ act_of service ∷ []) (before other is) ∙ sym acts_there)

  same-outcome : there_too.outcome ≡ here.outcome
  same-outcome =
      let itself = vc_itself vc in
      let theirs_then = account_of shelf.shape.side vc own.0 in
      let event_here : OwnEvent = record { act = act_of service; outcome = here.outcome } in
      let event_there : OwnEvent = record { act = act_of service; outcome = there_too.outcome } in
      let tails : event_there ∷ [] ≡ event_here ∷ [] =
      cancel theirs_then (event_there ∷ []) (event_here ∷ [])
      (sym (account-there vc itself) ∙ sym (same-account vc itself) ∙ account-here vc itself
      ∙ ap (λ (es : List OwnEvent). es ++ event_here ∷ []) (before vc itself)) in
      same_Some there_too.outcome here.outcome (ap own_outcome tails)

  pub serve-keeps : GoOnBeside one shelf (serve vc service) answers decisions next new
  serve-keeps =
      let longer = slice_set shelf.logs Number (own.0 ++ theirs.event ∷ []) in
      let codes_there : codes_in (own.0 ++ theirs.event ∷ []) ≡ codes_in own.0 = codes-next own.0 theirs.event ∙ theirs.no_code (codes_in own.0) in
      record {
        log = one.log ++ mine.event ∷ [];
        logs = longer;
        beside = steps-beside one shelf beside vc Number own.0 (mine.event ∷ []) (theirs.event ∷ []) next.card there_too.grants.next new.cards
            number-same own.1 there_too.grants.after is-log is-log-too same-account
            (λ other elsewhere. served-elsewhere one.shape.side other one.log mine.event vc service here.outcome
            (mine.own one.shape.side other _ (noted one.shape.side other one.log mine.event)) elsewhere)
            (λ other elsewhere. served-elsewhere shelf.shape.side other own.0 theirs.event vc service there_too.outcome
            (theirs.own shelf.shape.side other _ (noted shelf.shape.side other own.0 theirs.event)) elsewhere);
        codes = here.codes ∙ sym (codes-next one.log mine.event ∙ mine.no_code (codes_in one.log));
        codes_on = there_too.codes ∙ same-codes shelf.logs Number own.0 (own.0 ++ theirs.event ∷ []) own.1 codes_there;
        time = λ further had. record {
          here = (let more = length-append one.log (mine.event ∷ []) in omega (arith, had.here, more));
          each = λ number log is. elim (slice_get-set shelf.logs Number number (own.0 ++ theirs.event ∷ []) log is) [
            | inl same ↦
                let room = had.each Number own.0 own.1 in
                let more = length-append own.0 (theirs.event ∷ []) in
                let is_length : length (own.0 ++ theirs.event ∷ []) ≡ length log = ap length same.1 in
                omega (arith, room, more, is_length)
            | inr apart ↦ let room = had.each number log apart.1 in omega (arith, room)
          ];
        };
        same = there_too.returns ∙ ap (λ (outcome : Outcome). outcome ∷ []) same-outcome ∙ sym here.returns;
      }
