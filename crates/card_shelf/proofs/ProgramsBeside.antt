-- A card stays beside a shelf if both load a program, or both retire one.
use Rattle.std.proofs.Common.{◌≡◌, ℕ, zero, suc, ◌+◌, List, [], ◌∷◌, ◌++◌, length, map, Some, None, refl, sym, ap, ◌∙◌, subst, arith}
use Rattle.std.specs.Prelude.{slice_get}
use Rattle.std.proofs.lemmas.List.{length-append, length-map}
use Rattle.std.proofs.lemmas.Option.{same_Some, slice_get_within}
use Rattle.upc_cell.specs.declared.side.Side.{Side}
use Rattle.upc_cell.specs.declared.vc.Vc.{Vc}
use Rattle.bpf_code.specs.declared.instr.Instr.{Instr}
use Rattle.gen_arena.specs.declared.id.Id.{Id}
use Rattle.card_core.specs.declared.reply.Reply.TheVariants.{Loaded, Retired}
use Rattle.card_core.specs.declared.step.Step.TheVariants.{Load, Retire}
use Rattle.card_core.specs.Agreement.{CoreView, Follows}
use Rattle.card_core.specs.Log.{Event}
use Rattle.card_core.specs.World.{Loading}
use Rattle.card_isolation.specs.Isolation.{account_of}
use Rattle.card_isolation.specs.Outcome.{Outcome}
use Rattle.card_isolation.specs.OwnEvents.{Notes, own_event, codes_after}
use Rattle.card_shelf.specs.Calls.{CardState, ShelfState, CardLoads, CardRetires, ShelfLoads, ShelfRetires, load, retire, with_code}
use Rattle.card_shelf.specs.Dealing.{card_of}
use Rattle.card_shelf.specs.Life.{GoOnBeside, card_state_of, shelf_state_of}
use Rattle.card_shelf.specs.OneCard.{LoggedCard, LoggedShelf, IsLogOf, IsBeside, HaveTimeFor, codes_in}
use Rattle.card_shelf.proofs.DeskWays.{not-own, codes-next}
use Rattle.card_shelf.proofs.Lists.{there, map-there, chosen}
use Rattle.card_shelf.proofs.ServiceBeside.{logged-next}

-- An event that is no connection's own.
abbrev IsNoOwn : Event → Type 0
IsNoOwn event = (side : Side) (vc : Vc) (notes : Notes) → own_event side vc notes event.reply event.step ≡ None

-- Each of these logs with the event at its place.
abbrev with_events : List Event → List (List Event) → List (List Event)
with_events [] logs = logs
with_events (event ∷ events) [] = []
with_events (event ∷ events) (log ∷ later) = (log ++ event ∷ []) ∷ with_events events later

with-length : (events : List Event) (logs : List (List Event)) → length (with_events events logs) ≡ length logs
with-length [] logs = refl
with-length (event ∷ events) [] = refl
with-length (event ∷ events) (log ∷ later) = ap suc (with-length events later)

-- What a log with its event is, at a place.
with-there : (events : List Event) (logs : List (List Event)) (k : ℕ) (own : List Event) → length events ≡ length logs
    → slice_get (with_events events logs) k ≡ Some own
    → (earlier : List Event) × (event : Event) × (slice_get logs k ≡ Some earlier) × (slice_get events k ≡ Some event) × (earlier ++ event ∷ [] ≡ own)
with-there [] [] k own sized is = absurd (cc)
with-there [] (log ∷ later) k own sized is = absurd (omega (arith, sized))
with-there (event ∷ events) [] k own sized is = absurd (cc)
with-there (event ∷ events) (log ∷ later) zero own sized is = (log, event, refl, refl, same_Some (log ++ event ∷ []) own is)
with-there (event ∷ events) (log ∷ later) (suc k) own sized is = with-there events later k own (omega (arith, sized)) is

-- The event of each card: it is no connection's own, and the card has taken it.
record IsEventOf (shelf : LoggedShelf) (new : List CoreView) (number : ℕ) (event : Event) : Type 0 where
  no_own : IsNoOwn event
  follows : (core next : CoreView) → slice_get shelf.cards number ≡ Some core → slice_get new number ≡ Some next
      → Follows core event.step event.reply next

module _ (one : LoggedCard) (shelf : LoggedShelf) (next : CoreView) (new : List CoreView) (event : Event) (events : List Event)
    (beside : IsBeside one shelf) (no_own : IsNoOwn event) (follows : Follows one.card event.step event.reply next)
    (sized : length events ≡ length shelf.logs) (cards_same : length new ≡ length shelf.cards)
    (each : (number : ℕ) (own : Event) → slice_get events number ≡ Some own → IsEventOf shelf new number own) where
  abbrev Grown : List (List Event)
  Grown = with_events events shelf.logs

  programs-beside : IsBeside (record one { log = one.log ++ event ∷ []; card = next }) (record shelf { logs = Grown; cards = new })
  programs-beside =
      let grown_length = with-length events shelf.logs in
      record {
        logged = record {
          side = beside.logged.side;
          journal = beside.logged.journal;
          here = logged-next one.shape one.log one.card next event beside.logged.here follows;
          sized = grown_length ∙ beside.logged.sized ∙ sym cards_same;
          each = λ number own core is is_core.
              let at = with-there events shelf.logs number own sized is in
              let was = there shelf.cards number (let within = slice_get_within new number core is_core in omega (arith, within, cards_same)) in
              subst (λ (l : List Event). IsLogOf shelf.shape l core) at.4
              (logged-next shelf.shape at.0 was.0 core at.1 (beside.logged.each number at.0 was.0 at.2 was.1) ((each number at.1 at.3).follows was.0 core was.1 is_core));
        };
        accounts = λ vc own is.
            let number = card_of vc (length shelf.logs) in
            let is_at : slice_get Grown number ≡ Some own = ap (λ (n : ℕ). slice_get Grown (card_of vc n)) (sym grown_length) ∙ is in
            let at = with-there events shelf.logs number own sized is_at in
            not-own one.shape.side vc one.log event (no_own one.shape.side vc _)
            ∙ beside.accounts vc at.0 at.2
            ∙ sym (not-own shelf.shape.side vc at.0 at.1 ((each number at.1 at.3).no_own shelf.shape.side vc _))
            ∙ ap (account_of shelf.shape.side vc) at.4;
      }

  programs-time : (further : ℕ) → HaveTimeFor (1 + further) one shelf
      → HaveTimeFor further (record one { log = one.log ++ event ∷ []; card = next }) (record shelf { logs = Grown; cards = new })
  programs-time further had = record {
    here = (let more = length-append one.log (event ∷ []) in omega (arith, had.here, more));
    each = λ number own is.
        let at = with-there events shelf.logs number own sized is in
        let room = had.each number at.0 at.2 in
        let more = length-append at.0 (at.1 ∷ []) in
        omega (arith, room, more, ap length at.4);
  }

-- The event of a load.
abbrev loading : List Instr → Id → Event
loading code id = record { step = Load code; reply = Loaded id }

-- The codes after a load on each card.
loaded-codes : (code : List Instr) (ids : List Id) (logs : List (List Event))
    → with_code code ids (map codes_in logs) ≡ map codes_in (with_events (map (loading code) ids) logs)
loaded-codes code [] logs = refl
loaded-codes code (id ∷ ids) [] = refl
loaded-codes code (id ∷ ids) (log ∷ later) =
    ap (λ (codes : List Loading). codes ∷ with_code code ids (map codes_in later)) (sym (codes-next log (loading code id)))
    ∙ ap (λ (rest : List (List Loading)). codes_in (log ++ loading code id ∷ []) ∷ rest) (loaded-codes code ids later)

pub load-keeps : (one : LoggedCard) (shelf : LoggedShelf) (code : List Instr) (answers decisions : List Outcome) (next : CardState) (new : ShelfState)
    → IsBeside one shelf → CardLoads code (card_state_of one) answers next → ShelfLoads code (shelf_state_of shelf) decisions new
    → GoOnBeside one shelf (load code) answers decisions next new
load-keeps one shelf code answers decisions next new beside here there_too =
    let event = loading code here.id in
    let events = map (loading code) there_too.ids in
    let sized : length events ≡ length shelf.logs = length-map there_too.ids (loading code) ∙ there_too.loads.one_each ∙ sym beside.logged.sized in
    let each : (number : ℕ) (own : Event) → slice_get events number ≡ Some own → IsEventOf shelf new.cards number own = λ number own is.
    let at = map-there (loading code) there_too.ids number own is in
    subst (IsEventOf shelf new.cards number) at.2 (record {
      no_own = λ side vc notes. refl;
      follows = λ core later is_core is_later. (there_too.loads.each number core later at.0 is_core is_later at.1).takes.follows;
    }) in
    record {
      log = one.log ++ event ∷ [];
      logs = with_events events shelf.logs;
      beside = programs-beside one shelf next.card new.cards event events beside (λ side vc notes. refl) here.takes.follows sized there_too.loads.cards each;
      codes = here.codes ∙ sym (codes-next one.log event);
      codes_on = there_too.codes ∙ loaded-codes code there_too.ids shelf.logs;
      time = programs-time one shelf next.card new.cards event events beside (λ side vc notes. refl) here.takes.follows sized there_too.loads.cards each;
      same = there_too.returns ∙ sym here.returns;
    }

-- Events that load no code leave the codes.
kept-codes : (events : List Event) (logs : List (List Event))
    → ((k : ℕ) (event : Event) → slice_get events k ≡ Some event → (codes : List Loading) → codes_after codes event.reply event.step ≡ codes)
    → map codes_in logs ≡ map codes_in (with_events events logs)
kept-codes [] logs keep = refl
kept-codes (event ∷ events) [] keep = refl
kept-codes (event ∷ events) (log ∷ later) keep =
    ap (λ (codes : List Loading). codes ∷ map codes_in later) (sym (codes-next log event ∙ keep 0 event refl (codes_in log)))
    ∙ ap (λ (rest : List (List Loading)). codes_in (log ++ event ∷ []) ∷ rest) (kept-codes events later (λ k. keep (suc k)))

-- The event of a retirement on a card.
record IsRetiring (shelf : LoggedShelf) (new : List CoreView) (number : ℕ) (event : Event) : Type 0 where
  is_event : IsEventOf shelf new number event
  no_code : (codes : List Loading) → codes_after codes event.reply event.step ≡ codes

pub retire-keeps : (one : LoggedCard) (shelf : LoggedShelf) (answers decisions : List Outcome) (next : CardState) (new : ShelfState)
    → IsBeside one shelf → CardRetires (card_state_of one) answers next → ShelfRetires (shelf_state_of shelf) decisions new
    → GoOnBeside one shelf retire answers decisions next new
retire-keeps one shelf answers decisions next new beside here there_too =
    let event : Event = record { step = Retire here.id; reply = Retired here.code } in
    let retires = there_too.retires in
    let all = chosen (length shelf.logs) (IsRetiring shelf new.cards) (λ number below.
    let core = there shelf.cards number (omega (arith, below, beside.logged.sized)) in
    let later = there new.cards number (omega (arith, below, beside.logged.sized, retires.cards)) in
    let id = there there_too.ids number (omega (arith, below, beside.logged.sized, retires.one_each)) in
    let gone = retires.each number core.0 later.0 id.0 core.1 later.1 id.1 in
    let own : Event = record { step = Retire id.0; reply = Retired gone.code } in (
      own,
      record {
        is_event = record {
          no_own = λ side vc notes. refl;
          follows = λ core_too later_too is_core is_later.
              subst (λ (c : CoreView). Follows c (Retire id.0) (Retired gone.code) later_too) (same_Some core.0 core_too (sym core.1 ∙ is_core))
              (subst (λ (c : CoreView). Follows core.0 (Retire id.0) (Retired gone.code) c) (same_Some later.0 later_too (sym later.1 ∙ is_later)) gone.takes.follows);
        };
        no_code = λ codes. refl;
      },
    )) in
    let events = all.0 in
    let each : (number : ℕ) (own : Event) → slice_get events number ≡ Some own → IsEventOf shelf new.cards number own = λ number own is. (all.2 number own is).is_event in
    record {
      log = one.log ++ event ∷ [];
      logs = with_events events shelf.logs;
      beside = programs-beside one shelf next.card new.cards event events beside (λ side vc notes. refl) here.takes.follows all.1 retires.cards each;
      codes = here.codes ∙ sym (codes-next one.log event);
      codes_on = there_too.codes ∙ kept-codes events shelf.logs (λ k own is. (all.2 k own is).no_code);
      time = programs-time one shelf next.card new.cards event events beside (λ side vc notes. refl) here.takes.follows all.1 retires.cards each;
      same = there_too.returns ∙ sym here.returns;
    }
