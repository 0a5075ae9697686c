-- What a granted call of the desk adds to the account of each connection, and to the codes.
use Rattle.std.proofs.Common.{◌≡◌, Bool, true, false, List, [], ◌∷◌, ◌++◌, Option, Some, None, refl, sym, ap, ◌∙◌}
use Rattle.std.proofs.lemmas.List.{append-nil}
use Rattle.std.proofs.lemmas.List.Sums.{fold-append}
use Rattle.upc_cell.specs.declared.side.Side.{Side}
use Rattle.upc_cell.specs.declared.vc.Vc.{Vc}
use Rattle.upc_cell.specs.Connection.{is_same_vc}
use Rattle.bpf_code.specs.declared.instr.Instr.{Instr}
use Rattle.leaky.specs.declared.contract.Contract.{Contract}
use Rattle.card_core.specs.declared.reply.Reply.TheVariants.{SetUp, Reloaded, Released, Cut as CutOff}
use Rattle.card_core.specs.declared.step.Step.TheVariants.{Setup, Reload, Release, Cut}
use Rattle.card_core.specs.Agreement.{CoreView, Follows}
use Rattle.card_core.specs.Log.{Event}
use Rattle.card_core.specs.World.{Loading, code_in}
use Rattle.card_isolation.specs.Act.{Act, sets_up, reloads, releases, cuts}
use Rattle.card_isolation.specs.ByArrival.{Arrivals, opening_arrivals, with_number, by_arrival_after}
use Rattle.card_isolation.specs.Isolation.{account_of}
use Rattle.card_isolation.specs.Outcome.{Outcome, done, named_before}
use Rattle.card_isolation.specs.OwnEvents.{OwnEvent, Notes, opening_notes, own_event, own_where, with_event, own_events_after, codes_after}
use Rattle.card_shelf.specs.OneCard.{codes_in}
use Rattle.card_shelf.specs.Calls.{Service, set_up, reload, release, cut, Grants}
use Rattle.card_shelf.proofs.Ways.{notes_of, arrivals_of, own-append, notes-codes, numbered-append}

-- The act of a service.
abbrev pub act_of : Service → Act
act_of (set_up contracts code) = sets_up contracts (Some code)
act_of (reload code) = reloads (Some code)
act_of release = releases
act_of cut = cuts

-- What a card has done that granted a service: a step with a reply, which is this act for the connection, with this
-- outcome, and loads no code.
pub record Did (codes : List Loading) (vc : Vc) (service : Service) (outcome : Outcome) (old new : CoreView) : Type 0 where
  pub event : Event
  pub follows : Follows old event.step event.reply new
  pub own : (side : Side) (other : Vc) (notes : Notes) → notes.codes ≡ codes
      → own_event side other notes event.reply event.step ≡ own_where (is_same_vc other vc) (act_of service) outcome
  pub no_code : (loaded : List Loading) → codes_after loaded event.reply event.step ≡ loaded

pub did : (codes : List Loading) (vc : Vc) (service : Service) (outcome : Outcome) (old new : CoreView)
    → Grants codes vc service outcome old new → Did codes vc service outcome old new
did codes vc (set_up contracts code) outcome old new grants = record {
  event = record { step = Setup grants.ask; reply = SetUp grants.owner };
  follows = grants.takes.follows;
  own = λ side other notes noted.
      ap (λ (v : Vc). own_where (is_same_vc other v) (sets_up grants.ask.contracts.items (code_in notes.codes grants.ask.program)) done) grants.connection
      ∙ ap (λ (cs : List Contract). own_where (is_same_vc other vc) (sets_up cs (code_in notes.codes grants.ask.program)) done) grants.under
      ∙ ap (λ (c : Option (List Instr)). own_where (is_same_vc other vc) (sets_up contracts c) done)
      (ap (λ (loaded : List Loading). code_in loaded grants.ask.program) noted ∙ grants.program)
      ∙ ap (own_where (is_same_vc other vc) (sets_up contracts (Some code))) (sym grants.returns);
  no_code = λ loaded. refl;
}
did codes vc (reload code) outcome old new grants = record {
  event = record { step = Reload vc grants.id; reply = Reloaded grants.before };
  follows = grants.takes.follows;
  own = λ side other notes noted.
      ap (λ (loaded : List Loading). own_where (is_same_vc other vc) (reloads (code_in loaded grants.id)) (named_before (code_in loaded grants.before))) noted
      ∙ ap (λ (c : Option (List Instr)). own_where (is_same_vc other vc) (reloads c) (named_before (code_in codes grants.before))) grants.program
      ∙ ap (own_where (is_same_vc other vc) (reloads (Some code))) (sym grants.returns);
  no_code = λ loaded. refl;
}
did codes vc release outcome old new grants = record {
  event = record { step = Release vc; reply = Released grants.piece };
  follows = grants.takes.follows;
  own = λ side other notes noted. ap (own_where (is_same_vc other vc) releases) (sym grants.returns);
  no_code = λ loaded. refl;
}
did codes vc cut outcome old new grants = record {
  event = record { step = Cut vc; reply = CutOff grants.piece };
  follows = grants.takes.follows;
  own = λ side other notes noted. ap (own_where (is_same_vc other vc) cuts) (sym grants.returns);
  no_code = λ loaded. refl;
}

-- The act of a service has no port, and so no number of an arrival.
without-number : (arrivals : Arrivals) (service : Service) → with_number arrivals (act_of service) ≡ act_of service
without-number arrivals (set_up contracts code) = refl
without-number arrivals (reload code) = refl
without-number arrivals release = refl
without-number arrivals cut = refl

module _ (side : Side) (vc : Vc) (log : List Event) (event : Event) where
  abbrev Notes_now : Notes
  Notes_now = notes_of side vc opening_notes log

  -- An account goes on by the own event, if it is one.
  goes-on : (own : Option OwnEvent) → own_event side vc Notes_now event.reply event.step ≡ own
      → account_of side vc (log ++ event ∷ [])
      ≡ account_of side vc log ++ by_arrival_after (arrivals_of opening_arrivals (own_events_after side vc opening_notes log)) (with_event own [])
  goes-on own is =
      let events = own_events_after side vc opening_notes log in
      ap (by_arrival_after opening_arrivals) (own-append side vc opening_notes log (event ∷ []) ∙ ap (λ (o : Option OwnEvent). events ++ with_event o []) is)
      ∙ numbered-append opening_arrivals events (with_event own [])

  -- An event that is no connection's own leaves the account.
  pub not-own : own_event side vc Notes_now event.reply event.step ≡ None → account_of side vc (log ++ event ∷ []) ≡ account_of side vc log
  not-own is = goes-on None is ∙ append-nil (account_of side vc log)

  -- A service goes into the account of its connection, and into no other.
  module _ (mine : Vc) (service : Service) (outcome : Outcome)
      (own : own_event side vc Notes_now event.reply event.step ≡ own_where (is_same_vc vc mine) (act_of service) outcome) where
    pub served-here : is_same_vc vc mine ≡ true
        → account_of side vc (log ++ event ∷ []) ≡ account_of side vc log ++ record { act = act_of service; outcome = outcome } ∷ []
    served-here here =
        let arrivals = arrivals_of opening_arrivals (own_events_after side vc opening_notes log) in
        goes-on (Some (record { act = act_of service; outcome = outcome })) (own ∙ ap (λ (b : Bool). own_where b (act_of service) outcome) here)
        ∙ ap (λ (act : Act). account_of side vc log ++ record { act = act; outcome = outcome } ∷ []) (without-number arrivals service)

    pub served-elsewhere : is_same_vc vc mine ≡ false → account_of side vc (log ++ event ∷ []) ≡ account_of side vc log
    served-elsewhere elsewhere = not-own (own ∙ ap (λ (b : Bool). own_where b (act_of service) outcome) elsewhere)

  -- The reader has noted the codes that the log loaded.
  pub noted : Notes_now.codes ≡ codes_in log
  noted = notes-codes side vc opening_notes log

-- The codes after one more event.
pub codes-next : (log : List Event) (event : Event) → codes_in (log ++ event ∷ []) ≡ codes_after (codes_in log) event.reply event.step
codes-next log event =
    fold-append (λ (codes : List Loading) (event : Event). codes_after codes event.reply event.step) [] log (event ∷ [])
