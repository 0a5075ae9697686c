-- Two cards that have the same account of a connection answer a cell of it alike, and have the same account afterwards.
use Rattle.std.proofs.Common.{◌⊎◌, ◌≡◌, ◌+◌, ◌≤◌, ◌^◌, true, false, List, [], ◌∷◌, ◌++◌, length, refl, inl, inr, arith}
use Rattle.upc_cell.specs.declared.vc.Vc.{Vc}
use Rattle.upc_cell.specs.Connection.{vc_of, is_same_vc}
use Rattle.upc_cell.proofs.Public.{vc_itself}
use Rattle.card_core.specs.declared.answer.Answer.{Answer}
use Rattle.card_core.specs.declared.reply.Reply.TheVariants.{Entered, Picked}
use Rattle.card_core.specs.declared.shape.Shape.{Shape}
use Rattle.card_core.specs.declared.step.Step.TheVariants.{Enter, Pick}
use Rattle.card_core.specs.Agreement.{CoreView, GoneAll, events_of}
use Rattle.card_core.specs.Arrival.{AnswersArrival}
use Rattle.card_core.specs.inner.ArrivalWays.{AnsweredByPick, AnsweredByJudgement}
use Rattle.card_core.proofs.Public.{arrival-ways}
use Rattle.card_core.specs.Log.{Event, IsLog, Leads}
use Rattle.card_core.specs.Sections.{answer_to}
use Rattle.card_core.specs.World.{World, opening_world}
use Rattle.card_isolation.specs.Isolation.{account_of}
use Rattle.card_isolation.specs.Outcome.{outcome_of}
use Rattle.card_shelf.specs.declared.arrival.Arrival.{Arrival}
use Rattle.card_shelf.specs.Logs.{IsWayOf}
use Rattle.card_shelf.specs.OneCard.{IsLogOf, codes_in}
use Rattle.card_shelf.proofs.GoingOn.{run-append}
use Rattle.card_shelf.proofs.OwnLemmas.{Decision}
use Rattle.card_shelf.proofs.WayAlike.{both-missed, both-judged, missed-here-alone, missed-there-alone}
use Rattle.card_shelf.proofs.Ways.{missed_way, judged_way, missed-foreign, judged-foreign, missed-codes, judged-codes}

-- What one card has come to by a cell: by which steps, after which its log has at most three more events, has put no
-- code in, and has left the accounts of other connections.
pub record GoesBy (shape : Shape) (log : List Event) (arrival : Arrival) (next : CoreView) (way : List Event) : Type 0 where
  pub is_log : IsLogOf shape (log ++ way) next
  pub short : length way ≤ 3
  pub codes : codes_in (log ++ way) ≡ codes_in log
  pub foreign : (vc : Vc) → is_same_vc vc (vc_of shape.side arrival.cell) ≡ false → account_of shape.side vc (log ++ way) ≡ account_of shape.side vc log

by-missed : (shape : Shape) (log : List Event) (arrival : Arrival) (next : CoreView) (before : World) (answer : Answer)
    → GoneAll shape log before (missed_way arrival.cell arrival.moment answer) next
    → GoesBy shape log arrival next (missed_way arrival.cell arrival.moment answer)
by-missed shape log arrival next before answer gone = record {
  is_log = record { world = gone.after; leads = gone.leads; agrees = gone.agrees };
  short = omega arith;
  codes = missed-codes log arrival.cell arrival.moment answer;
  foreign = λ vc foreign. missed-foreign shape.side vc log arrival.cell arrival.moment answer foreign;
}

by-judged : (shape : Shape) (log : List Event) (arrival : Arrival) (next : CoreView) (before : World) (answer : Answer)
    → GoneAll shape log before (judged_way arrival.cell arrival.moment answer) next
    → GoesBy shape log arrival next (judged_way arrival.cell arrival.moment answer)
by-judged shape log arrival next before answer gone = record {
  is_log = record { world = gone.after; leads = gone.leads; agrees = gone.agrees };
  short = omega arith;
  codes = judged-codes log arrival.cell arrival.moment answer;
  foreign = λ vc foreign. judged-foreign shape.side vc log arrival.cell arrival.moment answer foreign;
}

-- The log up to the pick.
picked-log : (shape : Shape) (log : List Event) (arrival : Arrival) (next : CoreView) (before : World) (answer : Answer)
    → Leads shape log before → GoneAll shape log before (judged_way arrival.cell arrival.moment answer) next
    → IsLog shape (log ++ events_of (Enter 0 arrival.cell arrival.moment ∷ Pick 0 ∷ []) (Entered ∷ Picked ∷ []))
picked-log shape log arrival next before answer leads gone =
    let run = gone.stepped in
    let picked = run.2.0 in (
      picked,
      run-append (opening_world shape) before picked log
          (events_of (Enter 0 arrival.cell arrival.moment ∷ Pick 0 ∷ []) (Entered ∷ Picked ∷ []))
          leads (run.0, run.1, (picked, run.2.1, refl)),
    )

-- Both cards have answered the cell alike, and the account of its connection is the same afterwards.
pub record BothGo (one shape : Shape) (log another : List Event) (arrival : Arrival) (answer decision : Answer) (next after : CoreView) : Type 0 where
  pub way : List Event
  pub way_too : List Event
  pub way_is : IsWayOf arrival answer way
  pub way_too_is : IsWayOf arrival decision way_too
  pub here : GoesBy one log arrival next way
  pub there : GoesBy shape another arrival after way_too
  pub alike : outcome_of (codes_in log) answer ≡ outcome_of (codes_in another) decision
  pub own : (vc : Vc) → is_same_vc vc (vc_of one.side arrival.cell) ≡ true → account_of one.side vc (log ++ way) ≡ account_of shape.side vc (another ++ way_too)

module _ (one shape : Shape) (side : one.side ≡ shape.side) (journal : one.journal ≡ shape.journal) where
  both-go_by : (log another : List Event) (arrival : Arrival) (answer decision : Decision) (card next core after : CoreView)
      → length log + 3 ≤ 2 ^ 62 → length another + 3 ≤ 2 ^ 62
      → IsLogOf one log card → IsLogOf shape another core
      → ((vc : Vc) → is_same_vc vc (vc_of one.side arrival.cell) ≡ true → account_of one.side vc log ≡ account_of shape.side vc another)
      → AnsweredByPick card 0 arrival.cell arrival.moment (answer_to arrival.cell answer) next ⊎ AnsweredByJudgement card 0 arrival.cell arrival.moment (answer_to arrival.cell answer) next
      → AnsweredByPick core 0 arrival.cell arrival.moment (answer_to arrival.cell decision) after ⊎ AnsweredByJudgement core 0 arrival.cell arrival.moment (answer_to arrival.cell decision) after
      → BothGo one shape log another arrival (answer_to arrival.cell answer) (answer_to arrival.cell decision) next after
  both-go_by log another arrival answer decision card next core after few few_too is is_too accounts (inl here) (inl there) =
      let a = answer_to arrival.cell answer in
      let t = answer_to arrival.cell decision in
      let gone = here one log is.world is.leads is.agrees in
      let gone_too = there shape another is_too.world is_too.leads is_too.agrees in
      let both = λ (vc : Vc) (own : is_same_vc vc (vc_of one.side arrival.cell) ≡ true). both-missed one shape log another vc arrival.cell arrival.moment side journal few few_too own
      (accounts vc own) a t (gone.after, gone.leads) (gone_too.after, gone_too.leads) in
      let mine = vc_of one.side arrival.cell in
      record {
        way = missed_way arrival.cell arrival.moment a;
        way_too = missed_way arrival.cell arrival.moment t;
        way_is = inl refl;
        way_too_is = inl refl;
        here = by-missed one log arrival next is.world a gone;
        there = by-missed shape another arrival after is_too.world t gone_too;
        alike = (both mine (vc_itself mine)).1;
        own = λ vc own. (both vc own).0;
      }
  both-go_by log another arrival answer decision card next core after few few_too is is_too accounts (inr here) (inr there) =
      let a = answer_to arrival.cell answer in
      let t = answer_to arrival.cell decision in
      let gone = here one log is.world is.leads is.agrees in
      let gone_too = there shape another is_too.world is_too.leads is_too.agrees in
      let both = λ (vc : Vc) (own : is_same_vc vc (vc_of one.side arrival.cell) ≡ true). both-judged one shape log another vc arrival.cell arrival.moment side journal few few_too own
      (accounts vc own) a t (gone.after, gone.leads) (gone_too.after, gone_too.leads) in
      let mine = vc_of one.side arrival.cell in
      record {
        way = judged_way arrival.cell arrival.moment a;
        way_too = judged_way arrival.cell arrival.moment t;
        way_is = inr refl;
        way_too_is = inr refl;
        here = by-judged one log arrival next is.world a gone;
        there = by-judged shape another arrival after is_too.world t gone_too;
        alike = (both mine (vc_itself mine)).1;
        own = λ vc own. (both vc own).0;
      }
  both-go_by log another arrival answer decision card next core after few few_too is is_too accounts (inl here) (inr there) =
      let mine = vc_of one.side arrival.cell in
      let gone = here one log is.world is.leads is.agrees in
      let gone_too = there shape another is_too.world is_too.leads is_too.agrees in
      absurd (missed-here-alone one shape log another mine arrival.cell arrival.moment side journal few few_too (vc_itself mine)
      (accounts mine (vc_itself mine)) (answer_to arrival.cell answer) (gone.after, gone.leads)
      (picked-log shape another arrival after is_too.world (answer_to arrival.cell decision) is_too.leads gone_too))
  both-go_by log another arrival answer decision card next core after few few_too is is_too accounts (inr here) (inl there) =
      let mine = vc_of one.side arrival.cell in
      let gone = here one log is.world is.leads is.agrees in
      let gone_too = there shape another is_too.world is_too.leads is_too.agrees in
      absurd (missed-there-alone one shape log another mine arrival.cell arrival.moment side journal few few_too (vc_itself mine)
      (accounts mine (vc_itself mine)) (answer_to arrival.cell decision)
      (picked-log one log arrival next is.world (answer_to arrival.cell answer) is.leads gone) (gone_too.after, gone_too.leads))

  pub both-go : (log another : List Event) (arrival : Arrival) (answer decision : Decision) (card next core after : CoreView)
      → length log + 3 ≤ 2 ^ 62 → length another + 3 ≤ 2 ^ 62
      → IsLogOf one log card → IsLogOf shape another core
      → ((vc : Vc) → is_same_vc vc (vc_of one.side arrival.cell) ≡ true → account_of one.side vc log ≡ account_of shape.side vc another)
      → AnswersArrival card 0 arrival.cell arrival.moment (answer_to arrival.cell answer) next
      → AnswersArrival core 0 arrival.cell arrival.moment (answer_to arrival.cell decision) after
      → BothGo one shape log another arrival (answer_to arrival.cell answer) (answer_to arrival.cell decision) next after
  both-go log another arrival answer decision card next core after few few_too is is_too accounts here there =
      both-go_by log another arrival answer decision card next core after few few_too is is_too accounts
      (arrival-ways card next 0 arrival.cell arrival.moment (answer_to arrival.cell answer) here)
      (arrival-ways core after 0 arrival.cell arrival.moment (answer_to arrival.cell decision) there)
