-- A card that has answered arrivals has gone on by their steps.
use Rattle.std.proofs.Common.{◌≡◌, ◌≤◌, List, [], ◌∷◌, ◌++◌, length, refl, sym, ap, ◌∙◌, subst, inl, inr, arith}
use Rattle.std.proofs.lemmas.List.{append-nil, append_assoc, length-append}
use Rattle.card_core.specs.Agreement.{CoreView, CoreAgrees, GoneAll, events_of}
use Rattle.card_core.specs.Log.{Event, Run, Leads}
use Rattle.card_core.specs.Sections.{answer_to}
use Rattle.card_core.specs.World.{World}
use Rattle.card_core.specs.declared.answer.Answer.{Answer}
use Rattle.card_core.specs.declared.reply.Reply.TheVariants.{Entered, Picked, Answered}
use Rattle.card_core.specs.declared.shape.Shape.{Shape}
use Rattle.card_core.specs.declared.step.Step.TheVariants.{Enter, Pick, Judge}
use Rattle.card_core.proofs.Public.{arrival-ways}
use Rattle.card_shelf.specs.declared.arrival.Arrival.{Arrival}
use Rattle.card_shelf.specs.Logs.{IsWayOf, GoesOnBy, CardsGoOnByTheirArrivals, WaysAreShort}
use Rattle.card_shelf.proofs.OwnLemmas.{Decision}

-- Runs join.
pub run-append : (before middle after : World) (one other : List Event) → Run before one middle → Run middle other after
    → Run before (one ++ other) after
run-append before middle after [] other is run = subst (λ (w : World). Run w other after) is run
run-append before middle after (event ∷ later) other steps run =
    (steps.0, steps.1, run-append steps.0 middle after later other steps.2 run)

-- A card has gone on by some events, and then by others.
joined : (shape : Shape) (log : List Event) (before : World) (one other : List Event) (between new : CoreView)
    → (so_far : GoneAll shape log before one between) → GoneAll shape (log ++ one) so_far.after other new
    → GoneAll shape log before (one ++ other) new
joined shape log before one other between new so_far then = record {
  after = then.after;
  stepped = run-append before so_far.after then.after one other so_far.stepped then.stepped;
  leads = subst (λ (events : List Event). Leads shape events then.after) (append_assoc log one other) then.leads;
  agrees = then.agrees;
}

pub goes-on : CardsGoOnByTheirArrivals
goes-on old new [] [] served shape log before leads agrees = (
  [],
  refl,
  record {
    after = before;
    stepped = refl;
    leads = subst (λ (events : List Event). Leads shape events before) (sym (append-nil log)) leads;
    agrees = subst (λ (core : CoreView). CoreAgrees core before) (sym served) agrees;
  },
)
goes-on old new [] (decision ∷ more) served shape log before leads agrees = absurd served
goes-on old new (arrival ∷ later) [] served shape log before leads agrees = absurd served
goes-on old new (arrival ∷ later) (decision ∷ more) served shape log before leads agrees =
    let answer = answer_to arrival.cell decision in
    elim (arrival-ways old served.0 0 arrival.cell arrival.moment answer served.1.answers) [
      | inl missed ↦
          let first = events_of (Enter 0 arrival.cell arrival.moment ∷ Pick 0 ∷ []) (Entered ∷ Answered answer ∷ []) in
          let gone = missed shape log before leads agrees in
          let rest = goes-on served.0 new later more served.2 shape (log ++ first) gone.after gone.leads gone.agrees in
          (first ++ rest.0, (first, rest.0, inl refl, rest.1, refl), joined shape log before first rest.0 served.0 new gone rest.2)
      | inr judged ↦
          let first = events_of (Enter 0 arrival.cell arrival.moment ∷ Pick 0 ∷ Judge 0 ∷ []) (Entered ∷ Picked ∷ Answered answer ∷ []) in
          let gone = judged shape log before leads agrees in
          let rest = goes-on served.0 new later more served.2 shape (log ++ first) gone.after gone.leads gone.agrees in
          (first ++ rest.0, (first, rest.0, inr refl, rest.1, refl), joined shape log before first rest.0 served.0 new gone rest.2)
    ]

-- A log goes on by no arrival, or by one and then others.
pub goes-nowhere : (log : List Event) → GoesOnBy log [] [] log
goes-nowhere log = record { way = []; steps = refl; log = sym (append-nil log) }

pub goes-first : (log between own : List Event) (x : Arrival) (t : Decision) (xs : List Arrival) (ts : List Decision) (way : List Event)
    → IsWayOf x (answer_to x.cell t) way → between ≡ log ++ way → GoesOnBy between xs ts own → GoesOnBy log (x ∷ xs) (t ∷ ts) own
goes-first log between own x t xs ts way is e goes = record {
  way = way ++ goes.way;
  steps = (way, goes.way, is, goes.steps, refl);
  log = goes.log ∙ ap (λ (l : List Event). l ++ goes.way) e ∙ append_assoc log way goes.way;
}

-- Ways are short.
one-short : (x : Arrival) (answer : Answer) (way : List Event) → IsWayOf x answer way → length way ≤ 3
one-short x answer way (inl is) = omega (arith, ap length is)
one-short x answer way (inr is) = omega (arith, ap length is)

pub ways-short : WaysAreShort
ways-short [] [] events is = omega (arith, ap length is)
ways-short [] (t ∷ ts) events is = absurd is
ways-short (x ∷ xs) [] events is = absurd is
ways-short (x ∷ xs) (t ∷ ts) events is =
    let first = one-short x (answer_to x.cell t) is.0 is.2 in
    let rest = ways-short xs ts is.1 is.3 in
    omega (arith, first, rest, ap length is.4, length-append is.0 is.1)
