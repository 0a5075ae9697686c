-- A card that answers one arrival after another.
use Rattle.std.proofs.Common.{◌≡◌, List, [], ◌∷◌, ◌++◌, map, Option, Some, None, refl, sym, ap, ◌∙◌, subst}
use Rattle.std.specs.Prelude.{IfSome, IfNone, OnErr, slice_get}
use Rattle.std.proofs.lemmas.List.{append-nil, append_assoc}
use Rattle.card_core.specs.Agreement.{CoreView, Follows}
use Rattle.card_core.specs.Arrival.{AnswersArrival}
use Rattle.card_core.specs.Sections.{answer_to}
use Rattle.card_core.specs.World.{PortState}
use Rattle.card_core.specs.declared.reply.Reply.TheVariants.{NotNow}
use Rattle.card_core.specs.declared.step.Step.TheVariants.{Enter}
use Rattle.card_shelf.specs.declared.arrival.Arrival.{Arrival}
use Rattle.card_shelf.specs.Own.{ServesAll}
use Rattle.card_shelf.specs.inner.Rest.{IsAtRest}
use Rattle.card_shelf.proofs.GoingOn.{goes-on}
use Rattle.card_shelf.proofs.OwnLemmas.{Decision}
use Rattle.card_shelf.proofs.RestLemmas.{resting-takes, serving-rests}
use Rattle.card_feeds.specs.Feeding.{IsAnswerAt0, AnswersInOrder, ServesIfFree, IsFed}
use Rattle.card_feeds.specs.inner.SoFar.{FedSoFar}

-- What `Core::arrive` promises of its answer.
pub answer-is : (old new : CoreView) (x : Arrival) (answer : Option Decision)
    → IfSome answer (λ decision. AnswersArrival old 0 x.cell x.moment (answer_to x.cell decision) new)
    → IfNone answer (Follows old (Enter 0 x.cell x.moment) NotNow new) → IfNone answer (new ≡ old)
    → IfSome answer (λ decision. OnErr decision (new ≡ old)) → IsAnswerAt0 x answer old new
answer-is old new x None answered not_now unchanged refused = (not_now, unchanged)
answer-is old new x (Some decision) answered not_now unchanged refused = record { answers = answered; refused = refused }

-- A card that has answered some arrivals answers one more.
pub answers-next : (old middle new : CoreView) (xs : List Arrival) (answers : List (Option Decision)) (x : Arrival) (answer : Option Decision)
    → AnswersInOrder old xs answers middle → IsAnswerAt0 x answer middle new
    → AnswersInOrder old (xs ++ x ∷ []) (answers ++ answer ∷ []) new
answers-next old middle new [] [] x answer so_far next =
    (new, subst (λ (core : CoreView). IsAnswerAt0 x answer core new) so_far next, refl)
answers-next old middle new [] (a ∷ answers) x answer so_far next = absurd so_far
answers-next old middle new (y ∷ xs) [] x answer so_far next = absurd so_far
answers-next old middle new (y ∷ xs) (a ∷ answers) x answer so_far next =
    (so_far.0, so_far.1, answers-next so_far.0 middle new xs answers x answer so_far.2 next)

-- The decisions of a card at rest about arrivals, which it has served.
record Serving (old : CoreView) (arrivals : List Arrival) (answers : List (Option Decision)) (new : CoreView) : Type 0 where
  decisions : List Decision
  all : answers ≡ map Some decisions
  serves : ServesAll old arrivals decisions new
  rest : IsAtRest new

serving : (old new : CoreView) (arrivals : List Arrival) (answers : List (Option Decision)) → IsAtRest old
    → AnswersInOrder old arrivals answers new → Serving old arrivals answers new
serving old new [] [] rest goes = record { decisions = []; all = refl; serves = goes; rest = subst IsAtRest (sym goes) rest }
serving old new [] (answer ∷ more) rest goes = absurd goes
serving old new (arrival ∷ later) [] rest goes = absurd goes
serving old new (arrival ∷ later) (None ∷ more) rest goes =
    absurd (resting-takes old goes.0 arrival.cell arrival.moment rest goes.1.0)
serving old new (arrival ∷ later) (Some decision ∷ more) rest goes =
    let next = serving-rests old goes.0 arrival.cell arrival.moment (answer_to arrival.cell decision) rest goes.1.answers in
    let others = serving goes.0 new later more next goes.2 in
    record {
      decisions = decision ∷ others.decisions;
      all = ap (λ (answers : List (Option Decision)). Some decision ∷ answers) others.all;
      serves = (goes.0, goes.1, others.serves);
      rest = others.rest;
    }

-- A card whose port 0 has no cell serves its arrivals.
pub serves-if-free : (old new : CoreView) (arrivals : List Arrival) (answers : List (Option Decision))
    → AnswersInOrder old arrivals answers new → ServesIfFree old arrivals answers new
serves-if-free old new arrivals answers goes shape log before leads agrees free =
    let rest : IsAtRest old = record { shape = shape; log = log; world = before; leads = leads; agrees = agrees; free = free } in
    let served = serving old new arrivals answers rest goes in
    let gone = goes-on old new arrivals served.decisions served.serves shape log before leads agrees in
    record {
      decisions = served.decisions;
      all = served.all;
      serves = served.serves;
      events = gone.0;
      ways = gone.1;
      gone = gone.2;
      free = ap (λ (ports : List PortState). slice_get ports 0) (sym gone.2.agrees.ports ∙ served.rest.agrees.ports) ∙ served.rest.free;
    }

module _ (old : CoreView) (arrivals : List Arrival) (had : List (Option Decision) → Type 0) where
  -- At first all arrivals are left.
  pub fed-first : FedSoFar old arrivals had old arrivals had
  fed-first = record {
    given = [];
    answers = [];
    answered = refl;
    parted = refl;
    taken = λ earlier h. subst had (sym (append-nil earlier)) h;
  }

  -- One more is answered.
  pub fed-next : (middle new : CoreView) (left later : List Arrival) (between after has : List (Option Decision) → Type 0)
      (x : Arrival) (answer : Option Decision) → FedSoFar old arrivals had middle left between → left ≡ x ∷ later
      → IsAnswerAt0 x answer middle new → ((answers : List (Option Decision)) → between answers → after answers)
      → ((answers : List (Option Decision)) → after answers → has (answers ++ answer ∷ []))
      → FedSoFar old arrivals had new later has
  fed-next middle new left later between after has x answer fed e answers given taken = record {
    given = fed.given ++ x ∷ [];
    answers = fed.answers ++ answer ∷ [];
    answered = answers-next old middle new fed.given fed.answers x answer fed.answered answers;
    parted = fed.parted ∙ ap (λ (xs : List Arrival). fed.given ++ xs) e ∙ sym (append_assoc fed.given (x ∷ []) later);
    taken = λ earlier h. subst has (append_assoc earlier fed.answers (answer ∷ []))
        (taken (earlier ++ fed.answers) (given (earlier ++ fed.answers) (fed.taken earlier h)));
  }

  -- None is left.
  pub fed-last : (new : CoreView) (left ended : List Arrival) (between has : List (Option Decision) → Type 0)
      → FedSoFar old arrivals had new left between → left ≡ [] → ended ≡ []
      → ((answers : List (Option Decision)) → between answers → has answers) → IsFed old arrivals had new ended has
  fed-last new left ended between has fed e end kept =
      let all : fed.given ≡ arrivals = sym (fed.parted ∙ ap (λ (xs : List Arrival). fed.given ++ xs) e ∙ append-nil fed.given) in
      let answered = subst (λ (xs : List Arrival). AnswersInOrder old xs fed.answers new) all fed.answered in
      record {
        answers = fed.answers;
        answered = answered;
        served = serves-if-free old new arrivals fed.answers answered;
        taken = λ earlier h. kept (earlier ++ fed.answers) (fed.taken earlier h);
        ended = end;
      }
