-- What a cell's way at port 0 adds to the account of each connection.
use Rattle.std.proofs.Common.{◌≡◌, ℕ, ◌+◌, Bool, true, false, cond, List, [], ◌∷◌, ◌++◌, Option, Some, None, refl, ap, ◌∙◌, arith}
use Rattle.std.specs.Prelude.{fold}
use Rattle.std.proofs.lemmas.List.{append-nil}
use Rattle.std.proofs.lemmas.List.Sums.{fold-append}
use Rattle.upc_cell.specs.declared.side.Side.{Side}
use Rattle.upc_cell.specs.declared.vc.Vc.{Vc}
use Rattle.upc_cell.specs.Connection.{vc_of, is_same_vc}
use Rattle.card_core.specs.declared.answer.Answer.{Answer}
use Rattle.card_core.specs.declared.reply.Reply.TheVariants.{Entered, Picked, Answered}
use Rattle.card_core.specs.declared.step.Step.TheVariants.{Enter, Pick, Judge}
use Rattle.card_core.specs.Agreement.{events_of}
use Rattle.card_core.specs.Log.{Event}
use Rattle.card_core.specs.World.{Loading}
use Rattle.card_isolation.specs.Act.{Act, sets_up, reloads, releases, cuts, enters, looks_up, judges}
use Rattle.card_isolation.specs.ByArrival.{Arrivals, opening_arrivals, arrivals_after, with_number, by_arrival_after}
use Rattle.card_isolation.specs.Isolation.{account_of}
use Rattle.card_isolation.specs.Outcome.{Outcome, done, outcome_of}
use Rattle.card_isolation.specs.OwnEvents.{OwnEvent, Notes, opening_notes, notes_after, own_event, own_where, with_event, own_events_after, codes_after}
use Rattle.card_shelf.specs.OneCard.{codes_in}

-- The two ways of a cell.
abbrev pub missed_way : List ℕ → ℕ → Answer → List Event
missed_way cell moment answer = events_of (Enter 0 cell moment ∷ Pick 0 ∷ []) (Entered ∷ Answered answer ∷ [])

abbrev pub judged_way : List ℕ → ℕ → Answer → List Event
judged_way cell moment answer = events_of (Enter 0 cell moment ∷ Pick 0 ∷ Judge 0 ∷ []) (Entered ∷ Picked ∷ Answered answer ∷ [])

-- The reader's notes after a log, and the arrivals after own events.
abbrev pub notes_of : Side → Vc → Notes → List Event → Notes
notes_of side vc notes [] = notes
notes_of side vc notes (event ∷ later) = notes_of side vc (notes_after side vc notes event) later

abbrev pub arrivals_of : Arrivals → List OwnEvent → Arrivals
arrivals_of arrivals [] = arrivals
arrivals_of arrivals (event ∷ later) = arrivals_of (arrivals_after arrivals event.act) later

with_event-append : (event : Option OwnEvent) (xs ys : List OwnEvent) → with_event event (xs ++ ys) ≡ with_event event xs ++ ys
with_event-append None xs ys = refl
with_event-append (Some event) xs ys = refl

pub own-append : (side : Side) (vc : Vc) (notes : Notes) (log further : List Event)
    → own_events_after side vc notes (log ++ further)
    ≡ own_events_after side vc notes log ++ own_events_after side vc (notes_of side vc notes log) further
own-append side vc notes [] further = refl
own-append side vc notes (event ∷ later) further =
    let own = own_event side vc notes event.reply event.step in
    let next = notes_after side vc notes event in
    ap (with_event own) (own-append side vc next later further)
    ∙ with_event-append own (own_events_after side vc next later) (own_events_after side vc (notes_of side vc next later) further)

pub notes-codes : (side : Side) (vc : Vc) (notes : Notes) (log : List Event)
    → (notes_of side vc notes log).codes ≡ fold (λ (codes : List Loading) (event : Event). codes_after codes event.reply event.step) notes.codes log
notes-codes side vc notes [] = refl
notes-codes side vc notes (event ∷ later) = notes-codes side vc (notes_after side vc notes event) later

pub numbered-append : (arrivals : Arrivals) (xs ys : List OwnEvent)
    → by_arrival_after arrivals (xs ++ ys) ≡ by_arrival_after arrivals xs ++ by_arrival_after (arrivals_of arrivals xs) ys
numbered-append arrivals [] ys = refl
numbered-append arrivals (event ∷ later) ys =
    ap (λ (es : List OwnEvent). record event { act = with_number arrivals event.act } ∷ es)
    (numbered-append (arrivals_after arrivals event.act) later ys)

-- How many cells have entered, by an account.
abbrev entering : Act → ℕ
entering (enters port cell moment) = 1
entering _ = 0

abbrev pub entered_in : List OwnEvent → ℕ
entered_in [] = 0
entered_in (event ∷ later) = entering event.act + entered_in later

entered-once : (arrivals : Arrivals) (act : Act) → (arrivals_after arrivals act).entered ≡ arrivals.entered + entering (with_number arrivals act)
entered-once arrivals (sets_up contracts code) = omega arith
entered-once arrivals (reloads code) = omega arith
entered-once arrivals releases = omega arith
entered-once arrivals cuts = omega arith
entered-once arrivals (enters port cell moment) = omega arith
entered-once arrivals (looks_up port) = omega arith
entered-once arrivals (judges port) = omega arith

entered-all : (arrivals : Arrivals) (xs : List OwnEvent)
    → (arrivals_of arrivals xs).entered ≡ arrivals.entered + entered_in (by_arrival_after arrivals xs)
entered-all arrivals [] = omega arith
entered-all arrivals (event ∷ later) =
    let next = arrivals_after arrivals event.act in
    let once = entered-once arrivals event.act in
    let rest = entered-all next later in
    omega (arith, once, rest)

-- What the connection's own way is, by its number, after an account.
abbrev pub two : ℕ → List ℕ → ℕ → Outcome → List OwnEvent
two number cell moment outcome =
    record { act = enters number cell moment; outcome = done } ∷ record { act = looks_up number; outcome = outcome } ∷ []

abbrev pub three : ℕ → List ℕ → ℕ → Outcome → List OwnEvent
three number cell moment outcome =
    record { act = enters number cell moment; outcome = done } ∷ record { act = looks_up number; outcome = done }
    ∷ record { act = judges number; outcome = outcome } ∷ []

where-two : (b : Bool) (one other : Act) (first second : Outcome)
    → with_event (own_where b one first) (with_event (own_where b other second) [])
    ≡ cond b (record { act = one; outcome = first } ∷ record { act = other; outcome = second } ∷ []) []
where-two true one other first second = refl
where-two false one other first second = refl

where-three : (b : Bool) (one other another : Act) (first second third : Outcome)
    → with_event (own_where b one first) (with_event (own_where b other second) (with_event (own_where b another third) []))
    ≡ cond b (record { act = one; outcome = first } ∷ record { act = other; outcome = second } ∷ record { act = another; outcome = third } ∷ []) []
where-three true one other another first second third = refl
where-three false one other another first second third = refl

module _ (side : Side) (vc : Vc) (log : List Event) (cell : List ℕ) (moment : ℕ) where
  abbrev Own : Bool
  Own = is_same_vc vc (vc_of side cell)

  abbrev Notes_now : Notes
  Notes_now = notes_of side vc opening_notes log

  abbrev Events : List OwnEvent
  Events = own_events_after side vc opening_notes log

  abbrev Now : Arrivals
  Now = arrivals_of opening_arrivals Events

  abbrev Number : ℕ
  Number = entered_in (account_of side vc log)

  -- An account goes on by the numbered own events of what follows.
  goes-on : (way : List Event) (own : List OwnEvent) → own_events_after side vc Notes_now way ≡ own
      → account_of side vc (log ++ way) ≡ account_of side vc log ++ by_arrival_after Now own
  goes-on way own is =
      ap (by_arrival_after opening_arrivals) (own-append side vc opening_notes log way ∙ ap (λ (es : List OwnEvent). Events ++ es) is)
      ∙ numbered-append opening_arrivals Events own

  foreign : (way : List Event) → own_events_after side vc Notes_now way ≡ [] → account_of side vc (log ++ way) ≡ account_of side vc log
  foreign way is = goes-on way [] is ∙ append-nil (account_of side vc log)

  number-is : Now.entered ≡ Number
  number-is = let all = entered-all opening_arrivals Events in omega (arith, all)

  missed-own : (answer : Answer) → own_events_after side vc Notes_now (missed_way cell moment answer)
      ≡ cond Own (record { act = enters 0 cell moment; outcome = done } ∷ record { act = looks_up 0; outcome = outcome_of Notes_now.codes answer } ∷ []) []
  missed-own answer = where-two Own (enters 0 cell moment) (looks_up 0) done (outcome_of Notes_now.codes answer)

  judged-own : (answer : Answer) → own_events_after side vc Notes_now (judged_way cell moment answer)
      ≡ cond Own (record { act = enters 0 cell moment; outcome = done } ∷ record { act = looks_up 0; outcome = done }
      ∷ record { act = judges 0; outcome = outcome_of Notes_now.codes answer } ∷ []) []
  judged-own answer = where-three Own (enters 0 cell moment) (looks_up 0) (judges 0) done done (outcome_of Notes_now.codes answer)

  picked-own : own_events_after side vc Notes_now (events_of (Enter 0 cell moment ∷ Pick 0 ∷ []) (Entered ∷ Picked ∷ []))
      ≡ cond Own (record { act = enters 0 cell moment; outcome = done } ∷ record { act = looks_up 0; outcome = done } ∷ []) []
  picked-own = where-two Own (enters 0 cell moment) (looks_up 0) done done

  -- The way of a cell of another connection.
  pub missed-foreign : (answer : Answer) → Own ≡ false → account_of side vc (log ++ missed_way cell moment answer) ≡ account_of side vc log
  missed-foreign answer elsewhere = foreign (missed_way cell moment answer) (missed-own answer ∙ ap (λ b. cond b (record { act = enters 0 cell moment; outcome = done } ∷ record { act = looks_up 0; outcome = outcome_of Notes_now.codes answer } ∷ []) []) elsewhere)

  pub judged-foreign : (answer : Answer) → Own ≡ false → account_of side vc (log ++ judged_way cell moment answer) ≡ account_of side vc log
  judged-foreign answer elsewhere = foreign (judged_way cell moment answer) (judged-own answer ∙ ap (λ b. cond b (record { act = enters 0 cell moment; outcome = done } ∷ record { act = looks_up 0; outcome = done }
      ∷ record { act = judges 0; outcome = outcome_of Notes_now.codes answer } ∷ []) []) elsewhere)

  numbered-two : (outcome : Outcome) → by_arrival_after Now (record { act = enters 0 cell moment; outcome = done } ∷ record { act = looks_up 0; outcome = outcome } ∷ [])
      ≡ two Number cell moment outcome
  numbered-two outcome = ap (λ n. two n cell moment outcome) number-is

  numbered-three : (outcome : Outcome) → by_arrival_after Now (record { act = enters 0 cell moment; outcome = done } ∷ record { act = looks_up 0; outcome = done }
      ∷ record { act = judges 0; outcome = outcome } ∷ []) ≡ three Number cell moment outcome
  numbered-three outcome = ap (λ n. three n cell moment outcome) number-is

  codes-are : Notes_now.codes ≡ codes_in log
  codes-are = notes-codes side vc opening_notes log

  -- The way of an own cell.
  pub missed-here : (answer : Answer) → Own ≡ true
      → account_of side vc (log ++ missed_way cell moment answer) ≡ account_of side vc log ++ two Number cell moment (outcome_of (codes_in log) answer)
  missed-here answer here =
      goes-on (missed_way cell moment answer) (record { act = enters 0 cell moment; outcome = done } ∷ record { act = looks_up 0; outcome = outcome_of Notes_now.codes answer } ∷ [])
      (missed-own answer ∙ ap (λ b. cond b (record { act = enters 0 cell moment; outcome = done } ∷ record { act = looks_up 0; outcome = outcome_of Notes_now.codes answer } ∷ []) []) here)
      ∙ ap (λ (es : List OwnEvent). account_of side vc log ++ es) (numbered-two (outcome_of Notes_now.codes answer)
      ∙ ap (λ (codes : List Loading). two Number cell moment (outcome_of codes answer)) codes-are)

  pub picked-here : Own ≡ true
      → account_of side vc (log ++ events_of (Enter 0 cell moment ∷ Pick 0 ∷ []) (Entered ∷ Picked ∷ [])) ≡ account_of side vc log ++ two Number cell moment done
  picked-here here =
      goes-on (events_of (Enter 0 cell moment ∷ Pick 0 ∷ []) (Entered ∷ Picked ∷ [])) (record { act = enters 0 cell moment; outcome = done } ∷ record { act = looks_up 0; outcome = done } ∷ [])
      (picked-own ∙ ap (λ b. cond b (record { act = enters 0 cell moment; outcome = done } ∷ record { act = looks_up 0; outcome = done } ∷ []) []) here)
      ∙ ap (λ (es : List OwnEvent). account_of side vc log ++ es) (numbered-two done)

  pub judged-here : (answer : Answer) → Own ≡ true
      → account_of side vc (log ++ judged_way cell moment answer) ≡ account_of side vc log ++ three Number cell moment (outcome_of (codes_in log) answer)
  judged-here answer here =
      goes-on (judged_way cell moment answer) (record { act = enters 0 cell moment; outcome = done } ∷ record { act = looks_up 0; outcome = done }
      ∷ record { act = judges 0; outcome = outcome_of Notes_now.codes answer } ∷ [])
      (judged-own answer ∙ ap (λ b. cond b (record { act = enters 0 cell moment; outcome = done } ∷ record { act = looks_up 0; outcome = done }
      ∷ record { act = judges 0; outcome = outcome_of Notes_now.codes answer } ∷ []) []) here)
      ∙ ap (λ (es : List OwnEvent). account_of side vc log ++ es) (numbered-three (outcome_of Notes_now.codes answer)
      ∙ ap (λ (codes : List Loading). three Number cell moment (outcome_of codes answer)) codes-are)

-- A way puts no code in.
pub missed-codes : (log : List Event) (cell : List ℕ) (moment : ℕ) (answer : Answer) → codes_in (log ++ missed_way cell moment answer) ≡ codes_in log
missed-codes log cell moment answer =
    fold-append (λ (codes : List Loading) (event : Event). codes_after codes event.reply event.step) [] log (missed_way cell moment answer)

pub judged-codes : (log : List Event) (cell : List ℕ) (moment : ℕ) (answer : Answer) → codes_in (log ++ judged_way cell moment answer) ≡ codes_in log
judged-codes log cell moment answer =
    fold-append (λ (codes : List Loading) (event : Event). codes_after codes event.reply event.step) [] log (judged_way cell moment answer)
