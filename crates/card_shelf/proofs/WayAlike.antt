-- If a cell arrives at two cards that have the same account of its connection, both answer it
-- alike, and both have the same account of it afterwards.
use Rattle.std.proofs.Common.{◌≡◌, ℕ, ◌+◌, ◌≤◌, ◌^◌, Bool, true, false, List, [], ◌∷◌, ◌++◌, length, Option, Some, None, refl, sym, ap, ◌∙◌, subst, arith}
use Rattle.std.proofs.lemmas.List.{length-append, map-append}
use Rattle.std.proofs.lemmas.Option.{same_Some}
use Rattle.upc_cell.specs.declared.side.Side.{Side}
use Rattle.upc_cell.specs.declared.vc.Vc.{Vc}
use Rattle.upc_cell.specs.Connection.{vc_of, is_same_vc}
use Rattle.card_core.specs.declared.answer.Answer.{Answer}
use Rattle.card_core.specs.declared.answer.Answer.TheVariants.{Judged, NoConnection, Released, Stale, MomentBack, MomentTooLate, JournalFull, NoMemory}
use Rattle.card_core.specs.declared.reply.Reply.TheVariants.{Entered, Picked}
use Rattle.card_core.specs.declared.shape.Shape.{Shape}
use Rattle.card_core.specs.declared.step.Step.TheVariants.{Enter, Pick}
use Rattle.card_core.specs.Agreement.{events_of}
use Rattle.card_core.specs.Log.{Event, IsLog}
use Rattle.card_core.specs.World.{Loading}
use Rattle.card_isolation.specs.Act.{Act}
use Rattle.card_isolation.specs.Isolation.{account_of}
use Rattle.card_isolation.specs.Outcome.{Outcome, done, outcome_of}
use Rattle.card_isolation.specs.OwnEvents.{OwnEvent, acts_of}
use Rattle.card_isolation.proofs.Isolated.{isolated}
use Rattle.card_shelf.specs.OneCard.{codes_in}
use Rattle.card_shelf.proofs.Ways.{missed_way, judged_way, entered_in, two, three, missed-here, picked-here, judged-here}

-- What a list that goes on as another does has there.
abbrev pub rest : List OwnEvent → List OwnEvent
rest [] = []
rest (event ∷ later) = later

pub cancel : (xs ys zs : List OwnEvent) → xs ++ ys ≡ xs ++ zs → ys ≡ zs
cancel [] ys zs e = e
cancel (x ∷ xs) ys zs e = cancel xs ys zs (ap rest e)

abbrev second : List OwnEvent → Option Outcome
second [] = None
second (one ∷ []) = None
second (one ∷ other ∷ later) = Some other.outcome

abbrev third : List OwnEvent → Option Outcome
third [] = None
third (one ∷ []) = None
third (one ∷ other ∷ []) = None
third (one ∷ other ∷ another ∷ later) = Some another.outcome

-- What comes of an answer is never that something was done.
abbrev is_done : Outcome → Bool
is_done done = true
is_done _ = false

answered : (codes : List Loading) (answer : Answer) → is_done (outcome_of codes answer) ≡ false
answered codes (Judged line number moment value program verdict cell) = refl
answered codes NoConnection = refl
answered codes Released = refl
answered codes Stale = refl
answered codes (MomentBack last) = refl
answered codes MomentTooLate = refl
answered codes JournalFull = refl
answered codes NoMemory = refl

not-done : (codes : List Loading) (answer : Answer) → outcome_of codes answer ≡ done → ⊥
not-done codes answer e = let no = sym (answered codes answer) ∙ ap is_done e in absurd (cc)

abbrev act_in : OwnEvent → Act
act_in event = event.act

module _ (one shape : Shape) (log another : List Event) (vc : Vc) (cell : List ℕ) (moment : ℕ) (side : one.side ≡ shape.side) (journal : one.journal ≡ shape.journal)
    (few : length log + 3 ≤ 2 ^ 62) (few_too : length another + 3 ≤ 2 ^ 62)
    (own : is_same_vc vc (vc_of one.side cell) ≡ true)
    (before : account_of one.side vc log ≡ account_of shape.side vc another) where
  own_too : is_same_vc vc (vc_of shape.side cell) ≡ true
  own_too = subst (λ (s : Side). is_same_vc vc (vc_of s cell) ≡ true) side own

  abbrev Account : List OwnEvent
  Account = account_of one.side vc log

  abbrev Theirs : List OwnEvent
  Theirs = account_of shape.side vc another

  -- Where both accounts go on by the same acts, what came of them is the same.
  extended : (way way_too : List Event) (tail tail_too : List OwnEvent) → IsLog one (log ++ way) → IsLog shape (another ++ way_too)
      → length way ≤ 3 → length way_too ≤ 3
      → account_of one.side vc (log ++ way) ≡ Account ++ tail → account_of shape.side vc (another ++ way_too) ≡ Theirs ++ tail_too
      → acts_of tail ≡ acts_of tail_too
      → (account_of one.side vc (log ++ way) ≡ account_of shape.side vc (another ++ way_too)) × (tail ≡ tail_too)
  extended way way_too tail tail_too is is_too short short_too here there acts =
      let length_is = length-append log way in
      let length_too = length-append another way_too in
      let acts_here : acts_of (Account ++ tail) ≡ acts_of Account ++ acts_of tail = map-append act_in Account tail in
      let acts_there : acts_of (Theirs ++ tail_too) ≡ acts_of Theirs ++ acts_of tail_too = map-append act_in Theirs tail_too in
      let both : acts_of (account_of one.side vc (log ++ way)) ≡ acts_of (account_of shape.side vc (another ++ way_too)) =
      ap acts_of here ∙ acts_here
      ∙ ap (λ (acts_then : List Act). acts_then ++ acts_of tail) (ap acts_of before)
      ∙ ap (λ (acts_then : List Act). acts_of Theirs ++ acts_then) acts
      ∙ sym acts_there ∙ ap acts_of (sym there) in
      let same = isolated one shape (log ++ way) (another ++ way_too) vc is is_too side journal
      (omega (arith, length_is, short, few)) (omega (arith, length_too, short_too, few_too)) both in
      (same, cancel Theirs tail tail_too (ap (λ (es : List OwnEvent). es ++ tail) (sym before) ∙ sym here ∙ same ∙ there))

  number : entered_in Account ≡ entered_in Theirs
  number = ap entered_in before

  -- The same becomes of the cell, which way it may go.
  pub both-missed : (answer decision : Answer) → IsLog one (log ++ missed_way cell moment answer) → IsLog shape (another ++ missed_way cell moment decision)
      → (account_of one.side vc (log ++ missed_way cell moment answer) ≡ account_of shape.side vc (another ++ missed_way cell moment decision))
      × (outcome_of (codes_in log) answer ≡ outcome_of (codes_in another) decision)
  both-missed answer decision is is_too =
      let both = extended (missed_way cell moment answer) (missed_way cell moment decision)
      (two (entered_in Account) cell moment (outcome_of (codes_in log) answer)) (two (entered_in Theirs) cell moment (outcome_of (codes_in another) decision))
      is is_too (omega arith) (omega arith)
      (missed-here one.side vc log cell moment answer own) (missed-here shape.side vc another cell moment decision own_too)
      (ap (λ (n : ℕ). acts_of (two n cell moment done)) number) in
      (both.0, same_Some (outcome_of (codes_in log) answer) (outcome_of (codes_in another) decision) (ap second both.1))

  pub both-judged : (answer decision : Answer) → IsLog one (log ++ judged_way cell moment answer) → IsLog shape (another ++ judged_way cell moment decision)
      → (account_of one.side vc (log ++ judged_way cell moment answer) ≡ account_of shape.side vc (another ++ judged_way cell moment decision))
      × (outcome_of (codes_in log) answer ≡ outcome_of (codes_in another) decision)
  both-judged answer decision is is_too =
      let both = extended (judged_way cell moment answer) (judged_way cell moment decision)
      (three (entered_in Account) cell moment (outcome_of (codes_in log) answer)) (three (entered_in Theirs) cell moment (outcome_of (codes_in another) decision))
      is is_too (omega arith) (omega arith)
      (judged-here one.side vc log cell moment answer own) (judged-here shape.side vc another cell moment decision own_too)
      (ap (λ (n : ℕ). acts_of (three n cell moment done)) number) in
      (both.0, same_Some (outcome_of (codes_in log) answer) (outcome_of (codes_in another) decision) (ap third both.1))

  abbrev Picking : List Event
  Picking = events_of (Enter 0 cell moment ∷ Pick 0 ∷ []) (Entered ∷ Picked ∷ [])

  pub missed-here-alone : (answer : Answer) → IsLog one (log ++ missed_way cell moment answer) → IsLog shape (another ++ Picking) → ⊥
  missed-here-alone answer is is_too =
      let both = extended (missed_way cell moment answer) Picking
      (two (entered_in Account) cell moment (outcome_of (codes_in log) answer)) (two (entered_in Theirs) cell moment done)
      is is_too (omega arith) (omega arith)
      (missed-here one.side vc log cell moment answer own) (picked-here shape.side vc another cell moment own_too)
      (ap (λ (n : ℕ). acts_of (two n cell moment done)) number) in
      not-done (codes_in log) answer (same_Some (outcome_of (codes_in log) answer) done (ap second both.1))

  pub missed-there-alone : (decision : Answer) → IsLog one (log ++ Picking) → IsLog shape (another ++ missed_way cell moment decision) → ⊥
  missed-there-alone decision is is_too =
      let both = extended Picking (missed_way cell moment decision)
      (two (entered_in Account) cell moment done) (two (entered_in Theirs) cell moment (outcome_of (codes_in another) decision))
      is is_too (omega arith) (omega arith)
      (picked-here one.side vc log cell moment own) (missed-here shape.side vc another cell moment decision own_too)
      (ap (λ (n : ℕ). acts_of (two n cell moment done)) number) in
      not-done (codes_in another) decision (sym (same_Some done (outcome_of (codes_in another) decision) (ap second both.1)))
