-- The decisions about all arrivals, gathered one after another.
use Rattle.std.proofs.Common.{◌≡◌, ◌≢◌, ℕ, ◌+◌, ◌<◌, List, [], ◌∷◌, ◌++◌, length, map, take, drop, set, get_or, Some, sym, ap, ◌∙◌, subst, inl, inr, arith, length-append, mod-lt}
use Rattle.std.specs.Prelude.{slice_get}
use Rattle.std.proofs.lemmas.Bool.{cases_eq}
use Rattle.std.proofs.lemmas.Option.{same_Some, slice_get-map, slice_get-get_or}
use Rattle.std.proofs.lemmas.List.{append-nil, take_all}
use Rattle.upc_cell.specs.declared.side.Side.{Side}
use Rattle.card_shelf.specs.declared.arrival.Arrival.{Arrival}
use Rattle.card_shelf.specs.Dealing.{card_for}
use Rattle.card_shelf.specs.Own.{own_arrivals, own_decisions}
use Rattle.card_shelf.specs.inner.Gathered.{CountsOwn, IsGathered, HasOwnDecisions, HaveOneEach}
use Rattle.card_shelf.proofs.CardLemmas.{mapped}
use Rattle.gen_arena.proofs.Public.{slice_get-set}
use Rattle.card_shelf.proofs.Lists.{take-next, around}
use Rattle.card_shelf.proofs.OwnLemmas.{Decision, own-append, own-here, own-elsewhere, decisions-append, decisions-here, decisions-elsewhere}

module _ (side : Side) (cards : ℕ) (arrivals : List Arrival) where
  own-next : (count number : ℕ) (arrival : Arrival) → slice_get arrivals count ≡ Some arrival
      → own_arrivals side cards number (take (count + 1) arrivals)
      ≡ own_arrivals side cards number (take count arrivals) ++ own_arrivals side cards number (arrival ∷ [])
  own-next count number arrival here =
      ap (own_arrivals side cards number) (take-next arrivals count arrival here)
      ∙ own-append side cards number (take count arrivals) (arrival ∷ [])

  -- How many arrivals each card had, once there is one more.
  pub counts-next : (count number : ℕ) (arrival : Arrival) (counts : List ℕ) (before : ℕ)
      → CountsOwn side cards (take count arrivals) counts → slice_get arrivals count ≡ Some arrival
      → number ≡ card_for side cards arrival → slice_get counts number ≡ Some before
      → CountsOwn side cards (take (count + 1) arrivals) (set counts number (before + 1))
  counts-next count number arrival counts before so_far here is at other now e =
      let own = own_arrivals side cards other in
      let sum = ap length (own-next count other arrival here) ∙ length-append (own (take count arrivals)) (own (arrival ∷ [])) in
      elim (slice_get-set counts number other (before + 1) now e) [
        | inl same ↦
            let had = so_far other before (ap (slice_get counts) same.0 ∙ at) in
            let one = ap length (own-here side cards other arrival [] (sym is ∙ sym same.0)) in
            sym same.1 ∙ ap (λ (n : ℕ). n + 1) had ∙ ap (λ (n : ℕ). length (own (take count arrivals)) + n) (sym one) ∙ sym sum
        | inr apart ↦
            let had = so_far other now apart.1 in
            let none = ap length (own-elsewhere side cards other arrival [] (λ same. apart.0 (sym (is ∙ same)))) in
            omega (arith, had, none, sum)
      ]

  -- If the next arrival is of a card, the card has more decisions than were gathered of it so far.
  pub decisions-further : (count number : ℕ) (arrival : Arrival) → slice_get arrivals count ≡ Some arrival
      → card_for side cards arrival ≡ number
      → length (own_arrivals side cards number (take count arrivals)) < length (own_arrivals side cards number arrivals)
  decisions-further count number arrival here is =
      let own = own_arrivals side cards number in
      let rest = drop (count + 1) arrivals in
      let whole = ap (λ (xs : List Arrival). length (own xs)) (around arrivals count arrival here)
      ∙ ap length (own-append side cards number (take count arrivals) (arrival ∷ rest))
      ∙ length-append (own (take count arrivals)) (own (arrival ∷ rest)) in
      let one = ap length (own-here side cards number arrival rest is) in
      omega (arith, whole, one)

  -- The next decision of a card is at the number of its arrivals so far, and it is there.
  pub place-decisions : (count number place : ℕ) (arrival : Arrival) (counts : List ℕ) (cards_decisions : List (List Decision)) (from : List Decision)
      → CountsOwn side cards (take count arrivals) counts → HaveOneEach side cards arrivals cards_decisions
      → slice_get arrivals count ≡ Some arrival → number ≡ card_for side cards arrival
      → slice_get counts number ≡ Some place → slice_get cards_decisions number ≡ Some from
      → (place ≡ length (own_arrivals side cards number (take count arrivals))) × (place < length from)
  place-decisions count number place arrival counts cards_decisions from so_far each here is at there =
      let had = so_far number place at in
      (had, omega (arith, had, decisions-further count number arrival here (sym is), each number from there))

  -- What was gathered, once there is one more.
  pub gather-next : (count number : ℕ) (arrival : Arrival) (cards_decisions : List (List Decision)) (decisions : List Decision) (from : List Decision) (next : Decision)
      → IsGathered side cards (take count arrivals) cards_decisions decisions → length decisions ≡ length (take count arrivals)
      → slice_get arrivals count ≡ Some arrival → number ≡ card_for side cards arrival
      → slice_get cards_decisions number ≡ Some from
      → slice_get from (length (own_arrivals side cards number (take count arrivals))) ≡ Some next
      → IsGathered side cards (take (count + 1) arrivals) cards_decisions (decisions ++ next ∷ [])
  gather-next count number arrival cards_decisions decisions from next so_far sized here is at read other ts e =
      let own = own_arrivals side cards other in
      let front = take count arrivals in
      let grows : own_decisions side cards other (take (count + 1) arrivals) (decisions ++ next ∷ [])
      ≡ own_decisions side cards other front decisions ++ own_decisions side cards other (arrival ∷ []) (next ∷ []) =
      ap (λ (xs : List Arrival). own_decisions side cards other xs (decisions ++ next ∷ [])) (take-next arrivals count arrival here)
      ∙ decisions-append side cards other front (arrival ∷ []) decisions (next ∷ []) sized in
      let sum = ap length (own-next count other arrival here) ∙ length-append (own front) (own (arrival ∷ [])) in
      let had = so_far other ts e in
      elim (cases_eq other number) [
        | inl same ↦
            let mine : card_for side cards arrival ≡ other = sym is ∙ sym same in
            let one : length (own (take (count + 1) arrivals)) ≡ length (own front) + 1 =
            sum ∙ ap (λ (n : ℕ). length (own front) + n) (ap length (own-here side cards other arrival [] mine)) in
            let from_is : from ≡ ts = same_Some from ts (sym at ∙ ap (slice_get cards_decisions) (sym same) ∙ e) in
            let there : slice_get ts (length (own front)) ≡ Some next =
            ap (λ (n : ℕ). slice_get ts (length (own_arrivals side cards n front))) same
            ∙ ap (λ (us : List Decision). slice_get us (length (own_arrivals side cards number front))) (sym from_is) ∙ read in
            grows ∙ ap (λ (us : List Decision). own_decisions side cards other front decisions ++ us) (decisions-here side cards other arrival [] next [] mine)
            ∙ ap (λ (us : List Decision). us ++ next ∷ []) had
            ∙ sym (take-next ts (length (own front)) next there)
            ∙ ap (λ (n : ℕ). take n ts) (sym one)
        | inr apart ↦
            let theirs : card_for side cards arrival ≢ other = λ e. apart (sym (is ∙ e)) in
            let none : length (own (take (count + 1) arrivals)) ≡ length (own front) =
            ap length (own-next count other arrival here
            ∙ ap (λ (xs : List Arrival). own front ++ xs) (own-elsewhere side cards other arrival [] theirs) ∙ append-nil (own front)) in
            grows ∙ ap (λ (us : List Decision). own_decisions side cards other front decisions ++ us) (decisions-elsewhere side cards other arrival [] next [] theirs)
            ∙ append-nil (own_decisions side cards other front decisions) ∙ had ∙ ap (λ (n : ℕ). take n ts) (sym none)
      ]

  -- All is gathered.
  pub gather-all : (cards_decisions : List (List Decision)) (decisions : List Decision)
      → HaveOneEach side cards arrivals cards_decisions → IsGathered side cards (take (length arrivals) arrivals) cards_decisions decisions
      → HasOwnDecisions side cards arrivals decisions cards_decisions
  gather-all cards_decisions decisions sized all number ts e =
      let whole = take_all (length arrivals) arrivals (omega arith) in
      ap (λ (xs : List Arrival). own_decisions side cards number xs decisions) (sym whole) ∙ all number ts e
      ∙ ap (λ (xs : List Arrival). take (length (own_arrivals side cards number xs)) ts) whole
      ∙ take_all (length (own_arrivals side cards number arrivals)) ts (omega (arith, sized number ts e))

-- The arrival of a number that was read.
pub numbered : (side : Side) (cards : ℕ) (arrivals : List Arrival) (numbers : List ℕ) (count number : ℕ)
    → numbers ≡ map (card_for side cards) arrivals → count < length numbers → number ≡ get_or numbers count 0
    → (arrival : Arrival) × (slice_get arrivals count ≡ Some arrival) × (card_for side cards arrival ≡ number)
numbered side cards arrivals numbers count number all below is =
    let card = card_for side cards in
    mapped card (slice_get arrivals count) number
    (sym (slice_get-map card arrivals count) ∙ ap (λ (ns : List ℕ). slice_get ns count) (sym all)
    ∙ slice_get-get_or numbers count 0 below ∙ ap Some (sym is))

-- It is the number of a card.
pub numbered-within : (side : Side) (cards : ℕ) (arrivals : List Arrival) (numbers : List ℕ) (count number : ℕ)
    → numbers ≡ map (card_for side cards) arrivals → count < length numbers → number ≡ get_or numbers count 0 → 0 < cards
    → number < cards
numbered-within side cards arrivals numbers count number all below is some =
    subst (λ (n : ℕ). n < cards) (numbered side cards arrivals numbers count number all below is).2 (mod-lt _ some)
