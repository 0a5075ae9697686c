-- The queues of several cards in one list.
use Rattle.std.proofs.Common.{◌≡◌, ℕ, suc, ◌<◌, List, [], ◌∷◌, length, Some, refl, sym, ap, ◌∙◌, subst, inl, inr, arith, mod-lt, length-set}
use Rattle.std.specs.Prelude.{slice_get, slice_set}
use Rattle.std.proofs.lemmas.Bool.{cases_eq}
use Rattle.std.proofs.lemmas.Option.{same_Some, slice_get_within}
use Rattle.upc_cell.specs.declared.side.Side.{Side}
use Rattle.gen_arena.proofs.Public.{slice_get-set, slice_get-set_same, slice_get-set_other}
use Rattle.card_shelf.specs.declared.arrival.Arrival.{Arrival}
use Rattle.card_shelf.specs.Dealing.{card_for}
use Rattle.card_shelf.specs.Own.{own_arrivals, own_decisions, ServesAll, EachServes}
use Rattle.card_shelf.proofs.Beside.{decides-as-one}
use Rattle.card_shelf.proofs.Lists.{there}
use Rattle.card_shelf.proofs.OwnLemmas.{Decision, own-here, own-elsewhere, decisions-here, decisions-elsewhere, serves-length}
use Rattle.card_shelf.proofs.Weaving.{weave}
use Rattle.card_feeds.specs.Mixing.{IsMixOf, AreOnTheirCards, FedCardsAnswerAsOneCard}

-- The own arrivals of a card in a mix are its queue.
pub mix-own : (side : Side) (cards : ℕ) (queues : List (List Arrival)) (mix : List Arrival) → AreOnTheirCards side cards queues
    → IsMixOf queues mix → (number : ℕ) (queue : List Arrival) → slice_get queues number ≡ Some queue
    → own_arrivals side cards number mix ≡ queue
mix-own side cards queues [] homes mixed number queue at = sym (mixed number queue at)
mix-own side cards queues (x ∷ xs) homes mixed number queue at =
    let k = mixed.0 in
    let rest = mixed.1 in
    let here : card_for side cards x ≡ k = homes k (x ∷ rest) 0 x mixed.2 refl in
    let later : AreOnTheirCards side cards (slice_set queues k rest) = λ other own place y was is.
    elim (slice_get-set queues k other rest own was) [
      | inl same ↦
          homes k (x ∷ rest) (suc place) y mixed.2
          (ap (λ (ys : List Arrival). slice_get ys place) same.1 ∙ is) ∙ sym same.0
      | inr apart ↦ homes other own place y apart.1 is
    ] in
    elim (cases_eq number k) [
      | inl same ↦
          let whole : x ∷ rest ≡ queue = same_Some (x ∷ rest) queue (sym mixed.2 ∙ ap (slice_get queues) (sym same) ∙ at) in
          own-here side cards number x xs (here ∙ sym same)
          ∙ ap (λ (ys : List Arrival). x ∷ ys) (mix-own side cards (slice_set queues k rest) xs later mixed.3 number rest
          (ap (slice_get (slice_set queues k rest)) same ∙ slice_get-set_same queues k rest (slice_get_within queues k (x ∷ rest) mixed.2)))
          ∙ whole
      | inr apart ↦
          own-elsewhere side cards number x xs (λ e. apart (sym e ∙ here))
          ∙ mix-own side cards (slice_set queues k rest) xs later mixed.3 number queue
          (slice_get-set_other queues k number rest apart ∙ at)
    ]

-- Each list of answers is as long as the list of the card's own arrivals.
abbrev HaveLengths : Side → ℕ → List Arrival → List (List Decision) → Type 0
HaveLengths side cards mix answers = (number : ℕ) (own : List Decision) → slice_get answers number ≡ Some own
    → length own ≡ length (own_arrivals side cards number mix)

-- These are answers to all, of which each card's own are its list.
record Joined (side : Side) (cards : ℕ) (mix : List Arrival) (answers : List (List Decision)) : Type 0 where
  decisions : List Decision
  one_each : length decisions ≡ length mix
  own : (number : ℕ) (own : List Decision) → slice_get answers number ≡ Some own → own_decisions side cards number mix decisions ≡ own

no-answers : (decisions : List Decision) → length decisions ≡ 0 → [] ≡ decisions
no-answers [] e = refl
no-answers (t ∷ ts) e = absurd (omega (arith, e))

-- A list with this length begins with something.
begins : (decisions : List Decision) (n : ℕ) → length decisions ≡ suc n → (t : Decision) × (ts : List Decision) × (decisions ≡ t ∷ ts)
begins [] n e = absurd (omega (arith, e))
begins (t ∷ ts) n e = (t, ts, refl)

join : (side : Side) (cards : ℕ) (mix : List Arrival) (answers : List (List Decision)) → length answers ≡ cards
    → ((arrival : Arrival) → card_for side cards arrival < cards) → HaveLengths side cards mix answers → Joined side cards mix answers
join side cards [] answers sized within lengths = record {
  decisions = [];
  one_each = refl;
  own = λ number own at. no-answers own (lengths number own at);
}
join side cards (x ∷ xs) answers sized within lengths =
    let k = card_for side cards x in
    let own = there answers k (omega (arith, within x, sized)) in
    let parts = begins own.0 (length (own_arrivals side cards k xs))
    (lengths k own.0 own.1 ∙ ap length (own-here side cards k x xs refl)) in
    let t = parts.0 in
    let ts = parts.1 in
    let fewer : HaveLengths side cards xs (slice_set answers k ts) = λ number others at.
    elim (slice_get-set answers k number ts others at) [
      | inl same ↦
          let e = ap length (sym parts.2) ∙ lengths k own.0 own.1 ∙ ap length (own-here side cards k x xs refl) in
          ap length (sym same.1) ∙ omega (arith, e) ∙ ap (λ (n : ℕ). length (own_arrivals side cards n xs)) (sym same.0)
      | inr apart ↦
          lengths number others apart.1 ∙ ap length (own-elsewhere side cards number x xs (λ e. apart.0 (sym e)))
    ] in
    let later = join side cards xs (slice_set answers k ts) (length-set answers k ts ∙ sized) within fewer in
    record {
      decisions = t ∷ later.decisions;
      one_each = omega (arith, later.one_each);
      own = λ number others at. elim (cases_eq number k) [
        | inl same ↦
            let first : own.0 ≡ others = same_Some own.0 others (sym own.1 ∙ ap (slice_get answers) (sym same) ∙ at) in
            decisions-here side cards number x xs t later.decisions (sym same)
            ∙ ap (λ (us : List Decision). t ∷ us) (later.own number ts
            (ap (slice_get (slice_set answers k ts)) same ∙ slice_get-set_same answers k ts (slice_get_within answers k own.0 own.1)))
            ∙ sym parts.2 ∙ first
        | inr apart ↦
            decisions-elsewhere side cards number x xs t later.decisions (λ e. apart (sym e))
            ∙ later.own number others (slice_get-set_other answers k number ts apart ∙ at)
      ];
    }

-- Cards that have served their queues have answered each mix.
pub mix-answered : FedCardsAnswerAsOneCard
mix-answered shape old new queues answers have mix mixed =
    let side = shape.side in
    let cards = length old in
    let own = mix-own side cards queues mix have.homes mixed in
    let within : (arrival : Arrival) → card_for side cards arrival < cards = λ arrival. mod-lt _ have.some in
    let lengths : HaveLengths side cards mix answers = λ number decisions at.
    let below = slice_get_within answers number decisions at in
    let queue = there queues number (omega (arith, below, have.answers_each, have.queues_each)) in
    let card = there old number (omega (arith, below, have.answers_each)) in
    let next = there new number (omega (arith, below, have.answers_each, have.cards)) in
    serves-length card.0 next.0 queue.0 decisions (have.served number card.0 next.0 queue.0 decisions card.1 next.1 queue.1 at)
    ∙ ap length (sym (own number queue.0 queue.1)) in
    let all = join side cards mix answers have.answers_each within lengths in
    let each : EachServes side old mix all.decisions new = λ number card next here after.
    let below = slice_get_within old number card here in
    let queue = there queues number (omega (arith, below, have.queues_each)) in
    let decisions = there answers number (omega (arith, below, have.answers_each)) in
    subst (λ (ts : List Decision). ServesAll card (own_arrivals side cards number mix) ts next) (sym (all.own number decisions.0 decisions.1))
    (subst (λ (xs : List Arrival). ServesAll card xs decisions.0 next) (sym (own number queue.0 queue.1))
    (have.served number card next queue.0 decisions.0 here after queue.1 decisions.1)) in
    let policed = weave side old new mix all.decisions have.some have.cards all.one_each within each in
    record {
      decisions = all.decisions;
      one_each = all.one_each;
      own = all.own;
      policed = policed;
      as_one = decides-as-one shape old new mix all.decisions policed;
    }
