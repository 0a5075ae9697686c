-- A shelf that polices arrivals stays beside one card that answers them.
use Rattle.std.proofs.Common.{◌≡◌, ◌≢◌, ◌⊎◌, ℕ, ◌+◌, ◌*◌, ◌≤◌, ◌<◌, ◌^◌, true, false, List, [], ◌∷◌, ◌++◌, length, Some, refl, sym, ap, ◌∙◌, subst, inl, inr, arith, length-set}
use Rattle.std.specs.Prelude.{slice_get, slice_set}
use Rattle.std.proofs.lemmas.List.{length-append}
use Rattle.std.proofs.lemmas.Option.{same_Some, slice_get_within}
use Rattle.upc_cell.specs.declared.side.Side.{Side}
use Rattle.upc_cell.specs.declared.vc.Vc.{Vc}
use Rattle.upc_cell.specs.Connection.{vc_of, is_same_vc}
use Rattle.upc_cell.proofs.Public.{vc_same}
use Rattle.card_core.specs.declared.shape.Shape.{Shape}
use Rattle.card_core.specs.Agreement.{CoreView}
use Rattle.card_core.specs.Log.{Event}
use Rattle.card_core.specs.Sections.{answer_to}
use Rattle.card_core.specs.World.{Loading}
use Rattle.card_isolation.specs.Isolation.{account_of}
use Rattle.card_isolation.specs.Outcome.{outcome_of}
use Rattle.card_shelf.specs.declared.arrival.Arrival.{Arrival}
use Rattle.card_shelf.specs.Dealing.{card_of, card_for}
use Rattle.card_shelf.specs.Logs.{IsWayOf, GoesOnBy}
use Rattle.card_shelf.specs.Own.{ServesAll, own_arrivals, own_decisions}
use Rattle.card_shelf.specs.Policing.{ServesArrival, Polices, PolicesAll}
use Rattle.card_shelf.specs.OneCard.{IsBeside, codes_in, AreAlike, IsDecidedAlike, AreDecidedAlike, ShelvesDecideAsOneCard}
use Rattle.gen_arena.proofs.Public.{slice_get-set}
use Rattle.card_shelf.proofs.BesideStep.{steps-beside}
use Rattle.card_shelf.proofs.BothGo.{both-go}
use Rattle.card_shelf.proofs.GoingOn.{goes-nowhere, goes-first}
use Rattle.card_shelf.proofs.Lists.{there}
use Rattle.card_shelf.proofs.OwnLemmas.{Decision, own-here, own-elsewhere, decisions-here, decisions-elsewhere}

-- The log of the card of this number after an arrival: it goes on by the arrival's steps, if the arrival is the card's.
abbrev pub GrowsBy : ℕ → ℕ → Arrival → Decision → List Event → List Event → Type 0
GrowsBy mine number arrival decision earlier own =
    ((mine ≡ number) × (way : List Event) × IsWayOf arrival (answer_to arrival.cell decision) way × (own ≡ earlier ++ way))
    ⊎ ((mine ≢ number) × (own ≡ earlier))

-- The card of this number has gone on by its own arrivals, the first of them and the later ones.
own-goes : (side : Side) (cards number : ℕ) (x : Arrival) (t : Decision) (xs : List Arrival) (ts : List Decision) (log between own : List Event)
    → GrowsBy (card_for side cards x) number x t log between
    → GoesOnBy between (own_arrivals side cards number xs) (own_decisions side cards number xs ts) own
    → GoesOnBy log (own_arrivals side cards number (x ∷ xs)) (own_decisions side cards number (x ∷ xs) (t ∷ ts)) own
own-goes side cards number x t xs ts log between own (inl mine) goes =
    let own_xs = own_arrivals side cards number xs in
    let own_ts = own_decisions side cards number xs ts in
    subst (λ (us : List Decision). GoesOnBy log (own_arrivals side cards number (x ∷ xs)) us own) (sym (decisions-here side cards number x xs t ts mine.0))
    (subst (λ (ys : List Arrival). GoesOnBy log ys (t ∷ own_ts) own) (sym (own-here side cards number x xs mine.0))
    (goes-first log between own x t own_xs own_ts mine.1 mine.2 mine.3 goes))
own-goes side cards number x t xs ts log between own (inr apart) goes =
    subst (λ (us : List Decision). GoesOnBy log (own_arrivals side cards number (x ∷ xs)) us own) (sym (decisions-elsewhere side cards number x xs t ts apart.0))
    (subst (λ (ys : List Arrival). GoesOnBy log ys (own_decisions side cards number xs ts) own) (sym (own-elsewhere side cards number x xs apart.0))
    (subst (λ (l : List Event). GoesOnBy l (own_arrivals side cards number xs) (own_decisions side cards number xs ts) own) apart.1 goes))

-- Each of the longer logs has loaded the codes of the one that it grew from.
abbrev pub KeepsCodes : List (List Event) → List (List Event) → Type 0
KeepsCodes logs longer = (number : ℕ) (own : List Event) → slice_get longer number ≡ Some own
    → (earlier : List Event) × (slice_get logs number ≡ Some earlier) × (codes_in own ≡ codes_in earlier)

module _ (one shape : Shape) (side : one.side ≡ shape.side) (journal : one.journal ≡ shape.journal) where
  -- The card with this log is beside the cards with these logs.
  abbrev pub Beside : List Event → CoreView → List (List Event) → List CoreView → Type 0
  Beside log card logs cards = IsBeside (record { shape = one; log = log; card = card }) (record { shape = shape; logs = logs; cards = cards })

  -- One arrival: the shelf and the card are beside each other afterwards.
  record OneOn (log : List Event) (next : CoreView) (logs : List (List Event)) (between : List CoreView) (arrival : Arrival) (answer decision : Decision) : Type 0 where
    way : List Event
    way_is : IsWayOf arrival (answer_to arrival.cell answer) way
    longer : List (List Event)
    beside : Beside (log ++ way) next longer between
    short : length way ≤ 3
    same_length : length longer ≡ length logs
    grown : (number : ℕ) (own : List Event) → slice_get longer number ≡ Some own
        → (earlier : List Event) × (slice_get logs number ≡ Some earlier) × (length own ≤ length earlier + 3) × (codes_in own ≡ codes_in earlier)
        × GrowsBy (card_for shape.side (length logs) arrival) number arrival decision earlier own
    codes : codes_in (log ++ way) ≡ codes_in log
    alike : IsDecidedAlike shape.side log logs arrival answer decision

  one-on : (log : List Event) (card next : CoreView) (logs : List (List Event)) (cards between : List CoreView) (arrival : Arrival) (answer decision : Decision)
      → Beside log card logs cards → length log + 3 ≤ 2 ^ 62
      → ((number : ℕ) (own : List Event) → slice_get logs number ≡ Some own → length own + 3 ≤ 2 ^ 62)
      → ServesArrival arrival answer card next → Polices shape.side cards arrival decision between
      → OneOn log next logs between arrival answer decision
  one-on log card next logs cards between arrival answer decision beside few each_few serves polices =
      let mine = vc_of shape.side arrival.cell in
      let number = card_for shape.side (length cards) arrival in
      let in_cards : number < length cards = slice_get_within cards number polices.card polices.there in
      let at = there logs number (omega (arith, in_cards, beside.logged.sized)) in
      let own = at.0 in
      let same_number : card_of mine (length logs) ≡ number = ap (card_of mine) beside.logged.sized in
      let accounts : (vc : Vc) → is_same_vc vc (vc_of one.side arrival.cell) ≡ true → account_of one.side vc log ≡ account_of shape.side vc own =
      λ vc is. beside.accounts vc own
      (ap (λ (v : Vc). slice_get logs (card_of v (length logs))) (vc_same vc (vc_of one.side arrival.cell) is ∙ ap (λ (s : Side). vc_of s arrival.cell) side)
      ∙ ap (slice_get logs) same_number ∙ at.1) in
      let go = both-go one shape side journal log own arrival answer decision card next polices.card polices.next few (each_few number own at.1) beside.logged.here
      (beside.logged.each number own polices.card at.1 polices.there) accounts serves.answers polices.did.answers in
      let longer = slice_set logs number (own ++ go.way_too) in
      let same_length : length longer ≡ length logs = length-set logs number (own ++ go.way_too) in
      record {
        way = go.way;
        way_is = go.way_is;
        longer = longer;
        beside = steps-beside (record { shape = one; log = log; card = card }) (record { shape = shape; logs = logs; cards = cards }) beside
            (vc_of one.side arrival.cell) number own go.way go.way_too next polices.next between
            (ap (λ (s : Side). card_of (vc_of s arrival.cell) (length logs)) side ∙ same_number) at.1 polices.after go.here.is_log go.there.is_log go.own go.here.foreign
            (λ vc foreign. go.there.foreign vc (subst (λ (s : Side). is_same_vc vc (vc_of s arrival.cell) ≡ false) side foreign));
        short = go.here.short;
        same_length = same_length;
        grown = λ k other is. elim (slice_get-set logs number k (own ++ go.way_too) other is) [
          | inl same ↦ (
            own,
            ap (slice_get logs) same.0 ∙ at.1,
            (let more = length-append own go.way_too in
                let is_length : length (own ++ go.way_too) ≡ length other = ap length same.1 in
                omega (arith, more, is_length, go.there.short)),
            ap codes_in (sym same.1) ∙ go.there.codes,
            inl (same_number ∙ sym same.0, go.way_too, go.way_too_is, sym same.1),
          )
          | inr apart ↦ (other, apart.1, omega arith, refl, inr (λ is_mine. apart.0 (sym is_mine ∙ same_number), refl))
        ];
        codes = go.here.codes;
        alike = λ other is.
            let here : slice_get logs number ≡ Some other = ap (slice_get logs) (sym same_number) ∙ is in
            let same : own ≡ other = same_Some own other (sym at.1 ∙ here) in
            subst (λ (l : List Event). AreAlike log l arrival answer decision) same go.alike;
      }

  -- Decisions that are alike after some logs are alike after longer ones with the same codes.
  decision-later : (log longer : List Event) (logs grown : List (List Event)) (arrival : Arrival) (answer decision : Decision)
      → codes_in longer ≡ codes_in log → length grown ≡ length logs → KeepsCodes logs grown
      → IsDecidedAlike shape.side log logs arrival answer decision → IsDecidedAlike shape.side longer grown arrival answer decision
  decision-later log longer logs grown arrival answer decision codes sized each alike other is =
      let was = each (card_for shape.side (length grown) arrival) other is in
      let at : slice_get logs (card_for shape.side (length logs) arrival) ≡ Some was.0 =
      ap (λ (n : ℕ). slice_get logs (card_for shape.side n arrival)) (sym sized) ∙ was.1 in
      ap (λ (cs : List Loading). outcome_of cs (answer_to arrival.cell answer)) codes
      ∙ alike was.0 at
      ∙ ap (λ (cs : List Loading). outcome_of cs (answer_to arrival.cell decision)) (sym was.2)

  -- The log of each card goes on by the steps of its own arrivals.
  abbrev pub EachGoesOn : List (List Event) → List (List Event) → List Arrival → List Decision → Type 0
  EachGoesOn logs grown arrivals decisions = (number : ℕ) (own : List Event) → slice_get grown number ≡ Some own
      → (earlier : List Event) × (slice_get logs number ≡ Some earlier)
      × GoesOnBy earlier (own_arrivals shape.side (length logs) number arrivals) (own_decisions shape.side (length logs) number arrivals decisions) own

  -- All arrivals.
  pub record AllOn (log : List Event) (next : CoreView) (logs : List (List Event)) (new : List CoreView) (arrivals : List Arrival) (answers decisions : List Decision) : Type 0 where
    pub longer : List Event
    pub grown : List (List Event)
    pub beside : Beside longer next grown new
    pub goes : GoesOnBy log arrivals answers longer
    pub codes : codes_in longer ≡ codes_in log
    pub sized : length grown ≡ length logs
    pub each : KeepsCodes logs grown
    pub each_goes : EachGoesOn logs grown arrivals decisions
    pub alike : AreDecidedAlike shape.side longer grown arrivals answers decisions

  pub all-on : (log : List Event) (card next : CoreView) (logs : List (List Event)) (cards new : List CoreView) (arrivals : List Arrival) (answers decisions : List Decision)
      → Beside log card logs cards → length log + 3 * length arrivals ≤ 2 ^ 62
      → ((number : ℕ) (own : List Event) → slice_get logs number ≡ Some own → length own + 3 * length arrivals ≤ 2 ^ 62)
      → ServesAll card arrivals answers next → PolicesAll shape.side cards arrivals decisions new
      → AllOn log next logs new arrivals answers decisions
  all-on log card next logs cards new [] [] [] beside few each_few serves polices = record {
    longer = log;
    grown = logs;
    beside = subst (λ (c : CoreView). Beside log c logs new) (sym serves)
        (subst (λ (cs : List CoreView). Beside log card logs cs) (sym polices) beside);
    goes = goes-nowhere log;
    codes = refl;
    sized = refl;
    each = λ number own is. (own, is, refl);
    each_goes = λ number own is. (own, is, goes-nowhere own);
    alike = tt;
  }
  all-on log card next logs cards new [] [] (t ∷ ts) beside few each_few serves polices = absurd polices
  all-on log card next logs cards new [] (a ∷ answers) decisions beside few each_few serves polices = absurd serves
  all-on log card next logs cards new (x ∷ xs) [] decisions beside few each_few serves polices = absurd serves
  all-on log card next logs cards new (x ∷ xs) (a ∷ answers) [] beside few each_few serves polices = absurd polices
  all-on log card next logs cards new (x ∷ xs) (a ∷ answers) (t ∷ ts) beside few each_few serves polices =
      let first = one-on log card serves.0 logs cards polices.0 x a t beside (omega (arith, few))
      (λ number own is. let room = each_few number own is in omega (arith, room)) serves.1 polices.1 in
      let length_is = length-append log first.way in
      let later = all-on (log ++ first.way) serves.0 next first.longer polices.0 new xs answers ts first.beside
      (omega (arith, length_is, first.short, few))
      (λ number own is.
      let was = first.grown number own is in
      let room = each_few number was.0 was.1 in
      omega (arith, room, was.2))
      serves.2 polices.2 in
      let codes : codes_in later.longer ≡ codes_in log = later.codes ∙ first.codes in
      let sized : length later.grown ≡ length logs = later.sized ∙ first.same_length in
      let each : KeepsCodes logs later.grown = λ number own is.
      let was = later.each number own is in
      let before = first.grown number was.0 was.1 in
      (before.0, before.1, was.2 ∙ before.3) in
      record {
        longer = later.longer;
        grown = later.grown;
        beside = later.beside;
        goes = goes-first log (log ++ first.way) later.longer x a xs answers first.way first.way_is refl later.goes;
        codes = codes;
        sized = sized;
        each = each;
        each_goes = λ number own is.
            let was = later.each_goes number own is in
            let before = first.grown number was.0 was.1 in
            let goes = subst (λ (n : ℕ). GoesOnBy was.0 (own_arrivals shape.side n number xs) (own_decisions shape.side n number xs ts) own) first.same_length was.2 in
            (before.0, before.1, own-goes shape.side (length logs) number x t xs ts before.0 was.0 own before.4 goes);
        alike = (decision-later log later.longer logs later.grown x a t codes sized each first.alike, later.alike);
      }

pub decides-as-one : ShelvesDecideAsOneCard
decides-as-one shape old new arrivals decisions polices one logs next answers beside time serves =
    let all = all-on one.shape shape beside.logged.side beside.logged.journal one.log one.card next logs old new arrivals answers decisions beside time.here time.each
    serves polices in
    record {
      log = all.longer;
      logs = all.grown;
      goes_on = all.goes;
      sized = all.sized;
      each_goes_on = λ number earlier own was is.
          let goes = all.each_goes number own is in
          let same : goes.0 ≡ earlier = same_Some goes.0 earlier (sym goes.1 ∙ was) in
          subst (λ (l : List Event). GoesOnBy l (own_arrivals shape.side (length logs) number arrivals) (own_decisions shape.side (length logs) number arrivals decisions) own) same goes.2;
      beside = all.beside;
      alike = all.alike;
    }
