-- Cards that share nothing: what each does by itself is what all do one after another.
use Rattle.std.proofs.Common.{◌≡◌, ◌≢◌, ℕ, ◌<◌, List, [], ◌∷◌, length, refl, sym, ap, ◌∙◌, subst, inl, inr, arith, length-set}
use Rattle.std.specs.Prelude.{slice_get, slice_set}
use Rattle.std.proofs.lemmas.Option.{same_Some}
use Rattle.upc_cell.specs.declared.side.Side.{Side}
use Rattle.card_core.specs.Agreement.{CoreView}
use Rattle.card_shelf.specs.declared.arrival.Arrival.{Arrival}
use Rattle.card_shelf.specs.Dealing.{card_for}
use Rattle.card_shelf.specs.Policing.{PolicesAll}
use Rattle.card_shelf.specs.Own.{own_arrivals, own_decisions, ServesAll, EachServes}
use Rattle.gen_arena.proofs.Public.{slice_get-set}
use Rattle.card_shelf.proofs.Lists.{there, same-lists}
use Rattle.card_shelf.proofs.OwnLemmas.{Decision, own-here, own-elsewhere, decisions-here, decisions-elsewhere}

-- Where each card answers its own arrivals, the cards answer all arrivals in their order.
pub weave : (side : Side) (old new : List CoreView) (arrivals : List Arrival) (decisions : List Decision) → 0 < length old
    → length new ≡ length old → length decisions ≡ length arrivals
    → ((arrival : Arrival) → card_for side (length old) arrival < length old)
    → EachServes side old arrivals decisions new → PolicesAll side old arrivals decisions new
weave side old new [] [] some sized e within each =
    same-lists old new (sym sized) (λ number core next here after. each number core next here after)
weave side old new [] (t ∷ ts) some sized e within each = absurd (omega (arith, e))
weave side old new (x ∷ xs) [] some sized e within each = absurd (omega (arith, e))
weave side old new (x ∷ xs) (t ∷ ts) some sized e within each =
    let cards = length old in
    let number = card_for side cards x in
    let core = there old number (within x) in
    let next = there new number (omega (arith, within x, sized)) in
    let mine : ServesAll core.0 (x ∷ own_arrivals side cards number xs) (t ∷ own_decisions side cards number xs ts) next.0 =
    subst (λ (us : List Decision). ServesAll core.0 (x ∷ own_arrivals side cards number xs) us next.0) (decisions-here side cards number x xs t ts refl)
    (subst (λ (ys : List Arrival). ServesAll core.0 ys (own_decisions side cards number (x ∷ xs) (t ∷ ts)) next.0) (own-here side cards number x xs refl)
    (each number core.0 next.0 core.1 next.1)) in
    let between = slice_set old number mine.0 in
    let same : length between ≡ cards = length-set old number mine.0 in
    let later : EachServes side between xs ts new = λ other here after was is.
    subst (λ (n : ℕ). ServesAll here (own_arrivals side n other xs) (own_decisions side n other xs ts) after) (sym same)
    (elim (slice_get-set old number other mine.0 here was) [
      | inl at ↦
          let after_is : next.0 ≡ after = same_Some next.0 after (sym next.1 ∙ ap (slice_get new) (sym at.0) ∙ is) in
          subst (λ (c : CoreView). ServesAll c (own_arrivals side cards other xs) (own_decisions side cards other xs ts) after) at.1
          (subst (λ (c : CoreView). ServesAll mine.0 (own_arrivals side cards other xs) (own_decisions side cards other xs ts) c) after_is
          (subst (λ (n : ℕ). ServesAll mine.0 (own_arrivals side cards n xs) (own_decisions side cards n xs ts) next.0) (sym at.0) mine.2))
      | inr apart ↦
          let theirs : number ≢ other = λ e. apart.0 (sym e) in
          subst (λ (us : List Decision). ServesAll here (own_arrivals side cards other xs) us after) (decisions-elsewhere side cards other x xs t ts theirs)
          (subst (λ (ys : List Arrival). ServesAll here ys (own_decisions side cards other (x ∷ xs) (t ∷ ts)) after) (own-elsewhere side cards other x xs theirs)
          (each other here after apart.1 is))
    ]) in (
      between,
      record { card = core.0; there = core.1; next = mine.0; did = mine.1; after = refl },
      weave side between new xs ts (omega (arith, some, same)) (sized ∙ sym same) (omega (arith, e))
          (λ y. subst (λ (n : ℕ). card_for side n y < n) (sym same) (within y)) later,
    )
