-- The places of the cards' arrivals, as they are dealt one after another.
use Rattle.std.proofs.Common.{◌≡◌, ℕ, ◌+◌, ◌<◌, List, [], ◌∷◌, ◌++◌, length, map, take, set, Some, sym, ap, ◌∙◌, subst, inl, inr, arith}
use Rattle.std.specs.Prelude.{slice_get}
use Rattle.std.proofs.lemmas.Option.{slice_get_within}
use Rattle.std.proofs.lemmas.List.{append-nil, take_all, map-append}
use Rattle.std.proofs.lemmas.List.Elements.{All-push}
use Rattle.upc_cell.specs.declared.side.Side.{Side}
use Rattle.card_shelf.specs.declared.arrival.Arrival.{Arrival}
use Rattle.card_shelf.specs.Dealing.{card_for}
use Rattle.card_shelf.specs.Own.{own_arrivals}
use Rattle.card_shelf.specs.inner.Places.{picked, IsDealt, AreOwn}
use Rattle.gen_arena.proofs.Public.{slice_get-set}
use Rattle.card_shelf.proofs.Lists.{take-next}
use Rattle.card_shelf.proofs.OwnLemmas.{own-append, own-here, own-elsewhere, picked-next}

module _ (side : Side) (cards : ℕ) (arrivals : List Arrival) where
  -- One more arrival is dealt.
  pub deal-next : (count number : ℕ) (arrival : Arrival) (places : List ℕ) (dealt : List (List ℕ))
      → IsDealt side cards arrivals count dealt → slice_get arrivals count ≡ Some arrival
      → number ≡ card_for side cards arrival → slice_get dealt number ≡ Some places
      → IsDealt side cards arrivals (count + 1) (set dealt number (places ++ count ∷ []))
  deal-next count number arrival places dealt so_far here is at other now e =
      let front = take count arrivals in
      let next : own_arrivals side cards other (take (count + 1) arrivals)
      ≡ own_arrivals side cards other front ++ own_arrivals side cards other (arrival ∷ []) =
      ap (own_arrivals side cards other) (take-next arrivals count arrival here) ∙ own-append side cards other front (arrival ∷ []) in
      elim (slice_get-set dealt number other (places ++ count ∷ []) now e) [
        | inl same ↦
            let old = so_far other places (ap (slice_get dealt) same.0 ∙ at) in
            subst (AreOwn side cards arrivals (count + 1) other) same.1 (record {
              own = picked-next arrivals places count arrival here
                  ∙ ap (λ (xs : List Arrival). xs ++ arrival ∷ []) old.own
                  ∙ ap (λ (xs : List Arrival). own_arrivals side cards other front ++ xs)
                  (sym (own-here side cards other arrival [] (sym is ∙ sym same.0)))
                  ∙ sym next;
              within = All-push (λ place. place < length arrivals) places count old.within (slice_get_within arrivals count arrival here);
            })
        | inr apart ↦
            let old = so_far other now apart.1 in
            record {
              own = old.own ∙ sym (append-nil (own_arrivals side cards other front))
                  ∙ ap (λ (xs : List Arrival). own_arrivals side cards other front ++ xs)
                  (sym (own-elsewhere side cards other arrival [] (λ same. apart.0 (sym (is ∙ same)))))
                  ∙ sym next;
              within = old.within;
            }
      ]

  -- All are dealt.
  pub deal-all : (dealt : List (List ℕ)) → IsDealt side cards arrivals (length arrivals) dealt
      → (number : ℕ) (places : List ℕ) → slice_get dealt number ≡ Some places
      → picked arrivals places ≡ own_arrivals side cards number arrivals
  deal-all dealt all number places e =
      (all number places e).own ∙ ap (own_arrivals side cards number) (take_all (length arrivals) arrivals (omega arith))

-- The numbers of the cards of the first arrivals, and one more.
pub numbers-next : (side : Side) (cards : ℕ) (arrivals : List Arrival) (count number : ℕ) (arrival : Arrival) (numbers : List ℕ)
    → numbers ≡ map (card_for side cards) (take count arrivals) → slice_get arrivals count ≡ Some arrival
    → number ≡ card_for side cards arrival → numbers ++ number ∷ [] ≡ map (card_for side cards) (take (count + 1) arrivals)
numbers-next side cards arrivals count number arrival numbers so_far here is =
    ap (λ (n : ℕ). numbers ++ n ∷ []) is
    ∙ ap (λ (ns : List ℕ). ns ++ card_for side cards arrival ∷ []) so_far
    ∙ sym (map-append (card_for side cards) (take count arrivals) (arrival ∷ []))
    ∙ ap (map (card_for side cards)) (sym (take-next arrivals count arrival here))
