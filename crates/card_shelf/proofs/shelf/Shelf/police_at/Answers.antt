use Rattle.std.proofs.Common.{List, Vec, Global, Ok, Err, Result, IfOk, length, take, drop, ◌++◌, sym, ap, ◌∙◌, subst}
use Rattle.card_shelf.specs.OneCard.{DecidesAsOneCard}
use Rattle.card_shelf.specs.Shelf.{ShelfView}
use Rattle.card_shelf.specs.declared.card.Card.{Card}
use Rattle.card_shelf.specs.inner.Cards.{cores_of}
use Rattle.card_shelf.proofs.Beside.{decides-as-one}
use Rattle.card_shelf.proofs.Lists.{overwritten}
use Rattle.card_shelf.proofs.OwnLemmas.{Decision}
use Rattle.card_shelf.proofs.shelf.Shelf.police_at.Goals as goal

-- What follows for each value of a result.
each-ok : {A : Type 0} {E : Type 0} (P Q : A → Type 0) (result : Result A E) → ((value : A) → P value → Q value) → IfOk result P → IfOk result Q
each-ok P Q (Ok value) follows holds = follows value holds
each-ok P Q (Err fault) follows holds = tt

pub returns-clause-as_one : goal.returns-clause-as_one
returns-clause-as_one g c =
    let inside = c.self.inside in
    let old = inside.cards.items in
    let new = c.police_all.new.cards in
    let arrivals = c.args.arrivals.now in
    let written = overwritten inside.cards.len old new inside.cards.ok.0 (c.police_all.auto.cards ∙ ap length c.as_mut_slice-cards.ensures.value) in
    each-ok _ _ c.police_all.result (λ (decisions : Vec Decision Global) batch.
    subst (λ (view : ShelfView). DecidesAsOneCard view.shape view.cards arrivals decisions.items (cores_of (take inside.cards.len (new ++ drop (length new) old))))
    c.self.view_is
    (subst (λ (cards : List Card). DecidesAsOneCard inside.shape (cores_of old) arrivals decisions.items (cores_of cards)) (sym written)
    (subst (λ (cards : List Card). DecidesAsOneCard inside.shape (cores_of cards) arrivals decisions.items (cores_of new))
    c.as_mut_slice-cards.ensures.value (decides-as-one _ _ _ _ _ batch.policed)))) c.police_all.ensures.batch
