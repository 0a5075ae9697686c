use Rattle.std.proofs.Common.{List, length, take, drop, ◌++◌, sym, ap, ◌∙◌, subst}
use Rattle.card_core.specs.declared.shape.Shape.{Shape}
use Rattle.card_shelf.specs.OneCard.{DecidesAsOneCard}
use Rattle.card_shelf.specs.Policing.{PolicesAll}
use Rattle.card_shelf.specs.Shelf.{ShelfView}
use Rattle.card_shelf.specs.declared.card.Card.{Card}
use Rattle.card_shelf.specs.inner.Cards.{cores_of}
use Rattle.card_shelf.proofs.Beside.{decides-as-one}
use Rattle.card_shelf.proofs.Lists.{overwritten}
use Rattle.card_shelf.proofs.shelf.Shelf.police_in_at.Goals as goal

pub returns-clause-as_one : goal.returns-clause-as_one
returns-clause-as_one g c =
    let inside = c.self.inside in
    let shape = c.args.self.now.shape in
    let old = inside.cards.items in
    let new = c.police.new.cards in
    let arrivals = c.args.arrivals.now in
    let decisions = c.police.new.self.decisions in
    let written = overwritten inside.cards.len old new inside.cards.ok.0 (c.police.auto.cards ∙ ap length c.as_mut_slice.ensures.value) in
    let polices = subst (λ (shape : Shape). PolicesAll shape.side (cores_of c.as_mut_slice.result.now) arrivals decisions (cores_of new))
    c.shape-side.ensures c.police.ensures.batch.policed in
    subst (λ (view : ShelfView). DecidesAsOneCard shape view.cards arrivals decisions (cores_of (take inside.cards.len (new ++ drop (length new) old))))
    c.self.view_is
    (subst (λ (cards : List Card). DecidesAsOneCard shape (cores_of old) arrivals decisions (cores_of cards)) (sym written)
    (subst (λ (cards : List Card). DecidesAsOneCard shape (cores_of cards) arrivals decisions (cores_of new))
    c.as_mut_slice.ensures.value (decides-as-one shape _ _ _ _ polices)))
