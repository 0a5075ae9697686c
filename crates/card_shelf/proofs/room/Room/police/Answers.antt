use Rattle.std.proofs.Common.{List, Vec, Global, length, sym, ap, ◌∙◌, subst}
use Rattle.card_shelf.specs.inner.Rooms.{IsRoom}
use Rattle.card_shelf.proofs.Lists.{overwritten}
use Rattle.card_shelf.proofs.OwnLemmas.{Decision}
use Rattle.card_shelf.proofs.room.Room.police.Goals as goal

pub invariant_of-self : goal.invariant_of-self
invariant_of-self g c =
    let most = c.self.inside.most in
    let written = overwritten c.self.inside.decision_lists.len c.self.inside.decision_lists.items c.police_lent.new.decision_lists c.self.inside.decision_lists.ok.0
    (c.police_lent.auto.decision_lists ∙ ap length c.as_mut_slice.ensures.value) in
    subst (λ (decision_lists : List (Vec Decision Global)). IsRoom most decision_lists c.police_lent.new.batch) (sym written)
    (c.police_lent.ensures.room most
    (subst (λ (decision_lists : List (Vec Decision Global)). IsRoom most decision_lists c.self.inside.batch) (sym c.as_mut_slice.ensures.value) c.self.invariant))
