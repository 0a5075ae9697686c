use Rattle.std.proofs.Common.{◌≡◌, length, arith}
use Rattle.card_shelf.specs.Programs.{RetiresEach}
use Rattle.card_shelf.specs.inner.Cards.{cores_of}
use Rattle.card_shelf.proofs.ProgramLemmas.{may-cards, retires-each, retires-rest}
use Rattle.card_shelf.proofs.retiring.retire_all.Goals as goal
use Rattle.card_shelf.proofs.retiring.retire_all.Goals.{After-retire_each}

retired : (c : After-retire_each) → RetiresEach (cores_of c.args.cards.now) c.args.ids.now (cores_of c.retire_each.new.cards)
retired c =
    let same : length c.args.ids.now ≡ length c.args.cards.now = omega (arith, c.if-ids-cards.false) in
    retires-each c.args.cards.now c.retire_each.new.cards c.args.ids.now c.retire_each.auto.cards same c.retire_each.ensures.retired

pub retire_each-requires-clause-free : goal.retire_each-requires-clause-free
retire_each-requires-clause-free c = may-cards c.args.cards.now c.args.ids.now c.in_default.ensures.none

pub returns-clause-retired : goal.returns-clause-retired
returns-clause-retired c = retired (goal.at.returns-clause-retired c).After-retire_each

pub returns-clause-rest : goal.returns-clause-rest
returns-clause-rest c =
    retires-rest (cores_of c.args.cards.now) (cores_of c.retire_each.new.cards) c.args.ids.now
    (retired (goal.at.returns-clause-rest c).After-retire_each) c.requires.rest
