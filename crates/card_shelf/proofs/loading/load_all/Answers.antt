use Rattle.card_shelf.specs.inner.Cards.{cores_of}
use Rattle.card_shelf.proofs.ProgramLemmas.{room-cards, loads-each, loads-rest}
use Rattle.card_shelf.proofs.loading.load_all.Goals as goal

pub load_each-requires-clause-free : goal.load_each-requires-clause-free
load_each-requires-clause-free c = room-cards c.args.cards.now c.in_default.ensures.none

pub returns-clause-loaded : goal.returns-clause-loaded
returns-clause-loaded c =
    loads-each c.args.cards.now c.load_each.new.cards c.args.program c.load_each.result.items c.load_each.auto.cards
    c.load_each.ensures.one_each c.load_each.ensures.loaded

pub returns-clause-rest : goal.returns-clause-rest
returns-clause-rest c =
    loads-rest (cores_of c.args.cards.now) (cores_of c.load_each.new.cards) c.args.program c.load_each.result.items
    (loads-each c.args.cards.now c.load_each.new.cards c.args.program c.load_each.result.items c.load_each.auto.cards
    c.load_each.ensures.one_each c.load_each.ensures.loaded) c.requires.rest
