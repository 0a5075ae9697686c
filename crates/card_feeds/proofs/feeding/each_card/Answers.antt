use Rattle.card_feeds.proofs.LaneLemmas.{feed-as-one}
use Rattle.card_feeds.proofs.feeding.each_card.Goals as goal

pub returns-clause-as_one : goal.returns-clause-as_one
returns-clause-as_one g c =
    let feeder = g.F.Feeder in
    feed-as-one feeder.coming feeder.has_taken c.args.lanes.now c.feed_each.new.lanes c.feed_each.ensures.sized c.feed_each.ensures.fed
