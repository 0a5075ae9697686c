use Rattle.card_feeds.proofs.MixLemmas.{mix-answered}
use Rattle.card_feeds.proofs.laws.fed_cards_answer_as_one_card.Goals as goal

pub returns : goal.returns
returns c = mix-answered
