-- The sums of the counts of all cards.
use Rattle.std.specs.Prelude.{List}
use Rattle.std.specs.List.{sum_by}
use Rattle.card_core.specs.Agreement.{CoreView}
use Rattle.card_core.specs.Sums.{totals_of}
use Rattle.card_core.specs.declared.sums.Totals.{Totals}

-- For each verdict the sum of what the lines of these cards have counted.
abbrev pub totals_of_cards : List CoreView → Totals
totals_of_cards cards = record {
  passed = sum_by (λ card. (totals_of card.lines).passed) cards;
  tagged = sum_by (λ card. (totals_of card.lines).tagged) cards;
  discarded = sum_by (λ card. (totals_of card.lines).discarded) cards;
  refused = sum_by (λ card. (totals_of card.lines).refused) cards;
}
