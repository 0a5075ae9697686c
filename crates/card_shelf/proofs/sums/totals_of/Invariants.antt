use Rattle.std.proofs.Common.{◌≡◌, ◌≤◌, ◌*◌, ◌^◌, take}
use Rattle.card_shelf.specs.Sums.{totals_of_cards}
use Rattle.card_shelf.specs.inner.Cards.{cores_of}
use Rattle.card_shelf.proofs.sums.totals_of.Given as goal

abbrev pub invariant-loop-card : goal.invariant-loop-card
invariant-loop-card l = record {
  sums : record { passed = l.passed; tagged = l.tagged; discarded = l.discarded; refused = l.refused }
      ≡ totals_of_cards (cores_of (take l.card-index l.cards));
  passed : l.passed ≤ l.card-index * 2 ^ 76;
  tagged : l.tagged ≤ l.card-index * 2 ^ 76;
  discarded : l.discarded ≤ l.card-index * 2 ^ 76;
  refused : l.refused ≤ l.card-index * 2 ^ 76;
}
