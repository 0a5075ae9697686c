use Rattle.std.proofs.Common.{◌≡◌, ◌≤◌, length, take, vec_capacity}
use Rattle.card_shelf.specs.inner.Cards.{decisions_of}
use Rattle.card_shelf.specs.inner.Gathered.{CountsOwn, IsGathered}
use Rattle.card_shelf.proofs.gathering.gather.Given as goal

abbrev pub invariant-loop-number : goal.invariant-loop-number
invariant-loop-number l = record {
  counts : CountsOwn l.fn.side (length l.cards) (take l.number-index l.fn.arrivals) l.next;
  sized : length l.next ≡ 64;
  gathered : IsGathered l.fn.side (length l.cards) (take l.number-index l.fn.arrivals) (decisions_of l.cards) l.decisions.items;
  decisions : length l.decisions.items ≡ l.number-index;
  room : length l.fn.arrivals ≤ vec_capacity l.decisions;
  capacity : vec_capacity l.decisions ≡ vec_capacity l.fn.decisions;
}
