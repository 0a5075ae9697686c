use Rattle.std.proofs.Common.{◌≡◌, ◌≤◌, length, take, vec_len, vec_capacity}
use Rattle.card_shelf.specs.Own.{ServesAll}
use Rattle.card_shelf.specs.inner.Places.{picked}
use Rattle.card_shelf.specs.inner.Rest.{IsAtRest}
use Rattle.card_shelf.proofs.card.Card.police.Given as goal

abbrev pub invariant-loop-place : goal.invariant-loop-place
invariant-loop-place g l = record {
  served : ServesAll l.fn.self.core (picked l.arrivals (take l.place-index l.places)) l.self.decisions.items l.self.core;
  rest : IsAtRest l.self.core;
  decisions : vec_len l.self.decisions ≡ l.place-index;
  room : length l.places ≤ vec_capacity l.self.decisions;
  capacity : vec_capacity l.self.decisions ≡ vec_capacity l.fn.self.decisions;
}
