use Rattle.std.proofs.Common.{◌≡◌, ◌≤◌, length, vec_capacity}
use Rattle.std.specs.Prelude.{All}
use Rattle.card_shelf.proofs.copying.copies_of.Given as goal

abbrev pub invariant-loop : goal.invariant-loop
invariant-loop l = record {
  many : length l.copies.items ≡ l.counter;
  room : l.many ≤ vec_capacity l.copies;
  same : All (λ copy. copy ≡ l.program) l.copies.items;
}
