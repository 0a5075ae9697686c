-- Lists with room, as one of them changes.
use Rattle.std.proofs.Common.{◌≡◌, ℕ, ◌+◌, ◌≤◌, List, length, set, Some, Vec, Global, vec_capacity, subst, inl, inr, arith}
use Rattle.std.specs.Prelude.{slice_get}
use Rattle.card_shelf.specs.declared.batch.Batch.{Batch}
use Rattle.card_shelf.specs.declared.card.Card.{Card}
use Rattle.card_shelf.specs.inner.Rooms.{HaveRoom, AreShort, CardsRoom, BatchHasRoom}
use Rattle.gen_arena.proofs.Public.{slice_get-set}

-- A list of places keeps its room, or gets one with at least as much.
pub room-set : (most : ℕ) (lists : List (Vec ℕ Global)) (number : ℕ) (old new : Vec ℕ Global)
    → slice_get lists number ≡ Some old → vec_capacity old ≤ vec_capacity new → HaveRoom most lists → HaveRoom most (set lists number new)
room-set most lists number old new at grown room other places e = elim (slice_get-set lists number other new places e) [
  | inl same ↦
      let had = room number old at in
      subst (λ (v : Vec ℕ Global). most ≤ vec_capacity v) same.1 (omega (arith, had, grown))
  | inr apart ↦ room other places apart.1
]

-- Lists of at most this number of places, and one more in one of them.
pub short-set : (count : ℕ) (lists : List (Vec ℕ Global)) (number : ℕ) (old new : Vec ℕ Global) → slice_get lists number ≡ Some old
    → length new.items ≤ length old.items + 1 → AreShort count lists → AreShort (count + 1) (set lists number new)
short-set count lists number old new at grown short other places e = elim (slice_get-set lists number other new places e) [
  | inl same ↦
      let had = short number old at in
      subst (λ (v : Vec ℕ Global). length v.items ≤ count + 1) same.1 (omega (arith, had, grown))
  | inr apart ↦ (let had = short other places apart.1 in omega (arith, had))
]

-- A card keeps its room for answers, or gets more.
pub cards-room-set : (most : ℕ) (cards : List Card) (number : ℕ) (old new : Card) → slice_get cards number ≡ Some old
    → vec_capacity old.decisions ≤ vec_capacity new.decisions → CardsRoom most cards → CardsRoom most (set cards number new)
cards-room-set most cards number old new at grown room other card e = elim (slice_get-set cards number other new card e) [
  | inl same ↦
      let had = room number old at in
      subst (λ (x : Card). most ≤ vec_capacity x.decisions) same.1 (omega (arith, had, grown))
  | inr apart ↦ room other card apart.1
]

-- Room for a batch is room for a smaller one.
pub room-for-fewer : (count most fewer : ℕ) (batch : Batch) → fewer ≤ most → BatchHasRoom count most batch → BatchHasRoom count fewer batch
room-for-fewer count most fewer batch below had = record {
  sized = had.sized;
  dealt = λ number places e. (let room = had.dealt number places e in omega (arith, room, below));
  numbers = omega (arith, had.numbers, below);
  decisions = omega (arith, had.decisions, below);
}
