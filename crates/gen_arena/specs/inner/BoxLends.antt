-- The boxes after a `&mut` into one of them has ended.
use Rattle.std.specs.Prelude.{ℕ, List, Option, Some, slice_set}
use Rattle.std.specs.Borrow.{Fml, RattleType, MutBor, Lends}
use Rattle.gen_arena.specs.declared.block.Boxes.{Boxes}
use Rattle.gen_arena.specs.contracts.block.Boxes.{the_row}

-- The owner, with these boxes.
abbrev pub with_held : {X : Type 0} → Boxes X → List (Option X) → Boxes X
with_held owner boxes = record { of = owner.of; start = owner.start; held = boxes }

-- Box k has the value that was last written through the `&mut`.
abbrev pub lends_box : (R : RattleType) → MutBor (Boxes R.Denot) → ℕ → MutBor R.Denot → Fml
lends_box R owner k lent = Lends (the_row R) R owner lent (λ w. with_held owner.now (slice_set owner.now.held k (Some w)))
