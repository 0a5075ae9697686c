-- The effect of any sequence of calls on an arena.
use Rattle.std.specs.Prelude.{◌≡◌, List, [], ◌∷◌}
use Rattle.gen_arena.specs.Slot.{Slot}
use Rattle.gen_arena.specs.Insert.{Inserts}
use Rattle.gen_arena.specs.Remove.{Removes}
use Rattle.gen_arena.specs.declared.id.Id.{Id}

-- The effect of one call: it inserted a value under this id, it removed the value of this id, or it changed nothing.
pub data Change (T : Type 0) : Type 0 where
  inserted : Id → T → Change T
  removed : Id → T → Change T
  nothing : Change T

module _ {T : Type 0} where
  -- A call with this effect may change the old slots into the new ones.
  abbrev pub Makes : Change T → List (Slot T) → List (Slot T) → Type 0
  Makes (inserted id value) old new = Inserts old new id value
  Makes (removed id value) old new = Removes old new id value
  Makes nothing old new = new ≡ old

  -- Calls with these effects, in order, may change the first slots into the last ones.
  abbrev pub ChangesLead : List (Change T) → List (Slot T) → List (Slot T) → Type 0
  ChangesLead [] first last = last ≡ first
  ChangesLead (change ∷ later) first last =
      (next : List (Slot T)) × Makes change first next × ChangesLead later next last

  -- The ids that these calls inserted, in order.
  abbrev pub given_ids : List (Change T) → List Id
  given_ids [] = []
  given_ids (inserted id value ∷ later) = id ∷ given_ids later
  given_ids (removed id value ∷ later) = given_ids later
  given_ids (nothing ∷ later) = given_ids later
