-- Past ids.
use Rattle.std.specs.Prelude.{◌≡◌, ◌≤◌, List, None}
use Rattle.gen_arena.specs.Slot.{Slot, generation_at}
use Rattle.gen_arena.specs.Live.{live_value}
use Rattle.gen_arena.specs.declared.id.Id.{Id}

module _ {T : Type 0} where
  -- The id isn't live, and its slot has used the id's generation.
  pub record IsPast (slots : List (Slot T)) (id : Id) : Type 0 where
    pub not_live : live_value slots id ≡ None
    pub given : 1 ≤ id.generation
    pub used : id.generation ≤ generation_at slots id.slot

  -- Every id that is past in the old slots is past in the new ones.
  abbrev pub KeepsPast : List (Slot T) → List (Slot T) → Type 0
  KeepsPast old new = (id : Id) → IsPast old id → IsPast new id
