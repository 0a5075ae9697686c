-- Equality of ids.
use Rattle.std.specs.Prelude.{Bool, ◌&&◌, ◌==◌}
use Rattle.gen_arena.specs.declared.id.Id.{Id}

-- Whether both have the same slot and the same generation.
abbrev pub is_same_id : Id → Id → Bool
is_same_id one other = (one.slot == other.slot) && (one.generation == other.generation)
