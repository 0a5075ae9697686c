-- The waiting octets of a buffer.
use Rattle.std.specs.Prelude.{◌≡◌, ℕ, ◌≤◌, List, length}

-- Both buffers have this room, and the places `start` and `end` of the waiting octets are in order and within it.
pub record IsWindow (room : ℕ) (buffer spare : List ℕ) (start end : ℕ) : Type 0 where
  pub buffer_room : length buffer ≡ room
  pub spare_room : length spare ≡ room
  pub ordered : start ≤ end
  pub ended : end ≤ room
