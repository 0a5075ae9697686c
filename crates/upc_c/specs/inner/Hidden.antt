-- The ownership of a hidden value: that of its box, or nothing.
use Rattle.std.specs.Prelude.{Option, Some, None}
use base.Fml.{Fml, ftrue}
use mir.Syntax.{Ty}
use denote.RattleType.{RattleType}
use denote.RawPtr.{Ptr}
use Rattle.std.specs.Box.Ownership.{box_owns}
use Rattle.std.specs.Global.{Global}
use Rattle.std_heap.specs.contracts.GlobalAllocator.TheImpl.{ghosts}

-- The token is the right to free the box.
abbrev pub owned : (Ty → Ptr → Fml) → (row : RattleType) → Ptr → Option row.Denot → Fml
owned token row at None = ftrue
owned token row at (Some value) = box_owns token row at value

-- The same for a box of the C library's allocator.
abbrev pub owned_for_c : (row : RattleType) → Global → Ptr → Option row.Denot → Fml
owned_for_c row alloc = owned (ghosts.dealloc_token alloc) row
