-- Ownership and borrows of a block whose boxes each have room for one value of the row R.
use Rattle.std.specs.Prelude.{ℕ, ◌+◌, ◌*◌, ◌^◌, List, [], ◌∷◌, length, Option, Some, None}
use Rattle.std.specs.Mem.{type_size}
use base.Fraction.{full_share}
use base.Fml.{Lft, Fml, ftrue, ffalse, fsep, flt, froom}
use mir.Syntax.{Ty, ty_array}
use mir.Raw.{raw}
use denote.RattleType.{RattleType}
use denote.Memory.{lone, part_at, shared_of}
use denote.Sharing.{nothing, said, beside}
use denote.RawPtr.{Ptr, block_ptr, null_ptr}

module _ (R : RattleType) where
  -- One box at offset o of block b: its value, or uninitialised room for one.
  abbrev pub box_owned : ℕ → ℕ → Option R.Denot → Fml
  box_owned b o None = froom (raw (lone R.mir)) b o
  box_owned b o (Some x) = part_at R full_share x b o

  -- Adjacent boxes, from offset o of block b on.
  abbrev pub boxes_owned : ℕ → ℕ → List (Option R.Denot) → Fml
  boxes_owned b o [] = ftrue
  boxes_owned b o (box ∷ later) = fsep (box_owned b o box) (boxes_owned b (o + type_size R) later)

  -- One box, borrowed for a lifetime. A blank box lends nothing.
  abbrev pub box_lent : ℕ → ℕ → Option R.Denot → Lft → Fml
  box_lent b o None = nothing
  box_lent b o (Some x) = shared_of R x b o

  -- Adjacent boxes, borrowed for a lifetime.
  abbrev pub boxes_lent : ℕ → ℕ → List (Option R.Denot) → Lft → Fml
  boxes_lent b o [] = nothing
  boxes_lent b o (box ∷ later) = beside (box_lent b o box) (boxes_lent b (o + type_size R) later)

  -- The boxes take fewer than 2 ^ 63 octets.
  abbrev pub in_bounds : List (Option R.Denot) → Fml
  in_bounds boxes = flt (length boxes * type_size R) (2 ^ 63)

  -- A row of boxes that begins at this pointer.
  abbrev pub row_owned : Ptr → List (Option R.Denot) → Fml
  row_owned null_ptr boxes = ffalse
  row_owned (block_ptr b o) boxes = fsep (in_bounds boxes) (boxes_owned b o boxes)

  -- A row of boxes that begins at this pointer, borrowed for a lifetime.
  abbrev pub row_lent : Ptr → List (Option R.Denot) → Lft → Fml
  row_lent null_ptr boxes = said ffalse
  row_lent (block_ptr b o) boxes = beside (said (in_bounds boxes)) (boxes_lent b o boxes)

  -- The allocator's permission to deallocate a block of `count` boxes.
  abbrev pub way_back : (Ty → Ptr → Fml) → Ptr → ℕ → Fml
  way_back token p count = token (raw (ty_array (lone R.mir) count)) p
