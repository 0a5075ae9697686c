-- A `&` to the boxes comes from a borrow of them, and reaches each value. Assumes `Logic`.
use Prim.Native.Nat.{ℕ, ◌+◌}
use Rattle.std.specs.Prelude.{List, [], ◌∷◌, Option, Some, None}
use Rattle.std.specs.Mem.{type_size}
use seplogic.Ra.Ura.{Ura}
use base.Fml.{Lft, Incl, ftrue, ffalse}
use types.Logic.{Logic}
use denote.RattleType.{RattleType, RowLaws}
use denote.Param.Laws.{Laws}
use denote.RawPtr.{Ptr, block_ptr, null_ptr}
use denote.Sharing.{ShrLaws, said}
use denote.SharingLaws.{beside_shr_laws, nothing_shr_laws, said_shr_laws}
use denote.Shares.{Shares-less}
use denote.Struct.Lending.{Lends, Lends-both, Lends-nothing, Lends-said, Lends-false}
use Rattle.gen_arena.specs.inner.BlockMemory.{box_owned, boxes_owned, box_lent, boxes_lent, in_bounds, row_owned, row_lent}

-- A borrow can be copied and shortened.
module _ (R : RattleType) (L : RowLaws R) where
  box_copies : (b o : ℕ) (box : Option R.Denot) → ShrLaws (box_lent R b o box)
  box_copies b o None = nothing_shr_laws
  box_copies b o (Some x) = L x b o

  boxes_copy : (boxes : List (Option R.Denot)) (b o : ℕ) → ShrLaws (boxes_lent R b o boxes)
  boxes_copy [] b o = nothing_shr_laws
  boxes_copy (box ∷ later) b o = beside_shr_laws _ _ (box_copies b o box) (boxes_copy later b (o + type_size R))

  pub row_copies : (p : Ptr) (boxes : List (Option R.Denot)) → ShrLaws (row_lent R p boxes)
  row_copies null_ptr boxes = said_shr_laws ffalse tt
  row_copies (block_ptr b o) boxes = beside_shr_laws _ _ (said_shr_laws (in_bounds R boxes) tt) (boxes_copy boxes b o)

-- Owned boxes can be borrowed.
module _ {M : Type 1} {𝓤 : Ura M} (𝓛 : Logic 𝓤) (l : Lft) (R : RattleType) (L : Laws R) (within : Incl l R.lives) where
  box_lends : (b o : ℕ) (box : Option R.Denot) → Lends 𝓛 (box_owned R b o box) (box_lent R b o box) l
  box_lends b o None = Lends-nothing 𝓛 (box_owned R b o None) l
  box_lends b o (Some x) = λ κ shares. Shares-less 𝓛 R R.lives l within (L.shares 𝓛) x κ shares b o

  boxes_lend : (boxes : List (Option R.Denot)) (b o : ℕ) → Lends 𝓛 (boxes_owned R b o boxes) (boxes_lent R b o boxes) l
  boxes_lend [] b o = Lends-nothing 𝓛 ftrue l
  boxes_lend (box ∷ later) b o =
      Lends-both 𝓛 (box_owned R b o box) (boxes_owned R b (o + type_size R) later) (box_lent R b o box) (boxes_lent R b (o + type_size R) later) l (box_lends b o box) (boxes_lend later b (o + type_size R))

  pub row_lends : (p : Ptr) (boxes : List (Option R.Denot)) → Lends 𝓛 (row_owned R p boxes) (row_lent R p boxes) l
  row_lends null_ptr boxes = Lends-false 𝓛 (said ffalse) l
  row_lends (block_ptr b o) boxes =
      Lends-both 𝓛 (in_bounds R boxes) (boxes_owned R b o boxes) (said (in_bounds R boxes)) (boxes_lent R b o boxes) l (Lends-said 𝓛 (in_bounds R boxes) tt l) (boxes_lend boxes b o)
