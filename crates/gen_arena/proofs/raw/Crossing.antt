-- Boxes and deeds are `Send` and `Sync` when the values and the allocator are.
use Rattle.std.specs.Prelude.{ℕ, ◌+◌, List, [], ◌∷◌, Option, Some, None}
use Rattle.std.specs.Mem.{type_size}
use base.Fraction.{full_share}
use base.Shift.{Keyless}
use denote.RattleType.{RattleType}
use denote.RawPtr.{Ptr, block_ptr, null_ptr}
use denote.Struct.Struct.{exits_of}
use denote.Struct.Owning.{shape, fields, to}
use denote.Param.Send.{IsSend, IsSync, Common, AllSend, part_keyless, owning_send, struct_send, struct_sync, sendable}
use Rattle.core.specs.declared.alloc.Allocator.{Ghosts}
use Rattle.std_alloc.proofs.SendSync.{FreesAnywhere, quiet}
use Rattle.gen_arena.specs.inner.BlockMemory.{boxes_owned, boxes_lent, row_owned, row_lent}
use Rattle.gen_arena.specs.contracts.block.Boxes as Boxes
use Rattle.gen_arena.specs.contracts.block.Deed as Deed

module _ (R : RattleType) where
  boxes_cross : IsSend R → (boxes : List (Option R.Denot)) (b o : ℕ) → Keyless (boxes_owned R b o boxes)
  boxes_cross send [] b o = tt
  boxes_cross send (None ∷ later) b o = (tt, boxes_cross send later b (o + type_size R))
  boxes_cross send (Some x ∷ later) b o = (part_keyless R send full_share x b o, boxes_cross send later b (o + type_size R))

  row_crosses : IsSend R → (p : Ptr) (boxes : List (Option R.Denot)) → Keyless (row_owned R p boxes)
  row_crosses send null_ptr boxes = tt
  row_crosses send (block_ptr b o) boxes = (tt, boxes_cross send boxes b o)

  boxes_are_common : IsSync R → (boxes : List (Option R.Denot)) (b o : ℕ) → Common (boxes_lent R b o boxes)
  boxes_are_common sync [] b o κ = tt
  boxes_are_common sync (None ∷ later) b o κ = (tt, boxes_are_common sync later b (o + type_size R) κ)
  boxes_are_common sync (Some x ∷ later) b o κ = (sync.shared x b o κ, boxes_are_common sync later b (o + type_size R) κ)

  row_is_common : IsSync R → (p : Ptr) (boxes : List (Option R.Denot)) → Common (row_lent R p boxes)
  row_is_common sync null_ptr boxes κ = tt
  row_is_common sync (block_ptr b o) boxes κ = (tt, boxes_are_common sync boxes b o κ)

  pub boxes_send : IsSend R → IsSend (Boxes.the_row R)
  boxes_send send =
      let O = Boxes.the_type R in
      let mark : AllSend (fields O) = (search sendable, tt) in
      owning_send O mark (λ owner. row_crosses send owner.start owner.held) (λ k. quiet (to O) (exits_of k (fields O)) ((struct_send (shape O) mark).leaving k))

  pub boxes_sync : IsSync R → IsSync (Boxes.the_row R)
  boxes_sync sync =
      let O = Boxes.the_type R in
      record { shared = λ owner b o κ. ((struct_sync (shape O) (search sendable, tt)).shared (to O owner) b o κ, row_is_common sync owner.start owner.held κ) }

  module _ (A : RattleType) (g : Ghosts A.Denot) where
    pub deed_send : FreesAnywhere A.Denot g → IsSend (Deed.the_row R A g)
    deed_send anywhere =
        let O = Deed.the_type R A g in
        let mark : AllSend (fields O) = (search sendable, tt) in
        owning_send O mark (λ deed. anywhere.frees deed.from _ deed.start) (λ k. quiet (to O) (exits_of k (fields O)) ((struct_send (shape O) mark).leaving k))

    pub deed_sync : IsSync (Deed.the_row R A g)
    deed_sync =
        let O = Deed.the_type R A g in
        record { shared = λ deed b o κ. ((struct_sync (shape O) (search sendable, tt)).shared (to O deed) b o κ, tt) }
