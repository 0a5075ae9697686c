-- The machine value of a hidden value for C: the pointer, and a handle of the C library's allocator, which has no bits.
use Rattle.std.specs.Prelude.{◌≡◌, Option, None, Some}
use base.Shift.{Keyless}
use lib.Dec.{T, lit<}
use mathlib.Core.List.{List, [], ◌∷◌, ◌++◌}
use mathlib.Core.Path.{◌∙◌}
use mir.Raw.{raw}
use mir.Syntax.{ty_ptr, ty_struct, tcons, tnil}
use mir.Val.{Val, vstruct, vcons, vnil, of_list, has_ty, WT}
use denote.Memory.{lone}
use denote.Param.{layout}
use denote.Param.Send.{IsSend}
use denote.RattleType.{RattleType}
use denote.RawPtr.{Ptr, RawPtr, block_ptr, null_ptr, ptr_val}
use denote.Shadow.{shadow}
use denote.Struct.Struct.{Struct}
use Rattle.std.proofs.Crossing as heap
use Rattle.std.specs.Global.{Global}
use Rattle.std_alloc.proofs.SendSync.{lies}
use Rattle.std_heap.proofs.Handle.{heap_val, heap_Tells}
use Rattle.std_heap.specs.contracts.Global as Heap
use Rattle.std_heap.specs.contracts.GlobalAllocator.TheImpl.{ghosts}
use Rattle.upc_c.specs.contracts.hidden.Hidden as Hidden
use Rattle.upc_c.specs.inner.Hidden.{owned_for_c}

-- The generic type, at a type and the allocator of the C library.
abbrev pub shown : RattleType → RattleType
shown row = Hidden.the_row row Heap.the_row ghosts

abbrev pub word : Ptr → Val
word at = vstruct (vcons (ptr_val at) (vcons heap_val vnil))

-- A struct of these two fields. What it owns doesn't depend on its name.
abbrev fields : RattleType
fields = Struct (record { name = []; args = []; types = []; fields = RawPtr ∷ Heap.the_row ∷ [] })

pub told : (at : Ptr) (alloc : Global) (vals : List Val) → shadow (fields.own_val (at, (alloc, tt)) vals) → vals ≡ word at ∷ []
told at alloc vals s = s.1.0 ∙ (λ i. vstruct (of_list (s.1.1.0 i ++ (heap_Tells alloc s.0.1.0 s.1.1.1.0 i ++ []))) ∷ [])

pub handle_typed : T (has_ty (layout Heap.the_row) heap_val) × WT heap_val
handle_typed = (tt, ((tt, tt), tt))

pub typed : (at : Ptr) → T (has_ty (ty_struct [] (tcons ty_ptr (tcons (layout Heap.the_row) tnil))) (word at)) × WT (word at)
typed (block_ptr b o) = (tt, (tt, (handle_typed.1, tt)))
typed null_ptr = (tt, (record { fits = lit< tt }, (handle_typed.1, tt)))

-- A box may go to another thread if its value may.
pub keyless : (row : RattleType) → IsSend row → (alloc : Global) (at : Ptr) (value : Option row.Denot) → Keyless (owned_for_c row alloc at value)
keyless row sent alloc at None = tt
keyless row sent alloc at (Some value) = (lies row sent at value, heap.frees.frees alloc (raw (lone row.mir)) at)
