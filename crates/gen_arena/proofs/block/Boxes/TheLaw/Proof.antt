-- A `&` to the boxes reaches each value. Assumes `Logic`.
use mathlib.Core.List.{[], ◌++◌}
use base.Fml.{Incl-trans}
use contract.BorrowLft.{meet_⊑_left}
use denote.RattleType.{RattleType}
use denote.RawPtr.{RawPtr}
use denote.Param.Laws.{Laws}
use denote.Param.Shared.{copy_shared}
use denote.Struct.Laws.{field_copy}
use denote.Struct.Lending.{of_Lends}
use Rattle.core.specs.contracts.marker.PhantomData as mark
use Rattle.gen_arena.specs.contracts.block.Boxes as owner
use Rattle.gen_arena.proofs.block.Boxes.TheLaw.Statement.{statement}
use Rattle.gen_arena.proofs.raw.Sharing.{row_copies, row_lends}

pub shares : (R : RattleType) (L : Laws R) → statement R L
shares R L =
    let codes = owner.the_codes R.Denot R.coded (mark.the_row RawPtr).coded in
    let inside = Incl-trans (meet_⊑_left (R.lives ++ []) _) (meet_⊑_left R.lives []) in
    of_Lends (owner.struct R) codes (owner.the_heap R) (owner.the_lent R)
    (λ d p. row_copies R L.shr_laws d.start d.held)
    (copy_shared (mark.the_field RawPtr) (field_copy (mark.the_type RawPtr) tt), tt)
    (λ M 𝓤 𝓛 d p. row_lends 𝓛 (owner.the_row R).lives R L inside d.start d.held)
