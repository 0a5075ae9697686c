-- A change of a list of seatings, and the programs that are named in it.
use Rattle.std.specs.Prelude.{◌≡◌, ◌≢◌, Option, Some, List}
use Rattle.gen_arena.specs.declared.id.Id.{Id}
use Rattle.upc_cell.specs.declared.vc.Vc.{Vc}
use Rattle.line_record.specs.Seatings.{seating_in}
use Rattle.line_record.specs.declared.directory.Seating.{Seating}

-- The new list has this seating for the connection, or none, and the same as before for all others.
pub record ChangesAt (old new : List (Vc × Seating)) (vc : Vc) (seating : Option Seating) : Type 0 where
  pub here : seating_in new vc ≡ seating
  pub others : (other : Vc) → other ≢ vc → seating_in new other ≡ seating_in old other

-- The seating of some connection names the program.
pub record HasNamed (seatings : List (Vc × Seating)) (program : Id) : Type 0 where
  pub vc : Vc
  pub seating : Seating
  pub sits : seating_in seatings vc ≡ Some seating
  pub names : seating.program ≡ program
