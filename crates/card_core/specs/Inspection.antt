-- Reads of a core without a step: the line of a connection, and the reason why no program can be loaded, or this one
-- can't be retired, now.
use Rattle.std.specs.Prelude.{◌≡◌, ◌≢◌, ◌==◌, Bool, true, false, not, if◌then◌else◌, List, Option, Some, None, slice_get}
use Rattle.std.specs.List.{list_all}
use Rattle.upc_cell.specs.declared.vc.Vc.{Vc}
use Rattle.bpf_code.specs.declared.instr.Instr.{Instr}
use Rattle.gen_arena.specs.declared.id.Id.{Id}
use Rattle.gen_arena.specs.Free.{free_slots}
use Rattle.gen_arena.specs.Insert.{Inserts}
use Rattle.gen_arena.specs.Live.{live_value, IsLive}
use Rattle.gen_arena.specs.Remove.{Removes}
use Rattle.line_record.specs.declared.directory.Seating.{Seating}
use Rattle.line_record.specs.Directory.{seating_at, IsNamed}
use Rattle.line_record.specs.Line.{LineView}
use Rattle.card_core.specs.declared.fault.DeskFault.{DeskFault}
use Rattle.card_core.specs.declared.fault.DeskFault.TheVariants.{NoProgram, InUse, ProgramsFull, Busy}
use Rattle.card_core.specs.World.{is_outside}
use Rattle.card_core.specs.Agreement.{CoreView}

-- The line of this seating, if there is a seating and such a line.
abbrev pub line_of_seating : List LineView → Option Seating → Option LineView
line_of_seating lines None = None
line_of_seating lines (Some seating) = slice_get lines seating.line

-- The line that serves a connection: the one that the directory has for it.
abbrev pub line_at : CoreView → Vc → Option LineView
line_at core vc = line_of_seating core.lines (seating_at core.directory vc)

-- Whether some port has a cell.
abbrev pub has_cell : CoreView → Bool
has_cell core = not (list_all is_outside core.ports)

-- The reason why no program can be loaded now: some port has a cell; or else no slot is free.
abbrev pub load_fault_of : CoreView → Option DeskFault
load_fault_of core =
    if has_cell core then Some Busy
    else if free_slots core.store == 0 then Some ProgramsFull
    else None

-- The reason why the program of this id can't be retired now, or none: some port has a cell; else the id isn't live;
-- else some connection names it.
abbrev pub IsRetireFault : CoreView → Id → Option DeskFault → Type 0
IsRetireFault core id None = (has_cell core ≡ false) × IsLive core.store id × (¬ IsNamed core.directory id)
IsRetireFault core id (Some Busy) = has_cell core ≡ true
IsRetireFault core id (Some NoProgram) = (has_cell core ≡ false) × (live_value core.store id ≡ None)
IsRetireFault core id (Some InUse) = (has_cell core ≡ false) × IsLive core.store id × IsNamed core.directory id
IsRetireFault core id (Some _) = ⊥

-- The code was loaded under the id, which wasn't live before. Every other id has the same code as before, and all but
-- the slots is unchanged.
pub record PutsIn (old : CoreView) (id : Id) (code : List Instr) (new : CoreView) : Type 0 where
  pub inserts : Inserts old.store new.store id code
  pub was : live_value old.store id ≡ None
  pub live : live_value new.store id ≡ Some code
  pub others : (other : Id) → other ≢ id → live_value new.store other ≡ live_value old.store other
  pub rest : new ≡ record old { store = new.store }

-- The code of the id was removed, and the id isn't live. Every other id has the same code as before, and all but the
-- slots is unchanged.
pub record TakesOut (old : CoreView) (id : Id) (code : List Instr) (new : CoreView) : Type 0 where
  pub removes : Removes old.store new.store id code
  pub was : live_value old.store id ≡ Some code
  pub gone : live_value new.store id ≡ None
  pub others : (other : Id) → other ≢ id → live_value new.store other ≡ live_value old.store other
  pub rest : new ≡ record old { store = new.store }
