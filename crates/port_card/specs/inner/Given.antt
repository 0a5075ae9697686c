-- The value of a judged cell, given the programs that were read.
use Rattle.std.specs.Prelude.{◌≡◌, ℕ, List, Some}
use Rattle.bpf_code.specs.declared.instr.Instr.{Instr}
use Rattle.bpf_verify.specs.Accepted.{IsAccepted}
use Rattle.gen_arena.specs.declared.id.Id.{Id}
use Rattle.gen_arena.specs.Live.{live_value}
use Rattle.gen_arena.specs.Slot.{Slot}
use Rattle.card_core.specs.Steps.{Gives}

-- The program with this id is accepted, and has this value for the cell.
pub record IsGivenBy (store : List (Slot (List Instr))) (program : Id) (cell : List ℕ) (value : ℕ) : Type 0 where
  pub code : List Instr
  pub live : live_value store program ≡ Some code
  pub accepted : IsAccepted code
  pub gives : Gives code cell value
