-- Acts for one virtual connection: the acts of the desk, and the steps of the cells that arrive on it.
use Rattle.std.specs.Prelude.{ℕ, List, Option}
use Rattle.bpf_code.specs.declared.instr.Instr.{Instr}
use Rattle.leaky.specs.declared.contract.Contract.{Contract}

-- The connection is set up under these contracts with a program of this code, gets a program of this code, is released,
-- or is cut; or a cell of it enters this port at this moment, or the port's cell is looked up, or judged.
pub data Act : Type 0 where
  sets_up : List Contract → Option (List Instr) → Act
  reloads : Option (List Instr) → Act
  releases : Act
  cuts : Act
  enters : ℕ → List ℕ → ℕ → Act
  looks_up : ℕ → Act
  judges : ℕ → Act
