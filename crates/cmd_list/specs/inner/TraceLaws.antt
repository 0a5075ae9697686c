-- An accepted code has a trace on every cell. These laws are in `specs/` because the implementation of `trace` cites them.
use Rattle.std.proofs.Common.{ℕ, zero, suc, List, [], ◌∷◌, refl}
use Rattle.bpf_code.specs.declared.instr.Instr.{Instr}
use Rattle.bpf_interp.proofs.Public.{Value-some}
use Rattle.bpf_interp.specs.State.{State, At}
use Rattle.bpf_interp.specs.Value.{EndsIn}
use Rattle.bpf_verify.specs.Accepted.{IsAccepted}
use Rattle.cmd_list.specs.Trace.{GoesThrough, PrintsTrace}
use Rattle.cmd_programs.specs.CellLines.{EachCellHasText}

-- The states of an end after this many steps.
pub states-through : (code : List Instr) (packet : List ℕ) (here : State) (value steps : ℕ) → EndsIn code packet here value steps → (later : List State) × GoesThrough code packet here later value
states-through code packet here value zero ends = ([], ends)
states-through code packet here value (suc steps) ends =
    let rest = states-through code packet ends.0 value steps ends.2 in
    (ends.0 ∷ rest.0, (ends.1, rest.1))

pub prints-trace : (code : List Instr) → IsAccepted code → EachCellHasText (PrintsTrace code)
prints-trace code accepted octets =
    let value = Value-some code octets accepted in
    let states = states-through code octets (At 0 0 0 []) value.0 value.1 value.2 in
    (_, (states.0, value.0, states.1, refl))
