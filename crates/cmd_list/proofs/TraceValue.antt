-- The states of a trace end with the value of the code.
use Rattle.std.proofs.Common.{◌≡◌, ℕ, List, [], ◌∷◌, ◌++◌, length, codes, decimal, refl}
use Rattle.bpf_code.specs.declared.instr.Instr.{Instr}
use Rattle.bpf_interp.specs.State.{State, At}
use Rattle.bpf_interp.specs.Value.{EndsIn}
use Rattle.cmd_list.specs.Trace.{GoesThrough, PrintsTrace, step_lines}
use Rattle.cmd_programs.specs.Eval.{PrintsValue}
use Rattle.text_words.specs.FaultLines.{line}

-- As many steps as later states lead to the value.
through-ends : (code : List Instr) (packet : List ℕ) (here : State) (later : List State) (value : ℕ) → GoesThrough code packet here later value → EndsIn code packet here value (length later)
through-ends code packet here [] value goes = goes
through-ends code packet here (next ∷ later) value goes = (next, goes.0, through-ends code packet next later value goes.1)

pub ends_as_eval : (code : List Instr) (octets text : List ℕ) → PrintsTrace code octets text → (lines answer : List ℕ) × (text ≡ lines ++ answer) × PrintsValue code octets answer
ends_as_eval code octets text printed = (
  step_lines code (At 0 0 0 []) printed.0,
  line (codes "value " ++ decimal printed.1 ++ codes " steps " ++ decimal (length printed.0)),
  printed.3,
  (printed.1, length printed.0, through-ends code octets (At 0 0 0 []) printed.0 printed.1 printed.2, refl),
)
