-- An input has one trace.
use Rattle.std.proofs.Common.{◌≡◌, ℕ, List, [], ◌∷◌, ◌++◌, length, codes, decimal, ap, sym, refl, ◌∙◌, subst}
use Rattle.bpf_code.specs.declared.instr.Instr.{Instr}
use Rattle.bpf_interp.proofs.Public.{Step-unique}
use Rattle.bpf_interp.specs.State.{State, At, Ended}
use Rattle.bpf_interp.specs.Step.{Step}
use Rattle.cmd_list.specs.Trace.{GoesThrough, IsTraceText, PrintsTrace, step_lines}
use Rattle.cmd_list.specs.inner.TraceLaws.{prints-trace}
use Rattle.cmd_programs.proofs.Public.{IsOnce, cells-once, one-program_text, some-program_text}
use Rattle.cmd_programs.specs.CellLines.{cell_texts}
use Rattle.cmd_programs.specs.inner.CellLaws.{cells-total}
use Rattle.text_io.specs.declared.ending.Done.{Done}
use Rattle.text_words.specs.FaultLines.{line}

-- A state that has ended has no next state.
has_ended : (code : List Instr) (packet : List ℕ) (here next : State) (value : ℕ) → here ≡ Ended value → Step code packet here next → ⊥
has_ended code packet here next value e s = subst (λ (h : State). Step code packet h next) e s

-- From a state the machine goes through one list of states, to one value.
through-once : (code : List Instr) (packet : List ℕ) (here : State) (some other : List State) (v w : ℕ) → GoesThrough code packet here some v → GoesThrough code packet here other w → (some ≡ other) × (v ≡ w)
through-once code packet here [] [] v w p q =
    let same : Ended v ≡ Ended w = sym p ∙ q in
    let values : v ≡ w = cc in (refl, values)
through-once code packet here [] (t ∷ other) v w p q = absurd (has_ended code packet here t v p q.0)
through-once code packet here (s ∷ some) [] v w p q = absurd (has_ended code packet here s w q p.0)
through-once code packet here (s ∷ some) (t ∷ other) v w p q =
    let same : s ≡ t = Step-unique code packet here s t p.0 q.0 in
    let later = through-once code packet s some other v w p.1 (subst (λ (u : State). GoesThrough code packet u other w) (sym same) q.1) in
    (ap (λ (u : State). u ∷ some) same ∙ ap (λ (ls : List State). t ∷ ls) later.0, later.1)

-- The answer of a trace, by its states and its value.
abbrev trace_text : List Instr → List State → ℕ → List ℕ
trace_text code later value = step_lines code (At 0 0 0 []) later ++ line (codes "value " ++ decimal value ++ codes " steps " ++ decimal (length later))

trace-same : (code : List Instr) → IsOnce (PrintsTrace code)
trace-same code octets text text' p q =
    let same = through-once code octets (At 0 0 0 []) p.0 q.0 p.1 q.1 p.2 q.2 in
    p.3 ∙ ap (λ (later : List State). trace_text code later p.1) same.0 ∙ ap (λ (v : ℕ). trace_text code q.0 v) same.1 ∙ sym q.3

pub one-trace_text : (octets one other : List ℕ) (ends other_ends : Done) → IsTraceText octets one ends → IsTraceText octets other other_ends → (one ≡ other) × (ends ≡ other_ends)
one-trace_text = one-program_text (cell_texts PrintsTrace) (cells-once PrintsTrace trace-same)

pub some-trace_text : (octets : List ℕ) → (text : List ℕ) × (done : Done) × IsTraceText octets text done
some-trace_text = some-program_text (cell_texts PrintsTrace) (cells-total PrintsTrace prints-trace)
