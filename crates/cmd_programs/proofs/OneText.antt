-- An input has one text of `eval`.
use Rattle.std.proofs.Common.{◌≡◌, ℕ, List, ◌++◌, codes, decimal, ap, sym, ◌∙◌}
use Rattle.bpf_code.specs.declared.instr.Instr.{Instr}
use Rattle.bpf_interp.proofs.Public.{Value-unique}
use Rattle.cmd_programs.specs.CellLines.{cell_texts}
use Rattle.cmd_programs.specs.Eval.{IsEvalText, PrintsValue}
use Rattle.cmd_programs.specs.inner.CellLaws.{cells-total, prints-value}
use Rattle.cmd_programs.proofs.OneProgramText.{IsOnce, cells-once, one-program_text, some-program_text}
use Rattle.text_words.specs.FaultLines.{line}
use Rattle.text_io.specs.declared.ending.Done.{Done}

value-same : (code : List Instr) → IsOnce (PrintsValue code)
value-same code octets text text' p q =
    let same = Value-unique code octets p.0 q.0 p.1 q.1 p.2 q.2 in
    p.3 ∙ ap (λ v. line (codes "value " ++ decimal v ++ codes " steps " ++ decimal p.1)) same.0
    ∙ ap (λ n. line (codes "value " ++ decimal q.0 ++ codes " steps " ++ decimal n)) same.1 ∙ sym q.3

pub one-eval_text : (octets one other : List ℕ) (ends other_ends : Done) → IsEvalText octets one ends → IsEvalText octets other other_ends → (one ≡ other) × (ends ≡ other_ends)
one-eval_text = one-program_text (cell_texts PrintsValue) (cells-once PrintsValue value-same)

-- Every input has a text of `eval`.
pub some-eval_text : (octets : List ℕ) → (text : List ℕ) × (done : Done) × IsEvalText octets text done
some-eval_text = some-program_text (cell_texts PrintsValue) (cells-total PrintsValue prints-value)
