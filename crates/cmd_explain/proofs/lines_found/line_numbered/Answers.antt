-- The first line after so many is the line of this number.
use Rattle.std.proofs.Common.{◌≡◌, ℕ, ◌+◌, ◌-◌, List, [], get_or, ap, ◌∙◌, arith}
use Rattle.std.proofs.lemmas.List.{get_or-drop}
use Rattle.bpf_asm.specs.SourceLines.{source_lines}
use Rattle.cmd_explain.proofs.lines_found.line_numbered.Goals as goal

pub returns : goal.returns
returns c =
    let lines = source_lines c.args.source.now in
    let passed = c.saturating_sub.result in
    let at : passed + 0 ≡ c.args.number - 1 = omega (arith, c.saturating_sub.ensures) in
    c.first_line.ensures ∙ ap (λ (rest : List (List ℕ)). get_or rest 0 []) c.lines_after.ensures ∙ get_or-drop passed lines 0 [] ∙ ap (λ (k : ℕ). get_or lines k []) at
