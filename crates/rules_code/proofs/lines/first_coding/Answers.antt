use Rattle.std.proofs.Common.{List, ◌∷◌, ◌∙◌, ap}
use Rattle.bpf_code.specs.declared.instr.Instr.{Instr}
use Rattle.bpf_code.specs.declared.instr.Instr.TheVariants.{RetK}
use Rattle.rules_code.proofs.Coding.{coded_first}
use Rattle.rules_code.proofs.lines.first_coding.Goals as goal

pub returns : goal.returns
returns c =
    coded_first _ _ c.args.otherwise (c.in_ok-put.ensures ∙ ap (λ (code : List Instr). RetK c.args.otherwise ∷ code) c.new-draft.ensures) c.new.ensures.items
