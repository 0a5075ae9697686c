-- The registers, and then the scratch word.
use Rattle.std.proofs.Common.{◌++◌, ℕ, List, ap, ◌∙◌, append_assoc}
use Rattle.std.proofs.lemmas.Result.{on_ok_weaker}
use Rattle.bpf_interp.specs.Registers.{memory_after}
use Rattle.cmd_list.specs.Trace.{registers_text, written_text}
use Rattle.cmd_list.proofs.step_lines.add_result.Goals as goal

pub returns-in_ok-add_registers-in-Continue : goal.returns-in_ok-add_registers-in-Continue
returns-in_ok-add_registers-in-Continue c = λ m.
    let before = c.args.answers.now.items in
    let registers = registers_text c.in-Continue.after.a c.in-Continue.after.x in
    let written = written_text c.args.instr.now (memory_after c.args.instr.now c.args.before.now.a c.args.before.now.x m) in
    rw c.in-Continue.is (on_ok_weaker c.add_written.result
    (λ added. added ∙ ap (λ (l : List ℕ). l ++ written) c.in_ok-add_registers-in-Continue.ensures ∙ append_assoc before registers written)
    (c.add_written.ensures m))
