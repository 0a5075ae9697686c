use Rattle.std.proofs.Common.{◌+◌, sym, ap, ◌∙◌}
use Rattle.bpf_code.specs.declared.instr.Instr.TheVariants.{Neg}
use Rattle.bpf_interp.specs.Arithmetic.{negated}
use Rattle.bpf_interp.specs.State.{At}
use Rattle.rules_diagrams.specs.CellNumbers.{octets_number}
use Rattle.rules_diagrams.specs.declared.contents.Register.TheVariants.{A}
use Rattle.rules_diagrams.proofs.following.negated.Goals as goal

pub returns-in_ok-bits-in-Some : goal.returns-in_ok-bits-in-Some
returns-in_ok-bits-in-Some c = c.from_bits.ensures A Neg c.args.contents.now (λ place cell there a x m are.
    ap (λ n. At (place + 1) n x m) (c.in_ok-bits-in-Some.ensures (octets_number cell) ∙ (c.negative.ensures ∙ ap negated (sym (c.in-Some.ensures (octets_number cell)) ∙ are.a_is))))
