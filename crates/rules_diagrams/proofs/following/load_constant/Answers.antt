use Rattle.std.proofs.Common.{◌+◌, sym, subst}
use Rattle.bpf_interp.specs.Step.{Does}
use Rattle.rules_diagrams.specs.CellNumbers.{octets_number}
use Rattle.rules_diagrams.specs.inner.Registers.{at_with}
use Rattle.rules_diagrams.proofs.following.load_constant.Goals as goal

pub returns : goal.returns
returns c = c.from_bits.ensures c.args.register c.args.instr.now c.args.contents.now (λ place cell there a x m are.
    subst (λ n. Does cell c.args.instr.now place a x m (at_with c.args.register (place + 1) n a x m)) (sym (c.in_ok-bits.ensures (octets_number cell))) (c.requires cell place a x m))
