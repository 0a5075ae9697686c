-- The rows of the table are those of the definition.
use Rattle.std.proofs.Common.{rules, arith}
use Rattle.std.proofs.lemmas.Grind.{common_steps}
use Rattle.bpf_asm.specs.inner.Reading.{branch_named}
use Rattle.bpf_asm.proofs.mnemonic.test_named.Goals as goal

pub returns : goal.returns
unfolding branch_named
returns c = first_of (search rules, grind (arith, common_steps))
