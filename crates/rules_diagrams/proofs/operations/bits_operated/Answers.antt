use Rattle.std.proofs.Common.{List, subst}
use Rattle.bpf_code.specs.declared.instr.Instr.TheVariants.{Alu}
use Rattle.rules_diagrams.specs.declared.contents.Register.TheVariants.{A}
use Rattle.rules_diagrams.specs.declared.word.Bit.{Bit}
use Rattle.rules_diagrams.specs.inner.Words.{AreResult}
use Rattle.rules_diagrams.proofs.Results.{if_some}
use Rattle.rules_diagrams.proofs.FollowSteps.{bits_make}
use Rattle.rules_diagrams.proofs.operations.bits_operated.Goals as goal

pub returns : goal.returns
returns c = c.from_bits.ensures A (Alu c.args.op c.args.by) c.args.contents.now (
    bits_make c.args.op c.args.by c.args.contents.now c.in_ok-other.other.items c.in-Some.bits.items c.requires c.in_ok-other.ensures
    (subst (λ (other : List Bit). AreResult c.args.op c.args.contents.now.a other c.in-Some.bits.items) c.deref.ensures.value
    (if_some c.in_ok-bitwise.field-0 c.in-Some.bits (λ bits. AreResult c.args.op c.args.contents.now.a c.deref.result.now bits.items) c.in-Some.is c.in_ok-bitwise.ensures)))
