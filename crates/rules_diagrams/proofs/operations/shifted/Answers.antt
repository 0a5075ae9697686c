use Rattle.std.proofs.Common.{sym, subst, arith}
use Rattle.bpf_code.specs.declared.instr.Instr.TheVariants.{Alu}
use Rattle.bpf_code.specs.declared.instr.Op.{Op}
use Rattle.rules_diagrams.specs.declared.contents.Register.TheVariants.{A}
use Rattle.rules_diagrams.specs.inner.Following.{PutsInto}
use Rattle.rules_diagrams.proofs.FollowSteps.{left_makes, right_makes}
use Rattle.rules_diagrams.proofs.operations.shifted.Goals as goal

pub returns-in_ok-shifted_left-in-Lsh : goal.returns-in_ok-shifted_left-in-Lsh
returns-in_ok-shifted_left-in-Lsh c = c.from_bits.ensures A (Alu c.args.op c.args.by) c.args.contents.now (
    subst (λ (op : Op). PutsInto A (Alu op c.args.by) c.args.contents.now c.in_ok-shifted_left-in-Lsh.field-0.items) (sym c.in-Lsh.is)
    (left_makes c.args.by c.in-Some.k c.args.contents.now c.in_ok-shifted_left-in-Lsh.field-0.items c.in-Some.ensures (omega arith) c.in_ok-shifted_left-in-Lsh.ensures))

pub returns-in_ok-shifted_right-in-Rsh : goal.returns-in_ok-shifted_right-in-Rsh
returns-in_ok-shifted_right-in-Rsh c = c.from_bits-in-Rsh.ensures A (Alu c.args.op c.args.by) c.args.contents.now (
    subst (λ (op : Op). PutsInto A (Alu op c.args.by) c.args.contents.now c.in_ok-shifted_right-in-Rsh.field-0.items) (sym c.in-Rsh.is)
    (right_makes c.args.by c.in-Some.k c.args.contents.now c.in_ok-shifted_right-in-Rsh.field-0.items c.in-Some.ensures (omega arith) c.in_ok-shifted_right-in-Rsh.ensures))
