use Rattle.bpf_code.specs.declared.instr.Instr.TheVariants.{Alu}
use Rattle.rules_diagrams.specs.declared.contents.Register.TheVariants.{A}
use Rattle.rules_diagrams.proofs.FollowSteps.{far_makes_left, far_makes_right}
use Rattle.rules_diagrams.proofs.operations.shifted_out.Goals as goal

pub returns-in_ok-constant-in-Lsh : goal.returns-in_ok-constant-in-Lsh
returns-in_ok-constant-in-Lsh c = c.from_bits.ensures A (Alu c.args.op c.args.by) c.args.contents.now
    (far_makes_left c.args.op c.args.by c.args.k c.args.contents.now _ c.in-Lsh.is c.in-X.is c.requires.operand c.requires.far c.in_ok-constant-in-Lsh.ensures)

pub returns-in_ok-constant-in-Rsh : goal.returns-in_ok-constant-in-Rsh
returns-in_ok-constant-in-Rsh c = c.from_bits-in-Rsh.ensures A (Alu c.args.op c.args.by) c.args.contents.now
    (far_makes_right c.args.op c.args.by c.args.k c.args.contents.now _ c.in-Rsh.is c.in-X.is c.requires.operand c.requires.far c.in_ok-constant-in-Rsh.ensures)
