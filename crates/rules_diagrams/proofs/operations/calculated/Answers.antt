use Rattle.bpf_code.specs.declared.instr.Instr.TheVariants.{Alu}
use Rattle.rules_diagrams.specs.declared.contents.Register.TheVariants.{A}
use Rattle.rules_diagrams.proofs.FollowSteps.{number_makes}
use Rattle.rules_diagrams.proofs.operations.calculated.Goals as goal

pub returns-in-None : goal.returns-in-None
returns-in-None c = c.divided_by_none.ensures c.args.contents.now c.in-Some-operand_constant.ensures

pub returns-in_ok-constant-in-Some-computed : goal.returns-in_ok-constant-in-Some-computed
returns-in_ok-constant-in-Some-computed c = c.from_bits.ensures A (Alu c.args.op c.args.by) c.args.contents.now (
    number_makes c.args.op c.args.by c.args.contents.now c.in-Some.a c.in-Some-operand_constant.k c.in-Some-computed.number c.in_ok-constant-in-Some-computed.field-0.items
    c.in-Some.ensures c.in-Some-operand_constant.ensures c.in-Some-computed.ensures c.in_ok-constant-in-Some-computed.ensures)
