use Rattle.bpf_code.proofs.Rows.{row_spells}
use Rattle.bpf_code.proofs.decoder.decode_one.Goals as goal

pub returns-clause-spelled : goal.returns-clause-spelled
returns-clause-spelled c = λ i.
    rw c.ok_or.ensures.value (row_spells c.args.octets.now c.instruction.result c.read_u16.result c.instruction.ensures.spelled c.instruction.ensures.no_row i)
