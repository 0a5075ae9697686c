use Rattle.std.proofs.Common.{◌+◌, ◌<◌, length, get_or, get_or-set_same, arith}
use Rattle.std.proofs.lemmas.Nat.Bits.{bit_at_and}
use Rattle.bpf_verify.proofs.scratch.narrow.Goals as goal

pub returns-clause-place : goal.returns-clause-place
returns-clause-place c place word is =
    let within : c.args.at + 1 + c.args.skipped < length c.args.written.now = omega arith in
    rw (is, get_or-set_same) (bit_at_and (get_or c.args.written.now (c.args.at + 1 + c.args.skipped) 0) c.args.mask word)
