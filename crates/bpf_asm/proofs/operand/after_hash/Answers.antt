use Rattle.bpf_asm.specs.Tokens.{mark}
use Rattle.bpf_asm.proofs.cuts.FirstWords.{in_cons}
use Rattle.bpf_asm.proofs.operand.after_hash.Goals as goal

pub returns : goal.returns
returns c = in_cons c.args.text.now c.in_ok-rest.rest.now (mark 35) c.in_ok-rest.ensures
