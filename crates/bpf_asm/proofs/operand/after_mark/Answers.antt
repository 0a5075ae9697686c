use Rattle.bpf_asm.proofs.cuts.FirstWords.{mark_cut}
use Rattle.bpf_asm.proofs.operand.after_mark.Goals as goal

pub returns : goal.returns
returns c = mark_cut c.args.octet c.args.text.now c.in_ok-rest.rest.now c.requires.other c.in_ok-rest.ensures
