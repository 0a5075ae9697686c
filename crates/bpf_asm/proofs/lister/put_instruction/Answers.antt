use Rattle.std.proofs.Common.{◌^◌, codes, arith}
use Rattle.bpf_asm.proofs.listings.Leaving.{jump_within, branch_within}
use Rattle.bpf_asm.proofs.listings.Rows.{long_text, LdxLen_text, LdxMsh_text}
use Rattle.bpf_asm.proofs.lister.put_instruction.Goals as goal

pub overflow_add-place : goal.overflow_add-place
overflow_add-place c = let h = jump_within (2 ^ 64) c.args.place c.in-Jump.k c.args.instr c.requires c.in-Jump.is in omega arith

pub overflow_add-place-in-Jump : goal.overflow_add-place-in-Jump
overflow_add-place-in-Jump c = let h = jump_within (2 ^ 64) c.args.place c.in-Jump.k c.args.instr c.requires c.in-Jump.is in omega arith

pub put_branch-requires-clause-met : goal.put_branch-requires-clause-met
put_branch-requires-clause-met c = let h = branch_within (2 ^ 64) c.args.place _ _ _ _ c.args.instr c.requires c.in-Branch.is in h.0

pub put_branch-requires-clause-unmet : goal.put_branch-requires-clause-unmet
put_branch-requires-clause-unmet c = let h = branch_within (2 ^ 64) c.args.place _ _ _ _ c.args.instr c.requires c.in-Branch.is in h.1

pub returns-in-LdxLen-clause-written : goal.returns-in-LdxLen-clause-written
returns-in-LdxLen-clause-written c = rw (c.in-LdxLen.is, LdxLen_text) (long_text c.extend_from_slice-in-LdxLen.result c.args.text.now.items c.extend_from_slice-in-LdxLen.new.self.items (codes "ldx #len") c.extend_from_slice-in-LdxLen.ensures.items)

pub returns-in-LdxMsh-clause-written : goal.returns-in-LdxMsh-clause-written
returns-in-LdxMsh-clause-written c = rw (c.in-LdxMsh.is, LdxMsh_text) c.put_number-in-LdxMsh.ensures.written
