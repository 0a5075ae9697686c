use Rattle.bpf_asm.proofs.listings.Leaving.{jump_leaves, branch_leaves_first, branch_leaves_second}
use Rattle.bpf_asm.proofs.lister.leaves.Goals as goal

pub returns-in-Jump : goal.returns-in-Jump
returns-in-Jump c = λ place. jump_leaves c.args.following c.in-Jump.k place c.args.instr c.in-Jump.is

pub returns-then-jt-following : goal.returns-then-jt-following
returns-then-jt-following c = λ place. branch_leaves_first c.args.following c.in-Branch.jt _ place _ _ c.args.instr c.in-Branch.is c.if-jt-following.true

pub returns-else-jt-following : goal.returns-else-jt-following
returns-else-jt-following c = λ place. branch_leaves_second c.args.following c.in-Branch.jt c.in-Branch.jf place _ _ c.args.instr c.in-Branch.is c.if-jt-following.false
