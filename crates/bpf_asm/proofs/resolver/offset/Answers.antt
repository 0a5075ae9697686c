use Rattle.std.proofs.Common.{sym, ◌∙◌}
use Rattle.bpf_asm.proofs.resolver.offset.Goals as goal

pub returns-in-None-clause-fault : goal.returns-in-None-clause-fault
returns-in-None-clause-fault c = λ lines count agree. agree.unknown c.args.label.now (sym c.find.ensures ∙ c.in-None.is)
