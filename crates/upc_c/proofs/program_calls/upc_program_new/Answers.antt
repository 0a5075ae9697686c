use Rattle.std.proofs.Common.{sym, subst}
use Rattle.upc_c.specs.ProgramHandle.{IsNoProgram}
use Rattle.upc_c.proofs.program_calls.upc_program_new.Goals as goal

pub returns-in-Err-clause-refused : goal.returns-in-Err-clause-refused
returns-in-Err-clause-refused c = λ _ _.
    subst (IsNoProgram c.args.octets.now) (sym c.report-in-Err.ensures.written) c.in-Err.ensures.fault
