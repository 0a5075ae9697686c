-- A code that isn't accepted is answered by its first fault.
use Rattle.std.proofs.Common.{rules, ◌≡◌, ◌++◌, subst, refl}
use Rattle.bpf_verify.specs.Faults.{FailsFirst}
use Rattle.cmd_programs.specs.CodeFaults.{verify_fault}
use Rattle.cmd_programs.proofs.program_reading.check_code.Goals as goal

pub returns-in_ok-add_verify_fault-in-Some-clause-found : goal.returns-in_ok-add_verify_fault-in-Some-clause-found
returns-in_ok-add_verify_fault-in-Some-clause-found c =
    let fails : FailsFirst c.args.code.items c.in-Some.fault =
    subst (λ code. FailsFirst code c.in-Some.fault) c.deref.ensures.value c.in-Some.ensures.some in
    let added : c.add_verify_fault.new.answers.items ≡ c.args.answers.now.items ++ verify_fault c.in-Some.fault = search rules in
    (verify_fault c.in-Some.fault, (c.in-Some.fault, fails, refl), added)
