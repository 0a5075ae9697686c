use Rattle.std.proofs.Common.{ℕ, ◌+◌, ◌≤◌, Bool, true, false, IsTrue, IfSome, inl, inr, max, refl, arith}
use Rattle.std.specs.Bool.{then_some}
use Rattle.std.proofs.lemmas.Bool.{cases_lt}
use Rattle.bpf_code.specs.declared.instr.By.{By}
use Rattle.bpf_code.specs.declared.instr.Instr.TheVariants.{Branch, Jump}
use Rattle.bpf_code.specs.declared.instr.Test.{Test}
use Rattle.bpf_verify.specs.declared.fault.Fault.TheVariants.{JumpOutside}
use Rattle.bpf_verify.specs.Faults.{IsOwnFault}
use Rattle.bpf_verify.proofs.soundness.fault_of.Goals as goal

-- The target of a jump is outside the code.
jump_outside : (size place skipped : ℕ) (b : Bool) → (IsTrue b → size ≤ place + 1 + skipped)
    → IfSome (then_some b (JumpOutside place)) (IsOwnFault size place (Jump skipped))
jump_outside size place skipped false past = tt
jump_outside size place skipped true past = (refl, (place + 1 + skipped, refl, past refl))

-- The further target of a branch is outside the code.
further_outside : (size place jt jf : ℕ) (test : Test) (by : By) (b : Bool) → (IsTrue b → size ≤ place + 1 + max jt jf)
    → IfSome (then_some b (JumpOutside place)) (IsOwnFault size place (Branch test by jt jf))
further_outside size place jt jf test by false past = tt
further_outside size place jt jf test by true past =
    (refl, elim (cases_lt jt jf) [ inl lt ↦ (place + 1 + jf, inr refl, omega (arith, past refl)) | inr le ↦ (place + 1 + jt, inl refl, omega (arith, past refl)) ])

pub returns-in-Jump-clause-some : goal.returns-in-Jump-clause-some
returns-in-Jump-clause-some c =
    rw (c.then_some-in-Jump.ensures, c.in-Jump.is) (jump_outside c.args.size c.args.at c.in-Jump.skipped c.is_outside.result c.is_outside.ensures.0)

pub returns-in-Branch-clause-some : goal.returns-in-Branch-clause-some
returns-in-Branch-clause-some c =
    rw (c.then_some-in-Branch.ensures, c.in-Branch.is) (further_outside c.args.size c.args.at c.in-Branch.jt c.in-Branch.jf c.in-Branch.test c.in-Branch.by c.is_outside-in-Branch.result (λ holds. omega (arith, c.is_outside-in-Branch.ensures.0 holds)))
