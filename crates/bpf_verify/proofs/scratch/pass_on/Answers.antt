use Rattle.std.proofs.Common.{◌≡◌, ℕ, ◌+◌, get_or, inl, inr, refl, ap, sym, ◌∙◌, subst, arith}
use Rattle.bpf_code.specs.declared.instr.Instr.{Instr}
use Rattle.bpf_code.specs.Flow.{LeadsTo}
use Rattle.bpf_verify.proofs.Onward.{falls_through}
use Rattle.bpf_verify.proofs.scratch.pass_on.Goals as goal
use Rattle.bpf_verify.proofs.scratch.pass_on.Goals.{In-Jump, In_default}

-- Equal instructions lead to the same places.
leads_from : (at : ℕ) (i j : Instr) (next : ℕ) → i ≡ j → LeadsTo at j next → LeadsTo at i next
leads_from at i j next is leads = subst (λ k. LeadsTo at k next) (sym is) leads

pub narrow-requires : goal.narrow-requires
narrow-requires c =
    c.requires.within _ (leads_from c.args.at c.args.instr _ (c.args.at + 1 + c.in-Jump.skipped) c.in-Jump.is refl)

pub returns-in-Jump-clause-successors : goal.returns-in-Jump-clause-successors
returns-in-Jump-clause-successors c next word leads =
    c.narrow.ensures.place next word (subst (λ i. LeadsTo c.args.at i next) c.in-Jump.is leads)

pub narrow-there-requires : goal.narrow-there-requires
narrow-there-requires c =
    rw c.from.ensures (c.requires.within _ (leads_from c.args.at c.args.instr _ (c.args.at + 1 + c.in-Branch.jt) c.in-Branch.is (inl refl)))

pub narrow-here-requires : goal.narrow-here-requires
narrow-here-requires c =
    let within = c.requires.within _ (leads_from c.args.at c.args.instr _ (c.args.at + 1 + c.in-Branch.jf) c.in-Branch.is (inr refl)) in
    omega (arith, within, c.narrow-there.auto.written, c.from-in-Branch.ensures)

-- The instruction leads to the next place only.
through : (c : In_default) → LeadsTo c.args.at c.args.instr (c.args.at + 1) × ((next : ℕ) → LeadsTo c.args.at c.args.instr next → next ≡ c.args.at + 1)
through c = falls_through c.args.at c.args.instr c.in_default.not-Jump c.in_default.not-Branch c.in_default.not-RetK c.in_default.not-RetA

pub narrow-requires-in_default : goal.narrow-requires-in_default
narrow-requires-in_default c =
    let here = through (goal.at.narrow-requires-in_default c).In_default in
    let within = c.requires.within (c.args.at + 1) here.0 in
    omega (arith, within)

pub returns-in_default : goal.returns-in_default
returns-in_default c =
    let here = through (goal.at.returns-in_default c).In_default in
    record {
      successors = λ next word leads. let e : next ≡ c.args.at + 1 = here.1 next leads in c.narrow-in_default.ensures.place next word (omega arith);
      after = let next : c.args.at + 1 + 0 ≡ c.args.at + 1 = omega arith in c.narrow-in_default.ensures.words ∙ ap (λ n. get_or c.narrow-in_default.new.written n 0) next;
      others = λ place led. c.narrow-in_default.ensures.others place (λ e. let f : place ≡ c.args.at + 1 = omega arith in led (subst (λ n. LeadsTo c.args.at c.args.instr n) (sym f) here.0));
    }
