-- The places that an instruction leads to.
use Rattle.std.proofs.Common.{◌≡◌, inl, inr, ℕ, ◌+◌, List, get_or, max, refl, sym, ap, ◌∙◌, subst, arith}
use Rattle.std.proofs.lemmas.Bool.{cases_lt}
use Rattle.bpf_code.specs.Flow.{LeadsTo}
use Rattle.bpf_code.specs.declared.instr.By.{By}
use Rattle.bpf_code.specs.declared.instr.Instr.{Instr}
use Rattle.bpf_code.specs.declared.instr.Instr.TheVariants.{Branch}
use Rattle.bpf_code.specs.declared.instr.Test.{Test}
use Rattle.bpf_verify.proofs.Onward.{falls_through}
use Rattle.cmd_list.proofs.LongestFound.{IsReached}
use Rattle.cmd_list.proofs.longest.longest_onward.Goals as goal
use Rattle.cmd_list.proofs.longest.longest_onward.Goals.{In_default}

-- Equal instructions lead to the same places.
leads_from : (at : ℕ) (i j : Instr) (next : ℕ) → i ≡ j → LeadsTo at j next → LeadsTo at i next
leads_from at i j next is leads = subst (λ k. LeadsTo at k next) (sym is) leads

-- The longer side of a branch.
longer_side : (longest : List ℕ) (place : ℕ) (test : Test) (by : By) (jt jf met unmet : ℕ) → met ≡ get_or longest (place + 1 + jt) 0 → unmet ≡ get_or longest (place + 1 + jf) 0
    → IsReached longest place (Branch test by jt jf) (max met unmet)
longer_side longest place test by jt jf met unmet first second =
    elim (cases_lt met unmet) [
      | inl lt ↦ let is : max met unmet ≡ unmet = omega (arith, lt) in inr (place + 1 + jf, inr refl, is ∙ second)
      | inr le ↦ let is : max met unmet ≡ met = omega (arith, le) in inr (place + 1 + jt, inl refl, is ∙ first)
    ]

pub longest_after-requires : goal.longest_after-requires
longest_after-requires c =
    c.requires _ (leads_from c.args.place c.args.instr _ (c.args.place + 1 + c.in-Jump.skipped) c.in-Jump.is refl)

pub longest_after-met-requires : goal.longest_after-met-requires
longest_after-met-requires c =
    rw c.from.ensures (c.requires _ (leads_from c.args.place c.args.instr _ (c.args.place + 1 + c.in-Branch.jt) c.in-Branch.is (inl refl)))

pub longest_after-unmet-requires : goal.longest_after-unmet-requires
longest_after-unmet-requires c =
    rw c.from-in-Branch.ensures (c.requires _ (leads_from c.args.place c.args.instr _ (c.args.place + 1 + c.in-Branch.jf) c.in-Branch.is (inr refl)))

-- The instruction leads to the next place only.
through : (c : In_default) → LeadsTo c.args.place c.args.instr (c.args.place + 1) × ((next : ℕ) → LeadsTo c.args.place c.args.instr next → next ≡ c.args.place + 1)
through c = falls_through c.args.place c.args.instr c.in_default.not-Jump c.in_default.not-Branch c.in_default.not-RetK c.in_default.not-RetA

pub longest_after-requires-in_default : goal.longest_after-requires-in_default
longest_after-requires-in_default c =
    let here = through (goal.at.longest_after-requires-in_default c).In_default in
    let within = c.requires (c.args.place + 1) here.0 in
    omega (arith, within)

pub returns-in-Branch-clause-reached : goal.returns-in-Branch-clause-reached
returns-in-Branch-clause-reached c =
    let longest = c.args.longest.now in
    let place = c.args.place in
    let first = c.longest_after-met.ensures ∙ ap (λ (n : ℕ). get_or longest (place + 1 + n) 0) c.from.ensures in
    let second = c.longest_after-unmet.ensures ∙ ap (λ (n : ℕ). get_or longest (place + 1 + n) 0) c.from-in-Branch.ensures in
    let longer = longer_side longest place c.in-Branch.test c.in-Branch.by c.in-Branch.jt c.in-Branch.jf c.longest_after-met.result c.longest_after-unmet.result first second in
    let P : Instr → Type 0 = λ i. IsReached longest place i c.max.result in
    subst P (sym c.in-Branch.is) (subst (λ (n : ℕ). IsReached longest place (Branch c.in-Branch.test c.in-Branch.by c.in-Branch.jt c.in-Branch.jf) n) (sym c.max.ensures) longer)
