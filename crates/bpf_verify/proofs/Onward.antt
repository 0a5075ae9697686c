-- Instructions lead forward.
use Rattle.std.proofs.Common.{◌≡◌, ℕ, ◌+◌, ◌<◌, ◌⊎◌, inl, inr, List, refl, arith}
use Rattle.std.proofs.lemmas.Bool.{cases_order}
use Rattle.bpf_code.specs.declared.instr.By.{By}
use Rattle.bpf_code.specs.declared.instr.Instr.{Instr}
use Rattle.bpf_code.specs.declared.instr.Instr.TheVariants.{Branch, Jump, RetA, RetK}
use Rattle.bpf_code.specs.declared.instr.Test.{Test}
use Rattle.bpf_code.specs.Flow.{IsSuccessor, LeadsTo}

-- An instruction that neither jumps nor returns leads to the next place only.
pub falls_through : (place : ℕ) (i : Instr)
    → ((k : ℕ) → i ≡ Jump k → ⊥)
    → ((test : Test) (by : By) (jt jf : ℕ) → i ≡ Branch test by jt jf → ⊥)
    → ((k : ℕ) → i ≡ RetK k → ⊥)
    → (i ≡ RetA → ⊥)
    → LeadsTo place i (place + 1) × ((next : ℕ) → LeadsTo place i next → next ≡ place + 1)
falls_through place (Jump k) no_jump no_branch no_number no_return = absurd (no_jump k refl)
falls_through place (Branch test by jt jf) no_jump no_branch no_number no_return = absurd (no_branch test by jt jf refl)
falls_through place (RetK k) no_jump no_branch no_number no_return = absurd (no_number k refl)
falls_through place RetA no_jump no_branch no_number no_return = absurd (no_return refl)
falls_through place _ no_jump no_branch no_number no_return = (refl, λ next leads. leads)

leads_forward : (place : ℕ) (i : Instr) (next : ℕ) → LeadsTo place i next → place < next
leads_forward place (Jump k) next leads = omega (arith, leads)
leads_forward place (Branch test by jt jf) next leads = elim leads [ inl e ↦ omega (arith, e) | inr e ↦ omega (arith, e) ]
leads_forward place (RetK k) next leads = absurd leads
leads_forward place RetA next leads = absurd leads
leads_forward place _ next leads = omega (arith, leads)

pub successor_forward : (code : List Instr) (place next : ℕ) → IsSuccessor code place next → place < next
successor_forward code place next s = leads_forward place s.0 next s.2

pub decide_same : (a b : ℕ) → (a ≡ b) ⊎ (a ≡ b → ⊥)
decide_same a b =
    elim (cases_order a b) [
      | inl e ↦ inl e
      | inr apart ↦ inr (λ e. elim apart [ inl lt ↦ omega (arith, e, lt) | inr gt ↦ omega (arith, e, gt) ])
    ]

pub decide_leads : (place : ℕ) (i : Instr) (next : ℕ) → LeadsTo place i next ⊎ (LeadsTo place i next → ⊥)
decide_leads place (RetK k) next = inr (λ leads. leads)
decide_leads place RetA next = inr (λ leads. leads)
decide_leads place (Jump k) next = decide_same next (place + 1 + k)
decide_leads place (Branch test by jt jf) next =
    elim (decide_same next (place + 1 + jt)) [
      | inl e ↦ inl (inl e)
      | inr n ↦ elim (decide_same next (place + 1 + jf)) [
        | inl e ↦ inl (inr e)
        | inr m ↦ inr (λ leads. elim leads [ inl e ↦ n e | inr e ↦ m e ])
      ]
    ]
decide_leads place _ next = decide_same next (place + 1)
