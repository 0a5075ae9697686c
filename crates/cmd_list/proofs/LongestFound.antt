-- The table of the longest runs, filled from the last place to the first.
use Rattle.std.proofs.Common.{◌≡◌, ◌⊎◌, inl, inr, ℕ, suc, ◌+◌, ◌-◌, ◌<◌, ◌≤◌, List, length, get_or, set, sym, ◌∙◌, subst, arith}
use Rattle.std.proofs.lemmas.Bool.{cases_lt}
use Rattle.std.proofs.lemmas.List.{get_or-set_same, get_or-set_other}
use Rattle.std.proofs.lemmas.Option.{slice_get-get_or}
use Rattle.bpf_code.specs.Flow.{IsInstrAt, IsReturn, LeadsTo}
use Rattle.bpf_code.specs.declared.instr.Instr.{Instr}
use Rattle.bpf_verify.proofs.Onward.{successor_forward}
use Rattle.bpf_verify.specs.Accepted.{IsAccepted}
use Rattle.cmd_list.specs.LongestRun.{IsLongestRun}
use Rattle.cmd_list.specs.inner.LongestRuns.{IsLongestFrom, IsLongestOnward, IsMostOnward, leads_within, longest_here, longest_within, run_from}

-- The table has the longest run from each place of the code that isn't before this one.
abbrev pub AreLongest : List Instr → List ℕ → ℕ → Type 0
AreLongest code longest place = (later : ℕ) → place ≤ later → later < length code → IsLongestFrom code later (get_or longest later 0)

-- The number is that of the table for a place that the instruction leads to, or 0 if it is a return.
abbrev pub IsReached : List ℕ → ℕ → Instr → ℕ → Type 0
IsReached longest here i most = (IsReturn i × (most ≡ 0)) ⊎ ((next : ℕ) × LeadsTo here i next × (most ≡ get_or longest next 0))

-- The instruction just before this place.
pub before_there : (code : List Instr) (place : ℕ) (d : Instr) → 0 < place → place ≤ length code → IsInstrAt code (place - 1) (get_or code (place - 1) d)
before_there code place d some le = slice_get-get_or code (place - 1) d (omega arith)

pub are_before : (code : List Instr) (longest : List ℕ) (place : ℕ) → 0 < place → AreLongest code longest place → AreLongest code longest (place - 1 + 1)
are_before code longest place some are =
    let one_more : place ≡ place - 1 + 1 = omega arith in
    subst (λ (n : ℕ). AreLongest code longest n) one_more are

module _ (code : List Instr) (accepted : IsAccepted code) (longest : List ℕ) (here : ℕ) (i : Instr) (instr_there : IsInstrAt code here i) (are : AreLongest code longest (here + 1)) where
  from_next : (next : ℕ) → LeadsTo here i next → IsLongestFrom code next (get_or longest next 0)
  from_next next leads =
      let forward = successor_forward code here next (i, instr_there, leads) in
      are next (omega arith) (leads_within code here i next accepted instr_there leads)

  longest_onward : (most : ℕ) → IsReached longest here i most → IsLongestOnward code here i most
  longest_onward most (inl returns) = inl returns
  longest_onward most (inr reached) =
      inr (reached.0, reached.1, subst (λ (n : ℕ). IsLongestFrom code reached.0 n) (sym reached.2) (from_next reached.0 reached.1))

  most_onward : (most : ℕ) → ((next : ℕ) → LeadsTo here i next → get_or longest next 0 ≤ most) → IsMostOnward code here i most
  most_onward most bounds next leads = (get_or longest next 0, from_next next leads, bounds next leads)

  -- The number is less than 4096.
  pub onward_small : (most : ℕ) → IsReached longest here i most → most < 4096
  onward_small most (inl returns) = omega (arith, returns.1)
  onward_small most (inr reached) =
      let forward = successor_forward code here reached.0 (i, instr_there, reached.1) in
      let within = longest_within code reached.0 (get_or longest reached.0 0) (from_next reached.0 reached.1) in
      let sized = accepted.sized.most in
      omega (arith, reached.2)

  -- One place more.
  pub longest_more : (most : ℕ) → here < length longest → IsReached longest here i most → ((next : ℕ) → LeadsTo here i next → get_or longest next 0 ≤ most)
      → AreLongest code (set longest here (1 + most)) here
  longest_more most room reached bounds later le lt =
      elim (cases_lt here later) [
        | inl after ↦
            let kept : get_or (set longest here (1 + most)) later 0 ≡ get_or longest later 0 = get_or-set_other longest here later (1 + most) 0 (λ e. absurd (omega (arith, after, e))) in
            subst (λ (n : ℕ). IsLongestFrom code later n) (sym kept) (are later (omega (arith, after)) lt)
        | inr before ↦
            let same : here ≡ later = omega (arith, before, le) in
            let one_more : 1 + most ≡ suc most = omega arith in
            let found : suc most ≡ get_or (set longest here (1 + most)) here 0 = sym (get_or-set_same longest here (1 + most) 0 room ∙ one_more) in
            let from = longest_here code here i instr_there most (longest_onward most reached) (most_onward most bounds) in
            subst (λ (place : ℕ). IsLongestFrom code place (get_or (set longest here (1 + most)) place 0)) same (subst (λ (n : ℕ). IsLongestFrom code here n) found from)
      ]

-- The table for the first place.
pub longest_found : (code : List Instr) (longest : List ℕ) → IsAccepted code → AreLongest code longest 0 → IsLongestRun code (get_or longest 0 0)
longest_found code longest accepted are =
    let le : 0 ≤ 0 = omega arith in
    run_from code (get_or longest 0 0) (are 0 le accepted.sized.least)
