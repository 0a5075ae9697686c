-- The longest run from each place of an accepted code. These laws are in `specs/` because those of `list` cite them.
use Rattle.std.proofs.Common.{◌≡◌, ◌⊎◌, inl, inr, ℕ, zero, suc, ◌+◌, ◌<◌, ◌≤◌, ◌-◌, List, [], ◌∷◌, length, Some, slice_get, refl, sym, ap, ◌∙◌, subst, arith}
use Rattle.std.proofs.lemmas.Bool.{cases_lt}
use Rattle.std.proofs.lemmas.Option.{same_Some, slice_get_cases, slice_get_within}
use Rattle.bpf_code.specs.Flow.{IsInstrAt, IsReturn, IsSuccessor, JumpsTo, LeadsTo}
use Rattle.bpf_code.specs.declared.instr.Instr.{Instr}
use Rattle.bpf_code.specs.declared.instr.Instr.TheVariants.{Branch, Jump, RetA, RetK}
use Rattle.bpf_verify.proofs.Onward.{successor_forward}
use Rattle.bpf_verify.specs.Accepted.{IsAccepted}
use Rattle.bpf_verify.specs.Paths.{IsPath}
use Rattle.cmd_list.specs.LongestRun.{IsLongestRun}

-- Execution can go from here to there in this many steps.
abbrev pub IsWay : List Instr → ℕ → ℕ → ℕ → Type 0
IsWay code here zero there = here ≡ there
IsWay code here (suc steps) there = (next : ℕ) × IsSuccessor code here next × IsWay code next steps there

-- Some way from here to a return begins this many instructions, and no way from here begins more.
pub record IsLongestFrom (code : List Instr) (here most : ℕ) : Type 0 where
  pub steps : ℕ
  pub last : ℕ
  pub way : IsWay code here steps last
  pub ends : (i : Instr) × IsInstrAt code last i × IsReturn i
  pub counted : most ≡ suc steps
  pub bounds : (others there : ℕ) → IsWay code here others there → others < most

-- The instruction here ends the program and the number is 0, or the number is that of the longest run from a place that
-- it leads to.
abbrev pub IsLongestOnward : List Instr → ℕ → Instr → ℕ → Type 0
IsLongestOnward code here i most = (IsReturn i × (most ≡ 0)) ⊎ ((next : ℕ) × LeadsTo here i next × IsLongestFrom code next most)

-- The longest run from each place that the instruction leads to begins at most this many instructions.
abbrev pub IsMostOnward : List Instr → ℕ → Instr → ℕ → Type 0
IsMostOnward code here i most = (next : ℕ) → LeadsTo here i next → (some : ℕ) × IsLongestFrom code next some × (some ≤ most)

-- ---- paths are ways

way_more : (code : List Instr) (here steps there next : ℕ) → IsWay code here steps there → IsSuccessor code there next → IsWay code here (suc steps) next
way_more code here zero there next way s = (next, subst (λ (place : ℕ). IsSuccessor code place next) (sym way) s, refl)
way_more code here (suc steps) there next way s = (way.0, way.1, way_more code way.0 steps there next way.2 s)

path_way : (code : List Instr) (passed : List ℕ) (place : ℕ) → IsPath code passed place → IsWay code 0 (length passed) place
path_way code [] place path = sym path
path_way code (latest ∷ passed) place path = way_more code 0 (length passed) latest place (path_way code passed latest path.0) path.1

way_path : (code : List Instr) (here steps there : ℕ) (passed : List ℕ) → IsPath code passed here → IsWay code here steps there
    → (more : List ℕ) × IsPath code more there × (length more ≡ length passed + steps)
way_path code here zero there passed path way = (passed, subst (λ (place : ℕ). IsPath code passed place) way path, omega arith)
way_path code here (suc steps) there passed path way =
    let rest = way_path code way.0 steps there (here ∷ passed) (path, way.1) way.2 in
    let counted : length rest.0 ≡ suc (length passed) + steps = rest.2 in
    (rest.0, rest.1, omega arith)

-- The longest run from place 0 is the longest run.
pub run_from : (code : List Instr) (most : ℕ) → IsLongestFrom code 0 most → IsLongestRun code most
run_from code most from =
    let found = way_path code 0 from.steps from.last [] refl from.way in
    let long : length found.0 ≡ 0 + from.steps = found.2 in
    let is : most ≡ suc from.steps = from.counted in
    record {
      passed = found.0;
      last = from.last;
      path = found.1;
      ends = from.ends;
      counted = omega arith;
      bounds = λ others place path. let lt : length others < most = from.bounds (length others) place (path_way code others place path) in omega arith;
    }

-- ---- a run goes forward, so it isn't longer than the code

way_forward : (code : List Instr) (here steps there : ℕ) → IsWay code here steps there → here + steps ≤ there
way_forward code here zero there way = omega (arith, way)
way_forward code here (suc steps) there way =
    let lt = successor_forward code here way.0 way.1 in
    let rest = way_forward code way.0 steps there way.2 in
    omega arith

-- The longest run from a place begins at most the instructions from there on.
pub longest_within : (code : List Instr) (here most : ℕ) → IsLongestFrom code here most → here + most ≤ length code
longest_within code here most from =
    let far = way_forward code here from.steps from.last from.way in
    let last = slice_get_within code from.last from.ends.0 from.ends.1 in
    let is : most ≡ suc from.steps = from.counted in
    omega arith

-- ---- the longest run from a place, by those from the places that its instruction leads to

module _ (code : List Instr) (here : ℕ) (i : Instr) (instr_there : IsInstrAt code here i) where
  leads_here : (next : ℕ) → IsSuccessor code here next → LeadsTo here i next
  leads_here next s = subst (λ (j : Instr). LeadsTo here j next) (same_Some s.0 i (sym s.1 ∙ instr_there)) s.2

  bounded : (most : ℕ) → IsMostOnward code here i most → (others there : ℕ) → IsWay code here others there → others < suc most
  bounded most bounds zero there way = omega arith
  bounded most bounds (suc others) there way =
      let rest = bounds way.0 (leads_here way.0 way.1) in
      let lt = rest.1.bounds others there way.2 in
      let le = rest.2 in
      omega arith

  -- It begins one instruction more than the longest of those.
  pub longest_here : (most : ℕ) → IsLongestOnward code here i most → IsMostOnward code here i most → IsLongestFrom code here (suc most)
  longest_here most (inl returns) bounds =
      record { steps = 0; last = here; way = refl; ends = (i, instr_there, returns.0); counted = ap suc returns.1; bounds = bounded most bounds }
  longest_here most (inr onward) bounds =
      let next = onward.0 in
      let from = onward.2 in
      record { steps = suc from.steps; last = from.last; way = (next, (i, instr_there, onward.1), from.way); ends = from.ends; counted = ap suc from.counted; bounds = bounded most bounds }

-- ---- an accepted code has a longest run

leads_how : (place : ℕ) (i : Instr) (next : ℕ) → LeadsTo place i next → JumpsTo place i next ⊎ ((next ≡ place + 1) × (IsReturn i → ⊥))
leads_how place (Jump k) next leads = inl leads
leads_how place (Branch test by jt jf) next leads = inl leads
leads_how place (RetK k) next leads = absurd leads
leads_how place RetA next leads = absurd leads
leads_how place _ next leads = inr (leads, λ returns. returns)

-- After an instruction that isn't a return there is another.
not_last : (code : List Instr) (place : ℕ) (i : Instr) → IsAccepted code → IsInstrAt code place i → (IsReturn i → ⊥) → place + 1 < length code
not_last code place i accepted instr_there goes_on =
    let within = slice_get_within code place i instr_there in
    let last : place ≡ length code - 1 → ⊥ = λ e.
    let there : slice_get code (length code - 1) ≡ Some i = subst (λ (n : ℕ). slice_get code n ≡ Some i) e instr_there in
    goes_on (subst IsReturn (same_Some accepted.ends.0 i (sym accepted.ends.1 ∙ there)) accepted.ends.2) in
    omega arith

-- An instruction of an accepted code leads to places of the code.
pub leads_within : (code : List Instr) (place : ℕ) (i : Instr) (next : ℕ) → IsAccepted code → IsInstrAt code place i → LeadsTo place i next → next < length code
leads_within code place i next accepted instr_there leads =
    elim (leads_how place i next leads) [
      | inl jump ↦ (accepted.sound place i instr_there).targets next jump
      | inr after ↦ let on = not_last code place i accepted instr_there after.1 in omega (arith, after.0)
    ]

-- Some number of instructions is that of the longest run from here.
abbrev HasLongest : List Instr → ℕ → Type 0
HasLongest code here = (most : ℕ) × IsLongestFrom code here most

only_onward : (code : List Instr) (here : ℕ) (i : Instr) (next : ℕ) → IsInstrAt code here i → LeadsTo here i next → ((other : ℕ) → LeadsTo here i other → other ≡ next)
    → HasLongest code next → HasLongest code here
only_onward code here i next instr_there leads only found =
    let bounds : IsMostOnward code here i found.0 = λ other to.
    let refl_le : found.0 ≤ found.0 = omega arith in
    (found.0, subst (λ (place : ℕ). IsLongestFrom code place found.0) (sym (only other to)) found.1, refl_le) in
    (suc found.0, longest_here code here i instr_there found.0 (inr (next, leads, found.1)) bounds)

either_onward : (code : List Instr) (here : ℕ) (i : Instr) (next other : ℕ) → IsInstrAt code here i → LeadsTo here i next
    → ((to : ℕ) → LeadsTo here i to → (to ≡ next) ⊎ (to ≡ other))
    → (most : ℕ) → IsLongestFrom code next most → (less : ℕ) → IsLongestFrom code other less → less ≤ most → HasLongest code here
either_onward code here i next other instr_there leads only most from less others le =
    let refl_le : most ≤ most = omega arith in
    let bounds : IsMostOnward code here i most = λ to goes.
    elim (only to goes) [
      | inl e ↦ (most, subst (λ (place : ℕ). IsLongestFrom code place most) (sym e) from, refl_le)
      | inr e ↦ (less, subst (λ (place : ℕ). IsLongestFrom code place less) (sym e) others, le)
    ] in
    (suc most, longest_here code here i instr_there most (inr (next, leads, from)) bounds)

returns_here : (code : List Instr) (here : ℕ) (i : Instr) → IsInstrAt code here i → IsReturn i → ((next : ℕ) → LeadsTo here i next → ⊥) → HasLongest code here
returns_here code here i instr_there returns none =
    (1, longest_here code here i instr_there 0 (inl (returns, refl)) (λ next leads. absurd (none next leads)))

longest_at : (code : List Instr) (here : ℕ) (i : Instr) → IsInstrAt code here i → ((next : ℕ) → LeadsTo here i next → HasLongest code next) → HasLongest code here
longest_at code here (Jump k) instr_there onward = only_onward code here (Jump k) (here + 1 + k) instr_there refl (λ other leads. leads) (onward (here + 1 + k) refl)
longest_at code here (Branch test by jt jf) instr_there onward =
    let met = onward (here + 1 + jt) (inl refl) in
    let unmet = onward (here + 1 + jf) (inr refl) in
    elim (cases_lt met.0 unmet.0) [
      | inl lt ↦ either_onward code here (Branch test by jt jf) (here + 1 + jf) (here + 1 + jt) instr_there (inr refl)
          (λ to leads. elim leads [ inl e ↦ inr e | inr e ↦ inl e ]) unmet.0 unmet.1 met.0 met.1 (omega arith)
      | inr le ↦ either_onward code here (Branch test by jt jf) (here + 1 + jt) (here + 1 + jf) instr_there (inl refl) (λ to leads. leads) met.0 met.1 unmet.0 unmet.1 le
    ]
longest_at code here (RetK k) instr_there onward = returns_here code here (RetK k) instr_there tt (λ next leads. leads)
longest_at code here RetA instr_there onward = returns_here code here RetA instr_there tt (λ next leads. leads)
longest_at code here i instr_there onward = only_onward code here i (here + 1) instr_there refl (λ other leads. leads) (onward (here + 1) refl)

longest_from : (code : List Instr) → IsAccepted code → (left here : ℕ) → here < length code → length code ≤ here + left → HasLongest code here
longest_from code accepted zero here within h = absurd (omega arith)
longest_from code accepted (suc left) here within h =
    elim (slice_get_cases code here).1 [
      | inl there ↦ longest_at code here there.0 there.2 (λ next leads.
          let forward = successor_forward code here next (there.0, there.2, leads) in
          longest_from code accepted left next (leads_within code here there.0 next accepted there.2 leads) (omega arith))
      | inr past ↦ absurd (omega (arith, past.0))
    ]

-- An accepted code has a longest run, of at most as many instructions as it has.
pub some-longest : (code : List Instr) → IsAccepted code → (most : ℕ) × IsLongestRun code most × (most ≤ length code)
some-longest code accepted =
    let found = longest_from code accepted (length code) 0 accepted.sized.least (omega arith) in
    let within = longest_within code 0 found.0 found.1 in
    (found.0, run_from code found.0 found.1, omega arith)

-- It has one.
pub one-longest : (code : List Instr) (one other : ℕ) → IsLongestRun code one → IsLongestRun code other → one ≡ other
one-longest code one other p q =
    let some = q.bounds p.passed p.last p.path in
    let more = p.bounds q.passed q.last q.path in
    let is : one ≡ length p.passed + 1 = p.counted in
    let too : other ≡ length q.passed + 1 = q.counted in
    omega arith
