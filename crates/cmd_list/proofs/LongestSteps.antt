-- The machine takes no more steps than the longest run begins instructions: it goes on along a path.
use Rattle.std.proofs.Common.{◌≡◌, ℕ, zero, suc, ◌+◌, ◌≤◌, List, [], ◌∷◌, length, refl, arith}
use Rattle.bpf_code.specs.declared.instr.Instr.{Instr}
use Rattle.bpf_interp.proofs.Reached.{Does-goes}
use Rattle.bpf_interp.specs.State.{State, At, Ended}
use Rattle.bpf_interp.specs.Step.{Step}
use Rattle.bpf_interp.specs.Value.{EndsIn, Value}
use Rattle.bpf_verify.specs.Paths.{IsPath}
use Rattle.cmd_list.specs.LongestRun.{IsLongestRun}

module _ (code : List Instr) (packet : List ℕ) (most : ℕ) (longest : IsLongestRun code most) where
  no_more : (ended value steps : ℕ) → EndsIn code packet (Ended ended) value steps → steps ≡ 0
  no_more ended value zero ends = refl
  no_more ended value (suc steps) ends = absurd ends.1

  -- One step, and then the rest of the run.
  step_within : (steps pc a x : ℕ) (m : List (ℕ × ℕ)) (value : ℕ) (passed : List ℕ) → IsPath code passed pc
      → (s : State) → Step code packet (At pc a x m) s → EndsIn code packet s value steps
      → ((next b y : ℕ) (k : List (ℕ × ℕ)) → IsPath code (pc ∷ passed) next → EndsIn code packet (At next b y k) value steps → suc (length passed) + steps ≤ most)
      → length passed + suc steps ≤ most
  step_within steps pc a x m value passed path (Ended ended) step ends later =
      let none = no_more ended value steps ends in
      let le = longest.bounds passed pc path in
      omega arith
  step_within steps pc a x m value passed path (At next b y k) step ends later =
      let goes = Does-goes packet step.0 pc a x m (At next b y k) step.2 in
      let le = later next b y k (path, (step.0, step.1, goes.0)) ends in
      omega arith

  steps_within : (steps pc a x : ℕ) (m : List (ℕ × ℕ)) (value : ℕ) (passed : List ℕ) → IsPath code passed pc → EndsIn code packet (At pc a x m) value steps → length passed + steps ≤ most
  steps_within zero pc a x m value passed path ends = absurd cc
  steps_within (suc steps) pc a x m value passed path ends =
      step_within steps pc a x m value passed path ends.0 ends.1 ends.2
      (λ next b y k on rest. steps_within steps next b y k value (pc ∷ passed) on rest)

pub value_within : (code : List Instr) (packet : List ℕ) (most value steps : ℕ) → IsLongestRun code most → Value code packet value steps → steps ≤ most
value_within code packet most value steps longest ends =
    let le : 0 + steps ≤ most = steps_within code packet most longest steps 0 0 0 [] value [] refl ends in
    omega arith
