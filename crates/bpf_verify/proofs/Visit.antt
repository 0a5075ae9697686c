-- Facts about the instruction at a place, as an element of the code's list.
use Rattle.std.proofs.Common.{◌≡◌, ℕ, ◌+◌, ◌-◌, ◌<◌, ◌≤◌, inl, inr, List, length, get_or, subst, sym, arith}
use Rattle.std.proofs.lemmas.Bool.{cases_lt}
use Rattle.std.proofs.lemmas.Option.{slice_get-get_or, slice_get_within}
use Rattle.bpf_code.specs.declared.instr.Instr.{Instr}
use Rattle.bpf_code.specs.declared.instr.Instr.TheVariants.{Branch, Jump, RetA, RetK}
use Rattle.bpf_code.specs.Flow.{IsReturn, LeadsTo, IsInstrAt}
use Rattle.bpf_verify.specs.Accepted.{EndsInReturn, IsSoundInstr}
use Rattle.bpf_verify.specs.Faults.{IsSoundBelow, LacksReturn}
use Rattle.bpf_verify.specs.Paths.{IsWrittenAt}
use Rattle.bpf_verify.proofs.Places.{one_there}

module _ (code : List Instr) (at : ℕ) (default : Instr) (within : at < length code) where
  pub default_there : IsInstrAt code at (get_or code at default)
  default_there = slice_get-get_or code at default within

  -- One more place is sound.
  pub one_sound : IsSoundBelow code at → IsSoundInstr (length code) at (get_or code at default) → IsSoundBelow code (at + 1)
  one_sound before here place i lt instr_there =
      elim (cases_lt place at) [
        | inl earlier ↦ before place i earlier instr_there
        | inr le ↦
            let e : at ≡ place = omega arith in
            let there : IsInstrAt code at i = subst (λ n. IsInstrAt code n i) (sym e) instr_there in
            let same = one_there code at (get_or code at default) i default_there there in
            subst (λ n. IsSoundInstr (length code) n i) e (subst (λ j. IsSoundInstr (length code) at j) same here)
      ]

-- The last instruction decides whether the code ends in a return.
pub ends_there : (code : List Instr) (i : Instr) → IsInstrAt code (length code - 1) i → IsReturn i → EndsInReturn code
ends_there code i instr_there returns = (i, instr_there, returns)

pub lacks_there : (code : List Instr) (i : Instr) → IsInstrAt code (length code - 1) i → (IsReturn i → ⊥) → LacksReturn code
lacks_there code i instr_there goes_on j there returns =
    goes_on (subst IsReturn (one_there code (length code - 1) j i there instr_there) returns)

-- A sound instruction leads at most to the place after the last.
pub next_within : (code : List Instr) (at : ℕ) (i : Instr) → at < length code → IsSoundInstr (length code) at i
    → (next : ℕ) → LeadsTo at i next → next ≤ length code
next_within code at (Jump k) within sound next leads = omega (arith, sound.targets next leads)
next_within code at (Branch test by jt jf) within sound next leads = omega (arith, sound.targets next leads)
next_within code at (RetK k) within sound next leads = absurd leads
next_within code at RetA within sound next leads = absurd leads
next_within code at _ within sound next leads = omega (arith, leads)

-- One more place is written.
pub one_more : (code : List Instr) (at : ℕ) → ((place : ℕ) → place < at → IsWrittenAt code place) → IsWrittenAt code at
    → (place : ℕ) → place < at + 1 → IsWrittenAt code place
one_more code at before here place lt word passed path reads =
    elim (cases_lt place at) [
      | inl earlier ↦ before place earlier word passed path reads
      | inr le ↦
          let e : at ≡ place = omega arith in
          let there : IsWrittenAt code place = subst (λ p. IsWrittenAt code p) e here in
          there word passed path reads
    ]

-- There is no read after the end of the code.
pub all_written : (code : List Instr) → ((place : ℕ) → place < length code → IsWrittenAt code place) → (place : ℕ) → IsWrittenAt code place
all_written code below place word passed path reads =
    below place (slice_get_within code place reads.0 reads.1) word passed path reads
