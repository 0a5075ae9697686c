-- Lemmas for proofs of other crates: the public laws, and one about lists.
use Rattle.std.proofs.Common.{◌≡◌, ◌⊎◌, List, ◌∷◌, Any}
use Rattle.bpf_code.specs.declared.instr.Instr.{Instr}
use Rattle.bpf_verify.proofs.Decided as decided
use Rattle.bpf_verify.proofs.FirstFault as faults
use Rattle.bpf_verify.proofs.Places as places
use Rattle.bpf_verify.specs.Accepted.{IsAccepted}
use Rattle.bpf_verify.specs.Faults.{FailsFirst}
use Rattle.bpf_verify.specs.declared.fault.Fault.{Fault}

-- A code is accepted, or some fault comes first in it.
pub accepted-or_fault : (code : List Instr) → IsAccepted code ⊎ ((fault : Fault) × FailsFirst code fault)
accepted-or_fault = decided.accepted-or_fault

-- A code in which a fault comes first isn't accepted.
pub refused-from_fault : (code : List Instr) (fault : Fault) → FailsFirst code fault → IsAccepted code → ⊥
refused-from_fault = faults.refused-from_fault

-- Two faults that come first in a code are the same.
pub one_comes_first : (code : List Instr) (one other : Fault) → FailsFirst code one → FailsFirst code other → one ≡ other
one_comes_first = faults.one_comes_first

module _ {X : Type 0} where
  -- If some element of a list has a property, the first or a later one has it.
  pub any_split : (P : X → Type 0) (x : X) (xs : List X) → Any P (x ∷ xs) → P x ⊎ Any P xs
  any_split = places.any_split
