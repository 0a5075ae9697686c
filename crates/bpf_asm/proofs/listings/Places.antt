-- Properties of the instructions at each place of a code.
use Rattle.std.proofs.Common.{ℕ, ◌+◌, ◌<◌, ◌≤◌, List, length, get_or, subst, arith, inl, inr, below_more}
use Rattle.std.proofs.lemmas.Option.{get_or_from_slice_get, slice_get-get_or, slice_get_cases}
use Rattle.bpf_asm.specs.Listing.{IsFirstLeaving, Leaves, StaysWithin}
use Rattle.bpf_code.specs.Flow.{IsInstrAt}
use Rattle.bpf_code.specs.declared.instr.Instr.{Instr}

-- The instruction at each place has this property.
abbrev pub AllPlaces : (ℕ → Instr → Type 0) → List Instr → Type 0
AllPlaces P code = (place : ℕ) (i : Instr) → IsInstrAt code place i → P place i

-- The same for the places before this one.
abbrev pub PlacesBelow : (ℕ → Instr → Type 0) → List Instr → ℕ → Type 0
PlacesBelow P code count = (place : ℕ) → place < count → (i : Instr) → IsInstrAt code place i → P place i

-- The place of an instruction is within the code.
pub instr_within : (code : List Instr) (place : ℕ) (i : Instr) → IsInstrAt code place i → place < length code
instr_within code place i s = elim (slice_get_cases code place).1 [ inl w ↦ w.1 | inr w ↦ let e = w.1 in cc ]

-- The places before the code's length are all places.
pub places_all : (P : ℕ → Instr → Type 0) (code : List Instr) (count : ℕ) → length code ≤ count → PlacesBelow P code count → AllPlaces P code
places_all P code count h below place i s = let w = instr_within code place i s in below place (omega arith) i s

-- One more place.
pub places_more : (P : ℕ → Instr → Type 0) (code : List Instr) (at : ℕ) (d : Instr) → PlacesBelow P code at → P at (get_or code at d) → PlacesBelow P code (at + 1)
places_more P code at d below here =
    below_more (λ (place : ℕ). (i : Instr) → IsInstrAt code place i → P place i) at below (λ i s. subst (λ (j : Instr). P at j) (get_or_from_slice_get code at i d s) here)

-- No place.
pub places_none : (P : ℕ → Instr → Type 0) (code : List Instr) → PlacesBelow P code 0
places_none P code place h = absurd (omega arith)

-- A property of each place holds for the instruction that is read there.
pub place_read : (P : ℕ → Instr → Type 0) (code : List Instr) (at : ℕ) (d : Instr) → AllPlaces P code → at < length code → P at (get_or code at d)
place_read P code at d all h = all at (get_or code at d) (slice_get-get_or code at d h)

-- The first instruction that leaves the code.
pub leaving_found : (code : List Instr) (at : ℕ) (d : Instr) → at < length code → Leaves (length code) at (get_or code at d) → PlacesBelow (StaysWithin (length code)) code at → IsFirstLeaving code at
leaving_found code at d h here below = record {
  leaves = (get_or code at d, slice_get-get_or code at d h, here);
  before = λ earlier i l s. below earlier l i s;
}

-- An instruction that stays within a code stays within a longer one.
pub stays_longer : (count more place : ℕ) (i : Instr) → count ≤ more → StaysWithin count place i → StaysWithin more place i
stays_longer count more place i h s target j = let l : target < count = s target j in omega arith

-- A code that no instruction leaves has no first such instruction.
pub none_leaving : (code : List Instr) (at : ℕ) → AllPlaces (StaysWithin (length code)) code → IsFirstLeaving code at → ⊥
none_leaving code at all f =
    let h : f.leaves.2.0 < length code = all at f.leaves.0 f.leaves.1 f.leaves.2.0 f.leaves.2.1 in omega (arith, h, f.leaves.2.2)
