-- Lemmas on virtual connections for other crates.
use Rattle.std.proofs.Common.{◌≡◌, ◌≢◌, ◌⊎◌, ℕ, ◌≤◌, Bool, true, false, refl, sym, subst, inl, inr, arith}
use Rattle.std.specs.Bool.{Decides}
use Rattle.std.specs.Cmp.{IsEquivalence, decided}
use Rattle.std.specs.Coded.{le_prop}
use Rattle.std.proofs.lemmas.Bool.Decides.{nat_tests}
use Rattle.upc_cell.specs.declared.vc.Vc.{Vc}
use Rattle.upc_cell.specs.contracts.vc.VcPartialEq.TheImpl.{eq-value}
use Rattle.upc_cell.specs.Connection.{is_same_vc}

-- Connections with equal path and equal channel are equal: the proof of the bound on the path does not matter.
pub vc_is : (one other : Vc) → one.vpi ≡ other.vpi → one.vci ≡ other.vci → one ≡ other
vc_is one other paths channels =
    let Of : ℕ → Type 0 = λ path. (x : path ≤ 4095)
    → one ≡ record { vpi = path; vci = one.vci; of_an_interface = x } in
    let own : Of one.vpi = λ x i.
    record { vpi = one.vpi; vci = one.vci; of_an_interface = le_prop one.of_an_interface x i } in
    subst (λ channel. one ≡ record { vpi = other.vpi; vci = channel; of_an_interface = other.of_an_interface })
    channels (subst Of paths own other.of_an_interface)

pub vc_same : (one other : Vc) → is_same_vc one other ≡ true → one ≡ other
vc_same one other e = vc_is one other (grind (arith, nat_tests)) (grind (arith, nat_tests))

pub vc_itself : (vc : Vc) → is_same_vc vc vc ≡ true
vc_itself vc = grind (arith, nat_tests)

pub vc_differs : (one other : Vc) → one ≢ other → is_same_vc one other ≡ false
vc_differs one other apart =
    let choice : (b : Bool) → is_same_vc one other ≡ b → b ≡ false = elim [
      | true ↦ λ e. absurd (apart (vc_same one other e))
      | false ↦ λ e. refl
    ] in
    choice (is_same_vc one other) refl

pub vc_cases : (one other : Vc) → (one ≡ other) ⊎ (one ≢ other)
vc_cases one other =
    let choice : (b : Bool) → is_same_vc one other ≡ b → (one ≡ other) ⊎ (one ≢ other) = elim [
      | true ↦ λ e. inl (vc_same one other e)
      | false ↦ λ e. inr (λ same. let itself = vc_itself one in
          let other_way : is_same_vc one one ≡ false = subst (λ v. is_same_vc one v ≡ false) (sym same) e in cc)
    ] in
    choice (is_same_vc one other) refl

-- For maps keyed by connections: `==` decides equality of connections.

pub vc_decides : (one other : Vc) → Decides (is_same_vc one other) (one ≡ other)
vc_decides one other = (
  vc_same one other,
  λ same. subst (λ v. is_same_vc one v ≡ true) same (vc_itself one),
)

pub vc_equivalence : IsEquivalence is_same_vc
vc_equivalence = decided is_same_vc vc_decides

pub eq-vc : (one other : Vc) → eq-value.it one other ≡ is_same_vc one other
eq-vc one other = refl
