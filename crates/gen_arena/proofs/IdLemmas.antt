-- Lemmas on equal ids.
use Rattle.std.proofs.Common.{◌≡◌, ◌≢◌, ◌⊎◌, Bool, true, false, refl, sym, inl, inr, subst, arith}
use Rattle.std.proofs.lemmas.Bool.Decides.{nat_tests}
use Rattle.gen_arena.specs.SameId.{is_same_id}
use Rattle.gen_arena.specs.declared.id.Id.{Id}

pub id_same : (one other : Id) → is_same_id one other ≡ true → one ≡ other
id_same one other e =
    let slots : one.slot ≡ other.slot = grind (arith, nat_tests) in
    let generations : one.generation ≡ other.generation = grind (arith, nat_tests) in
    λ i. record { slot = slots i; generation = generations i }

pub id_itself : (id : Id) → is_same_id id id ≡ true
id_itself id = grind (arith, nat_tests)

pub id_differs : (one other : Id) → one ≢ other → is_same_id one other ≡ false
id_differs one other apart =
    let choice : (b : Bool) → is_same_id one other ≡ b → b ≡ false = elim [
      | true ↦ λ e. absurd (apart (id_same one other e))
      | false ↦ λ e. refl
    ] in
    choice (is_same_id one other) refl

pub id_cases : (one other : Id) → (one ≡ other) ⊎ (one ≢ other)
id_cases one other =
    let choice : (b : Bool) → is_same_id one other ≡ b → (one ≡ other) ⊎ (one ≢ other) = elim [
      | true ↦ λ e. inl (id_same one other e)
      | false ↦ λ e. inr (λ same.
          let other_way : is_same_id one one ≡ false = subst (λ id. is_same_id one id ≡ false) (sym same) e in
          let itself = id_itself one in cc)
    ] in
    choice (is_same_id one other) refl
