-- Functions and lists after a change.
use Rattle.std.proofs.Common.{◌≡◌, ℕ, ◌==◌, cond, List, set, Option, Some, slice_get, sym, ap, ◌∙◌, inl, inr, arith}
use Rattle.std.proofs.lemmas.Bool.{cases_eq, eq-eqb, ne_eqb}
use Rattle.std.proofs.lemmas.Option.{slice_get_within}
use Rattle.gen_arena.proofs.Public.{slice_get-set_same, slice_get-set_other}

-- Functions with equal values are equal.
pub pointwise : {X Y : Type 0} (f g : X → Y) → ((x : X) → f x ≡ g x) → f ≡ g
pointwise f g same = λ i x. same x i

-- The function with another value at one number.
abbrev pub with_at : {X : Type 0} → (ℕ → X) → ℕ → X → ℕ → X
with_at values at value other = cond (other == at) value (values other)

-- It is the same if it had that value before.
pub with_at-same : {X : Type 0} (values : ℕ → X) (at : ℕ) (value : X) → values at ≡ value → with_at values at value ≡ values
with_at-same values at value same = pointwise (with_at values at value) values (λ other. elim (cases_eq other at) [
  | inl is ↦ ap (λ b. cond b value (values other)) (eq-eqb other at is) ∙ sym same ∙ ap values (sym is)
  | inr apart ↦ ap (λ b. cond b value (values other)) (ne_eqb other at apart)
])

-- A view of each place of a list, after one place was written.
pub seen-set : {X Y : Type 0} (view : Option X → Y) (xs : List X) (k : ℕ) (x old : X) → slice_get xs k ≡ Some old
    → (λ place. view (slice_get (set xs k x) place)) ≡ with_at (λ place. view (slice_get xs place)) k (view (Some x))
seen-set view xs k x old had =
    pointwise (λ place. view (slice_get (set xs k x) place)) (with_at (λ place. view (slice_get xs place)) k (view (Some x)))
    (λ place. elim (cases_eq place k) [
      | inl is ↦
          ap (λ at. view (slice_get (set xs k x) at)) is
          ∙ ap view (slice_get-set_same xs k x (slice_get_within xs k old had))
          ∙ sym (ap (λ b. cond b (view (Some x)) (view (slice_get xs place))) (eq-eqb place k is))
      | inr apart ↦
          ap view (slice_get-set_other xs k place x apart)
          ∙ sym (ap (λ b. cond b (view (Some x)) (view (slice_get xs place))) (ne_eqb place k apart))
    ])
