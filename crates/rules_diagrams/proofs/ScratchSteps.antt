-- The scratch words that are known.
use Rattle.std.proofs.Common.{◌≡◌, ℕ, zero, suc, ◌+◌, ◌<◌, ◌==◌, Bool, true, false, if◌then◌else◌, List, [], ◌∷◌, slice_get, slice_set, Option, Some, None, refl, sym, ap, ◌∙◌, arith}
use Rattle.std.proofs.lemmas.Bool.Decides.{nat_tests}
use Rattle.bpf_code.specs.declared.instr.Instr.{Instr}
use Rattle.bpf_interp.specs.ScratchMemory.{word_in}
use Rattle.bpf_interp.specs.State.{At}
use Rattle.bpf_interp.specs.Step.{Does}
use Rattle.rules_diagrams.specs.CellNumbers.{octets_number}
use Rattle.rules_diagrams.specs.inner.Following.{IsFollowed, OnEach}
use Rattle.rules_diagrams.specs.inner.Words.{word_number}
use Rattle.rules_diagrams.specs.declared.contents.Contents.{Contents}
use Rattle.rules_diagrams.specs.declared.contents.Followed.TheVariants.{Continues}
use Rattle.rules_diagrams.specs.declared.word.Bit.{Bit}

abbrev or_else : {X : Type 0} → X → Option X → X
or_else x None = x
or_else x (Some y) = y

some_same : {X : Type 0} (x y : X) → Some x ≡ Some y → x ≡ y
some_same x y e = ap (or_else x) e

set_here : {X : Type 0} (xs : List X) (k : ℕ) (x y : X) → slice_get (slice_set xs k x) k ≡ Some y → x ≡ y
set_here [] k x y e = absurd (cc)
set_here (first ∷ more) zero x y e = some_same x y e
set_here (first ∷ more) (suc k) x y e = set_here more k x y e

set_elsewhere : {X : Type 0} (xs : List X) (k index : ℕ) (x : X) → (k == index) ≡ false → slice_get (slice_set xs k x) index ≡ slice_get xs index
set_elsewhere [] k index x e = refl
set_elsewhere (first ∷ more) zero zero x e = absurd (cc)
set_elsewhere (first ∷ more) zero (suc index) x e = refl
set_elsewhere (first ∷ more) (suc k) zero x e = refl
set_elsewhere (first ∷ more) (suc k) (suc index) x e = set_elsewhere more k index x (grind (arith, nat_tests))

scratch_set : (scratch : List (Option (List Bit))) (k cell : ℕ) (word : List Bit) (m : List (ℕ × ℕ))
    → ((index : ℕ) (known : List Bit) → slice_get scratch index ≡ Some (Some known) → word_in m index ≡ Some (word_number known cell))
    → (index : ℕ) (known : List Bit) → slice_get (slice_set scratch k (Some word)) index ≡ Some (Some known) → word_in ((k, word_number word cell) ∷ m) index ≡ Some (word_number known cell)
scratch_set scratch k cell word m are index known e =
    let cases : (b : Bool) → (k == index) ≡ b → word_in ((k, word_number word cell) ∷ m) index ≡ Some (word_number known cell) = elim [
      | true ↦ λ f.
          let here : k ≡ index = grind (arith, nat_tests) in
          let same : word ≡ known = some_same word known (set_here scratch k (Some word) (Some known) (ap (λ n. slice_get (slice_set scratch k (Some word)) n) here ∙ e)) in
          ap (λ b. if b then Some (word_number word cell) else word_in m index) f ∙ ap (λ (w : List Bit). Some (word_number w cell)) same
      | false ↦ λ f.
          ap (λ b. if b then Some (word_number word cell) else word_in m index) f ∙ are index known (sym (set_elsewhere scratch k index (Some word) f) ∙ e)
    ] in
    cases (k == index) refl

pub stored_follows : (i : Instr) (place : ℕ) (contents : Contents) (k : ℕ) (word : List Bit) → k < 16
    → (k < 16 → OnEach contents (λ cell a x m. Does cell i place a x m (At (place + 1) a x ((k, word_number word (octets_number cell)) ∷ m))))
    → IsFollowed i place contents (Continues (place + 1) (record contents { scratch = slice_set contents.scratch k (Some word) }))
stored_follows i place contents k word lt does = λ cell there a x m are. record {
  new_a = a;
  new_x = x;
  new_m = (k, word_number word (octets_number cell)) ∷ m;
  does = does lt cell there a x m are;
  contents = record { a_is = are.a_is; x_is = are.x_is; scratch = scratch_set contents.scratch k (octets_number cell) word m are.scratch };
}
