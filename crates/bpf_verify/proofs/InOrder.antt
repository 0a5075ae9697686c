-- A path lists its places with the latest first; a walk lists the same places in order.
use Rattle.std.proofs.Common.{◌≡◌, ℕ, ◌+◌, ◌<◌, inl, inr, List, [], ◌∷◌, ◌++◌, length, Some, Any, slice_get, refl, sym, ap, subst, ◌∙◌, arith, length-append, reverse}
use Rattle.std.proofs.lemmas.List.{reverse-append}
use Rattle.std.proofs.lemmas.Bool.{cases_lt}
use Rattle.std.proofs.lemmas.Option.{same_Some, slice_get_within}
use Rattle.bpf_code.specs.declared.instr.Instr.{Instr}
use Rattle.bpf_code.specs.Flow.{IsSuccessor}
use Rattle.bpf_verify.specs.Paths.{IsPath, IsWrittenAt, Stores}
use Rattle.bpf_verify.specs.Walks.{IsWalk, IsWrittenOnEveryWalk}
use Rattle.bpf_verify.proofs.Places.{slice_get-append_left, slice_get-append_last, any_split, any_append_left, any_append_last}

-- The places in reverse order.
in_order : List ℕ → List ℕ
in_order [] = []
in_order (x ∷ xs) = in_order xs ++ x ∷ []

in_order-push : (xs : List ℕ) (y : ℕ) → in_order (xs ++ y ∷ []) ≡ y ∷ in_order xs
unfolding in_order
in_order-push [] y = refl
in_order-push (x ∷ xs) y = ap (λ l. l ++ x ∷ []) (in_order-push xs y)

in_order-in_order : (xs : List ℕ) → in_order (in_order xs) ≡ xs
unfolding in_order
in_order-in_order [] = refl
in_order-in_order (x ∷ xs) = in_order-push (in_order xs) x ∙ ap (λ l. x ∷ l) (in_order-in_order xs)

any_in_order : (P : ℕ → Type 0) (xs : List ℕ) → Any P xs → Any P (in_order xs)
unfolding in_order
any_in_order P [] h = h
any_in_order P (x ∷ xs) h =
    elim (any_split P x xs h) [ inl p ↦ any_append_last P (in_order xs) x p | inr q ↦ any_append_left P (in_order xs) (x ∷ []) (any_in_order P xs q) ]

-- A walk can be extended by a successor of its last place.
walk_further : (code : List Instr) (xs : List ℕ) (a b : ℕ) → IsWalk code (xs ++ a ∷ []) → IsSuccessor code a b → IsWalk code ((xs ++ a ∷ []) ++ b ∷ [])
walk_further code xs a b walk s =
    let n : length (xs ++ a ∷ []) ≡ length xs + 1 = length-append xs (a ∷ []) in
    record {
      begins = slice_get-append_left (xs ++ a ∷ []) (b ∷ []) 0 (omega arith) ∙ walk.begins;
      follows = λ k here next p q. elim (cases_lt (k + 1) (length (xs ++ a ∷ []))) [
        | inl lt ↦ walk.follows k here next
            (sym (slice_get-append_left (xs ++ a ∷ []) (b ∷ []) k (omega arith)) ∙ p)
            (sym (slice_get-append_left (xs ++ a ∷ []) (b ∷ []) (k + 1) lt) ∙ q)
        | inr ge ↦
            let within : k + 1 < length ((xs ++ a ∷ []) ++ b ∷ []) = slice_get_within _ _ _ q in
            let m : length ((xs ++ a ∷ []) ++ b ∷ []) ≡ length (xs ++ a ∷ []) + 1 = length-append (xs ++ a ∷ []) (b ∷ []) in
            let last : k + 1 ≡ length (xs ++ a ∷ []) = omega arith in
            let before : k ≡ length xs = omega arith in
            let is_b : next ≡ b = same_Some next b (sym q ∙ (ap (λ j. slice_get ((xs ++ a ∷ []) ++ b ∷ []) j) last ∙ slice_get-append_last (xs ++ a ∷ []) b)) in
            let is_a : here ≡ a = same_Some here a (sym p ∙ (slice_get-append_left (xs ++ a ∷ []) (b ∷ []) k (omega arith) ∙ (ap (λ j. slice_get (xs ++ a ∷ []) j) before ∙ slice_get-append_last xs a))) in
            subst (λ x. IsSuccessor code x next) (sym is_a) (subst (λ y. IsSuccessor code a y) (sym is_b) s)
      ];
    }

-- A walk without its last place is a walk, and its last step leads to a successor.
walk_before : (code : List Instr) (xs : List ℕ) (a b : ℕ) → IsWalk code ((xs ++ a ∷ []) ++ b ∷ []) → IsWalk code (xs ++ a ∷ []) × IsSuccessor code a b
walk_before code xs a b walk =
    let n : length (xs ++ a ∷ []) ≡ length xs + 1 = length-append xs (a ∷ []) in (
      record {
        begins = sym (slice_get-append_left (xs ++ a ∷ []) (b ∷ []) 0 (omega arith)) ∙ walk.begins;
        follows = λ k here next p q.
            let within : k + 1 < length (xs ++ a ∷ []) = slice_get_within _ _ _ q in
            walk.follows k here next
            (slice_get-append_left (xs ++ a ∷ []) (b ∷ []) k (omega arith) ∙ p)
            (slice_get-append_left (xs ++ a ∷ []) (b ∷ []) (k + 1) within ∙ q);
      },
      walk.follows (length xs) a b
          (slice_get-append_left (xs ++ a ∷ []) (b ∷ []) (length xs) (omega arith) ∙ slice_get-append_last xs a)
          (ap (λ j. slice_get ((xs ++ a ∷ []) ++ b ∷ []) j) (sym n) ∙ slice_get-append_last (xs ++ a ∷ []) b),
    )

walk-from_path : (code : List Instr) (passed : List ℕ) (place : ℕ) → IsPath code passed place → IsWalk code (in_order passed ++ place ∷ [])
unfolding in_order
walk-from_path code [] place path = record {
  begins = ap Some path;
  follows = λ k here next p q. absurd (let within : k + 1 < 1 = slice_get_within (place ∷ []) (k + 1) next q in omega arith);
}
walk-from_path code (latest ∷ passed) place path =
    walk_further code (in_order passed) latest place (walk-from_path code passed latest path.0) path.1

path-from_walk : (code : List Instr) (passed : List ℕ) (place : ℕ) → IsWalk code (in_order passed ++ place ∷ []) → IsPath code passed place
unfolding in_order
path-from_walk code [] place walk = same_Some place 0 walk.begins
path-from_walk code (latest ∷ passed) place walk =
    let parts = walk_before code (in_order passed) latest place walk in
    (path-from_walk code passed latest parts.0, parts.1)

in_order-reverse : (xs : List ℕ) → in_order xs ≡ reverse xs
unfolding in_order
in_order-reverse [] = refl
in_order-reverse (x ∷ xs) = ap (λ l. l ++ x ∷ []) (in_order-reverse xs) ∙ sym (reverse-append (x ∷ []) xs)

pub path_is_walk : (code : List Instr) (passed : List ℕ) (place : ℕ) → IsPath code passed place → IsWalk code (reverse passed ++ place ∷ [])
path_is_walk code passed place path =
    subst (λ l. IsWalk code (l ++ place ∷ [])) (in_order-reverse passed) (walk-from_path code passed place path)

pub walk_is_path : (code : List Instr) (passed : List ℕ) (place : ℕ) → IsWalk code (reverse passed ++ place ∷ []) → IsPath code passed place
walk_is_path code passed place walk =
    path-from_walk code passed place (subst (λ l. IsWalk code (l ++ place ∷ [])) (sym (in_order-reverse passed)) walk)

-- The scratch check over paths is equivalent to the scratch check over walks.
pub walks-from_paths : (code : List Instr) → ((place : ℕ) → IsWrittenAt code place) → IsWrittenOnEveryWalk code
walks-from_paths code written earlier last word walk reads =
    let path : IsPath code (in_order earlier) last = path-from_walk code (in_order earlier) last (subst (λ l. IsWalk code (l ++ last ∷ [])) (sym (in_order-in_order earlier)) walk) in
    subst (λ l. Any (Stores code word) l) (in_order-in_order earlier) (any_in_order (Stores code word) (in_order earlier) (written last word (in_order earlier) path reads))

pub paths-from_walks : (code : List Instr) → IsWrittenOnEveryWalk code → (place : ℕ) → IsWrittenAt code place
paths-from_walks code written place word passed path reads =
    subst (λ l. Any (Stores code word) l) (in_order-in_order passed) (any_in_order (Stores code word) (in_order passed) (written (in_order passed) place word (walk-from_path code passed place path) reads))
