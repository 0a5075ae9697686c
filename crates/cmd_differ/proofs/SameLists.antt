-- Two lists in order that have the same members are the same.
use Rattle.std.proofs.Common.{◌≡◌, ℕ, zero, suc, ◌+◌, ◌*◌, ◌/◌, ◌%◌, ◌^◌, ◌<◌, List, [], ◌∷◌, length, get_or, ◌⊎◌, inl, inr, refl, sym, ap, subst, ◌∙◌, arith}
use Rattle.std.specs.List.{All, Contains}
use Rattle.std.proofs.lemmas.List.Elements.{All-contains}
use Rattle.std.proofs.lemmas.Nat.{div-mul-add, mod-mul-add}
use Rattle.rules_diagrams.specs.CellNumbers.{octets_number}
use Rattle.rules_diagrams.proofs.FieldBits.{AreOctets, octets_are, octets_below}
use Rattle.rules_cells.specs.Fields.{IsCell}

later_in : {X : Type 0} (x first : X) (more : List X) → Contains more x → Contains (first ∷ more) x
later_in x first more there = (suc there.0, omega (arith, there.1), there.2)

first_in : {X : Type 0} (first : X) (more : List X) → Contains (first ∷ more) first
first_in first more = (0, omega arith, refl)

cases_in : {X : Type 0} (x first : X) (more : List X) (k : ℕ) → k < length (first ∷ more) → get_or (first ∷ more) k x ≡ x → (first ≡ x) ⊎ Contains more x
cases_in x first more zero lt e = inl e
cases_in x first more (suc k) lt e = inr (k, omega arith, e)

module _ {X : Type 0} (key : X → ℕ) where
  -- Each element has a lesser key than those after it.
  abbrev pub IsAscendingBy : List X → Type 0
  IsAscendingBy [] = Unit {0}
  IsAscendingBy (x ∷ more) = All (λ (later : X). key x < key later) more × IsAscendingBy more

  above_first : (x y : X) (more : List X) → All (λ (later : X). key x < key later) more → Contains more y → key x < key y
  above_first x y more all there = All-contains (λ (later : X). key x < key later) more y all there

  same_first : (x y : X) (xs ys : List X) → IsAscendingBy (x ∷ xs) → IsAscendingBy (y ∷ ys) → Contains (y ∷ ys) x → Contains (x ∷ xs) y → x ≡ y
  same_first x y xs ys up also there back =
      elim (cases_in x y ys there.0 there.1 there.2) [
        | inl e ↦ sym e
        | inr later ↦ elim (cases_in y x xs back.0 back.1 back.2) [
          | inl e ↦ e
          | inr after ↦
              let one = above_first y x ys also.0 later in
              let two = above_first x y xs up.0 after in
              absurd (omega (arith, one, two))
        ]
      ]

  rest_in : (x y z : X) (xs ys : List X) → IsAscendingBy (x ∷ xs) → x ≡ y → Contains xs z → Contains (y ∷ ys) z → Contains ys z
  rest_in x y z xs ys up e there also =
      elim (cases_in z y ys also.0 also.1 also.2) [
        | inl f ↦
            let lt = above_first x z xs up.0 there in
            let same : key x ≡ key z = ap key (e ∙ f) in
            absurd (omega (arith, lt, same))
        | inr later ↦ later
      ]

  pub same_lists : (xs ys : List X) → IsAscendingBy xs → IsAscendingBy ys → ((x : X) → Contains xs x → Contains ys x) → ((y : X) → Contains ys y → Contains xs y) → xs ≡ ys
  same_lists [] [] up also to back = refl
  same_lists [] (y ∷ ys) up also to back = let bad = back y (first_in y ys) in absurd (omega (arith, bad.1))
  same_lists (x ∷ xs) [] up also to back = let bad = to x (first_in x xs) in absurd (omega (arith, bad.1))
  same_lists (x ∷ xs) (y ∷ ys) up also to back =
      let e : x ≡ y = same_first x y xs ys up also (to x (first_in x xs)) (back y (first_in y ys)) in
      let rest : xs ≡ ys = same_lists xs ys up.1 also.1
      (λ z there. rest_in x y z xs ys up e there (to z (later_in z x xs there)))
      (λ z there. rest_in y x z ys xs also (sym e) there (back z (later_in z y ys there))) in
      ap (λ (h : X). h ∷ xs) e ∙ ap (λ (t : List X). y ∷ t) rest

-- ---- cells with one number

same_octets : (xs ys : List ℕ) → AreOctets xs → AreOctets ys → length xs ≡ length ys → octets_number xs ≡ octets_number ys → xs ≡ ys
unfolding octets_number
same_octets [] [] are also long e = refl
same_octets [] (y ∷ ys) are also long e = absurd (omega (arith, long))
same_octets (x ∷ xs) [] are also long e = absurd (omega (arith, long))
same_octets (x ∷ xs) (y ∷ ys) are also long e =
    let long' : length xs ≡ length ys = omega (arith, long) in
    let power = 256 ^ length ys in
    let below : octets_number xs < power = subst (λ n. octets_number xs < 256 ^ n) long' (octets_below xs are.1) in
    let below' : octets_number ys < power = octets_below ys also.1 in
    let sum : x * power + octets_number xs ≡ y * power + octets_number ys = subst (λ n. x * 256 ^ n + octets_number xs ≡ y * power + octets_number ys) long' e in
    let first : x ≡ y = sym (div-mul-add x power (octets_number xs) below) ∙ (ap (λ n. n / power) sum ∙ div-mul-add y power (octets_number ys) below') in
    let rest : octets_number xs ≡ octets_number ys =
    sym (mod-mul-add x power (octets_number xs) below) ∙ (ap (λ n. n % power) sum ∙ mod-mul-add y power (octets_number ys) below') in
    ap (λ n. n ∷ xs) first ∙ ap (λ t. y ∷ t) (same_octets xs ys are.1 also.1 long' rest)

pub same_cell : (one other : List ℕ) → IsCell one → IsCell other → octets_number one ≡ octets_number other → one ≡ other
same_cell one other is also e = same_octets one other (octets_are one is.octets) (octets_are other also.octets) (is.whole ∙ sym also.whole) e
