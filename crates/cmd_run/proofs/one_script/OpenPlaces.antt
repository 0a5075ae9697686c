-- An open place below a bound: if the list's items have different places, all below it, there is one exactly if the
-- list is shorter than the bound.
use Rattle.std.proofs.Common.{◌≡◌, ◌≢◌, ℕ, zero, suc, ◌<◌, ◌≤◌, ◌==◌, Bool, true, false, cond, not, ◌||◌, List, [], ◌∷◌, length, nat_lt, refl, sym, ap, ◌∙◌, subst, arith}
use Rattle.std.specs.Bool.{⊤}
use Rattle.std.specs.List.{list_any, filter, AllByRecursion}
use Rattle.std.proofs.lemmas.Bool.{eqb-true, eqb-false, ne_eqb, or_parts, or_from, lt-ltb}
use Rattle.std.proofs.lemmas.Bool.Decides.{nat_tests}
use Rattle.card_core.specs.World.{any_below}

-- Tests that agree below the bound.
pub any-same : (bound : ℕ) (test other : ℕ → Bool) → ((place : ℕ) → place < bound → test place ≡ other place)
    → any_below bound test ≡ any_below bound other
any-same zero test other same = refl
any-same (suc bound) test other same =
    let rest = any-same bound test other (λ place within. same place (omega arith)) in
    let here = same bound (omega arith) in
    λ i. here i || rest i

module _ {X : Type 0} (key : X → ℕ) where
  -- Some item of the list has the place.
  abbrev pub is_taken : List X → ℕ → Bool
  is_taken items place = list_any (λ item. key item == place) items

  -- No two items of the list have the same place.
  abbrev pub AreApart : List X → Type 0
  AreApart [] = ⊤
  AreApart (item ∷ later) = (is_taken later (key item) ≡ false) × AreApart later

  -- All places are below the bound.
  abbrev pub AreBelow : ℕ → List X → Type 0
  AreBelow bound items = AllByRecursion (λ item. key item < bound) items

  -- A filtered list has no place that the whole list doesn't have.
  pub taken-filter : (test : X → Bool) (items : List X) (place : ℕ) → is_taken items place ≡ false → is_taken (filter test items) place ≡ false
  taken-filter test [] place none = refl
  taken-filter test (item ∷ later) place none =
      let parts = or_parts (key item == place) (is_taken later place) none in
      let rest = taken-filter test later place parts.1 in
      let choice : (b : Bool) → is_taken (cond b (item ∷ filter test later) (filter test later)) place ≡ false = elim [
        | true ↦ or_from (key item == place) (is_taken (filter test later) place) parts.0 rest
        | false ↦ rest
      ] in
      choice (test item)

  pub apart-filter : (test : X → Bool) (items : List X) → AreApart items → AreApart (filter test items)
  apart-filter test [] apart = tt
  apart-filter test (item ∷ later) apart =
      let rest = apart-filter test later apart.1 in
      let choice : (b : Bool) → AreApart (cond b (item ∷ filter test later) (filter test later)) = elim [
        | true ↦ (taken-filter test later (key item) apart.0, rest)
        | false ↦ rest
      ] in
      choice (test item)

  -- The list without the items at this place.
  abbrev elsewhere : ℕ → List X → List X
  elsewhere place items = filter (λ item. not (key item == place)) items

  -- It has every other place of the list.
  taken-elsewhere : (items : List X) (gone place : ℕ) → place ≢ gone → is_taken (elsewhere gone items) place ≡ is_taken items place
  taken-elsewhere [] gone place apart = refl
  taken-elsewhere (item ∷ later) gone place apart =
      let rest = taken-elsewhere later gone place apart in
      let choice : (b : Bool) → (key item == gone) ≡ b
      → is_taken (cond (not b) (item ∷ elsewhere gone later) (elsewhere gone later)) place ≡ is_taken (item ∷ later) place = elim [
        | true ↦ λ e.
            let other : (key item == place) ≡ false =
            ne_eqb (key item) place (λ same. apart (sym same ∙ eqb-true (key item) gone e)) in
            rest ∙ ap (λ b. b || is_taken later place) (sym other)
        | false ↦ λ e. ap (λ b. (key item == place) || b) rest
      ] in
      choice (key item == gone) refl

  -- If no item has the place, the list keeps its length.
  length-absent : (items : List X) (gone : ℕ) → is_taken items gone ≡ false → length (elsewhere gone items) ≡ length items
  length-absent [] gone none = refl
  length-absent (item ∷ later) gone none =
      let parts = or_parts (key item == gone) (is_taken later gone) none in
      ap (λ b. length (cond (not b) (item ∷ elsewhere gone later) (elsewhere gone later))) parts.0
      ∙ ap suc (length-absent later gone parts.1)

  -- If an item has the place, the list gets shorter by one.
  length-elsewhere : (items : List X) (gone : ℕ) → AreApart items → is_taken items gone ≡ true
      → length items ≡ suc (length (elsewhere gone items))
  length-elsewhere [] gone apart some = absurd (cc)
  length-elsewhere (item ∷ later) gone apart some =
      let choice : (b : Bool) → (key item == gone) ≡ b → (b || is_taken later gone) ≡ true
      → suc (length later) ≡ suc (length (cond (not b) (item ∷ elsewhere gone later) (elsewhere gone later))) = elim [
        | true ↦ λ e some.
            let none : is_taken later gone ≡ false =
            subst (λ place. is_taken later place ≡ false) (eqb-true (key item) gone e) apart.0 in
            ap suc (sym (length-absent later gone none))
        | false ↦ λ e some. ap suc (length-elsewhere later gone apart.1 some)
      ] in
      choice (key item == gone) refl some

  -- Without the items at the last place, all places are below the next smaller bound.
  below-elsewhere : (items : List X) (bound : ℕ) → AreBelow (suc bound) items → AreBelow bound (elsewhere bound items)
  below-elsewhere [] bound below = tt
  below-elsewhere (item ∷ later) bound below =
      let rest = below-elsewhere later bound below.1 in
      let here = below.0 in
      let choice : (b : Bool) → (key item == bound) ≡ b
      → AreBelow bound (cond (not b) (item ∷ elsewhere bound later) (elsewhere bound later)) = elim [
        | true ↦ λ e. rest
        | false ↦ λ e. let apart = eqb-false (key item) bound e in (omega (arith, apart), rest)
      ] in
      choice (key item == bound) refl

  -- A place is open if no item of the list has it.
  abbrev pub is_open : List X → ℕ → Bool
  is_open items place = not (is_taken items place)

  -- There are no more items than places, and there is an open place exactly if there are fewer.
  pub record Counts (bound : ℕ) (items : List X) : Type 0 where
    pub most : length items ≤ bound
    pub some : any_below bound (is_open items) ≡ nat_lt (length items) bound

  less-by_one : (a b c : ℕ) → a ≡ suc c → nat_lt c b ≡ nat_lt a (suc b)
  less-by_one a b c e = grind (arith, nat_tests)

  pub open-place : (bound : ℕ) (items : List X) → AreApart items → AreBelow bound items → Counts bound items
  open-place zero [] apart below = record { most = omega arith; some = refl }
  open-place zero (item ∷ later) apart below = let here = below.0 in absurd (omega (arith, here))
  open-place (suc bound) items apart below =
      let left = elsewhere bound items in
      let rest = open-place bound left (apart-filter (λ item. not (key item == bound)) items apart) (below-elsewhere items bound below) in
      let same : any_below bound (is_open items) ≡ any_below bound (is_open left) =
      any-same bound (is_open items) (is_open left)
      (λ place within. ap not (sym (taken-elsewhere items bound place (λ e. omega arith)))) in
      let choice : (b : Bool) → is_taken items bound ≡ b → Counts (suc bound) items = elim [
        | true ↦ λ e.
            let longer = length-elsewhere items bound apart e in
            record {
              most = omega (arith, longer, rest.most);
              some = ap (λ b. not b || any_below bound (is_open items)) e ∙ same ∙ rest.some
                  ∙ less-by_one (length items) bound (length left) longer;
            }
        | false ↦ λ e.
            let equal = length-absent items bound e in
            let most : length items ≤ bound = omega (arith, equal, rest.most) in
            record {
              most = omega (arith, most);
              some = ap (λ b. not b || any_below bound (is_open items)) e ∙ sym (lt-ltb (length items) (suc bound) (omega (arith, most)));
            }
      ] in
      choice (is_taken items bound) refl
