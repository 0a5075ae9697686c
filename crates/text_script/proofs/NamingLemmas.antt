-- The place of a program's latest name among all names.
use Rattle.std.proofs.Common.{◌≡◌, ℕ, ◌+◌, ◌-◌, ◌<◌, ◌≤◌, true, false, if◌then◌else◌, List, [], ◌∷◌, ◌++◌, Some, length, get_or, take, drop, slice_get, refl, inl, inr, ap, sym, ◌∙◌, subst, arith}
use Rattle.std.specs.Prelude.{◌⊎◌, ◌&&◌, Bool, slice_set, suc, zero}
use Rattle.std.specs.Global.{Vec}
use Rattle.std.proofs.lemmas.List.{length-take-le, take-append-drop}
use Rattle.std.proofs.lemmas.Bool.{cases_eq}
use Rattle.std.proofs.lemmas.Option.{get_or_from_slice_get, same_Some, slice_get_within}
use Rattle.std.proofs.Math.Seq.{take-length, take-suc}
use Rattle.gen_arena.proofs.Public.{id_differs, id_itself, slice_get-set_same, slice_get-set_other}
use Rattle.gen_arena.specs.SameId.{is_same_id}
use Rattle.gen_arena.specs.declared.id.Id.{Id}
use Rattle.text_script.specs.ProgramNames.{latest_number, number_of_program}
use Rattle.text_script.specs.inner.Naming.{ArePlaced, IsPlaceOf}

-- One name more.
latest-push : (id last : Id) (found next : ℕ) (ids : List Id)
    → latest_number id found next (ids ++ last ∷ []) ≡ (if is_same_id id last then next + length ids else latest_number id found next ids)
latest-push id last found next [] = ap (λ n. if is_same_id id last then n else found) (omega arith)
latest-push id last found next (here ∷ later) =
    latest-push id last (if is_same_id id here then next else found) (suc next) later
    ∙ ap (λ n. if is_same_id id last then n else latest_number id found next (here ∷ later)) (omega arith)

pub number-push : (id last : Id) (ids : List Id)
    → number_of_program (ids ++ last ∷ []) id ≡ (if is_same_id id last then suc (length ids) else number_of_program ids id)
number-push id last ids =
    latest-push id last 0 1 ids ∙ ap (λ n. if is_same_id id last then n else number_of_program ids id) (omega arith)

-- If none of the ids is this one, the found number remains.
none-here : (id : Id) (found next : ℕ) (ids : List Id)
    → ((place : ℕ) (here : Id) → slice_get ids place ≡ Some here → is_same_id id here ≡ false) → latest_number id found next ids ≡ found
none-here id found next [] none = refl
none-here id found next (here ∷ later) none =
    ap (λ b. latest_number id (if b then next else found) (suc next) later) (none 0 here refl)
    ∙ none-here id found (suc next) later (λ place other e. none (suc place) other e)

-- Ids after others.
split : (id : Id) (found next : ℕ) (ids later : List Id)
    → latest_number id found next (ids ++ later) ≡ latest_number id (latest_number id found next ids) (next + length ids) later
split id found next [] later = ap (λ n. latest_number id found n later) (omega arith)
split id found next (here ∷ ids) later =
    split id (if is_same_id id here then next else found) (suc next) ids later
    ∙ ap (λ n. latest_number id (latest_number id found next (here ∷ ids)) n later) (omega arith)

got-drop : {X : Type 0} → (xs : List X) (count place : ℕ) (x : X) → slice_get (drop count xs) place ≡ Some x → slice_get xs (count + place) ≡ Some x
got-drop xs zero place x e =
    let same : 0 + place ≡ place = omega arith in ap (λ n. slice_get xs n) same ∙ e
got-drop [] (suc count) place x e = e
got-drop (here ∷ later) (suc count) place x e =
    let same : suc count + place ≡ suc (count + place) = omega arith in
    ap (λ n. slice_get (here ∷ later) n) same ∙ got-drop later count place x e

-- No id from this place on is this one.
abbrev pub NoneFrom : List Id → Id → ℕ → Type 0
NoneFrom ids id number = (place : ℕ) (here : Id) → number ≤ place → slice_get ids place ≡ Some here → is_same_id id here ≡ false

-- Then the ids from there on don't change the program's number.
number-below : (ids : List Id) (id : Id) (number : ℕ) → NoneFrom ids id number
    → number_of_program (take number ids) id ≡ number_of_program ids id
number-below ids id number none =
    let whole : take number ids ++ drop number ids ≡ ids = take-append-drop number ids in
    sym (ap (λ xs. number_of_program xs id) (sym whole)
    ∙ split id 0 1 (take number ids) (drop number ids)
    ∙ none-here id (number_of_program (take number ids) id) (1 + length (take number ids)) (drop number ids)
    (λ place here e. none (number + place) here (omega arith) (got-drop ids number place here e)))

-- The program's latest name isn't above this number.
pub record NotAbove (ids : List Id) (id : Id) (number : ℕ) : Type 0 where
  pub within : number ≤ length ids
  pub below : number_of_program (take number ids) id ≡ number_of_program ids id

pub not-above-all : (ids : List Id) (id : Id) → NotAbove ids id (length ids)
not-above-all ids id = record { within = omega arith; below = ap (λ xs. number_of_program xs id) (take-length ids) }

-- The name with this number, after those before it.
last-of : (ids : List Id) (id here : Id) (number : ℕ) → 0 < number → number ≤ length ids → here ≡ get_or ids (number - 1) here
    → number_of_program (take number ids) id ≡ (if is_same_id id here then number else number_of_program (take (number - 1) ids) id)
last-of ids id here number some within is =
    let next : suc (number - 1) ≡ number = omega arith in
    let before = take (number - 1) ids in
    let long : length before ≡ number - 1 = length-take-le (number - 1) ids (omega arith) in
    ap (λ n. number_of_program (take n ids) id) (sym next)
    ∙ ap (λ xs. number_of_program xs id) (take-suc ids (number - 1) here (omega arith) ∙ ap (λ x. before ++ x ∷ []) (sym is))
    ∙ number-push id here before
    ∙ ap (λ n. if is_same_id id here then n else number_of_program before id) (ap suc long ∙ next)

pub found-here : (ids : List Id) (id here : Id) (number : ℕ) → 0 < number → NotAbove ids id number
    → here ≡ get_or ids (number - 1) here → is_same_id id here ≡ true → number ≡ number_of_program ids id
found-here ids id here number some above is same =
    ap (λ b. if b then number else number_of_program (take (number - 1) ids) id) (sym same)
    ∙ sym (last-of ids id here number some above.within is) ∙ above.below

pub not-here : (ids : List Id) (id here : Id) (number : ℕ) → 0 < number → NotAbove ids id number
    → here ≡ get_or ids (number - 1) here → is_same_id id here ≡ false → NotAbove ids id (number - 1)
not-here ids id here number some above is other = record {
  within = let known = above.within in omega arith;
  below =
      ap (λ b. if b then number else number_of_program (take (number - 1) ids) id) (sym other)
      ∙ sym (last-of ids id here number some above.within is) ∙ above.below;
}

-- An id has at most one place under its slot and generation.
pub one-place : (places : List (Vec ℕ)) (id : Id) (place other : ℕ) → IsPlaceOf places id place → IsPlaceOf places id other → place ≡ other
one-place places id place other first second =
    let same : first.of_slot ≡ second.of_slot = let one = first.there in let two = second.there in cc in
    let here : slice_get first.of_slot.items (id.generation - 1) ≡ Some place = first.here in
    let there : slice_get first.of_slot.items (id.generation - 1) ≡ Some other =
    ap (λ (it : Vec ℕ). slice_get it.items (id.generation - 1)) same ∙ second.here in
    cc

-- If the id at its place is this one, the program's number is one more: it is nowhere else.
pub number-of-place : (ids : List Id) (places : List (Vec ℕ)) (id : Id) (place : ℕ) → ArePlaced ids places → IsPlaceOf places id place
    → slice_get ids place ≡ Some id → place + 1 ≡ number_of_program ids id
number-of-place ids places id place are is here =
    let within : place < length ids = slice_get_within ids place id here in
    let none : NoneFrom ids id (place + 1) = λ other it above e. id_differs id it (λ same.
    let there : slice_get ids other ≡ Some id = e ∙ ap (λ (x : Id). Some x) (sym same) in
    let equal : place ≡ other = one-place places id place other is (are other id there) in omega arith) in
    let at : place + 1 - 1 ≡ place = omega arith in
    found-here ids id id (place + 1) (omega arith)
    (record { within = omega arith; below = number-below ids id (place + 1) none })
    (sym (ap (λ n. get_or ids n id) at ∙ get_or_from_slice_get ids place id id here)) (id_itself id)

-- If the id isn't at its place, or it has none, the program has no name.
pub no-number : (ids : List Id) (places : List (Vec ℕ)) (id : Id) → ArePlaced ids places
    → ((place : ℕ) → IsPlaceOf places id place → slice_get ids place ≡ Some id → ⊥) → 0 ≡ number_of_program ids id
no-number ids places id are nowhere = sym (none-here id 0 1 ids (λ place here e. id_differs id here (λ same.
    let there : slice_get ids place ≡ Some id = e ∙ ap (λ (x : Id). Some x) (sym same) in
    nowhere place (are place id there) there)))

-- A list with more at its end has the same values at the same places, and the first of the others after them.
got-more : {X : Type 0} → (xs more : List X) (k : ℕ) (x : X) → slice_get xs k ≡ Some x → slice_get (xs ++ more) k ≡ Some x
got-more [] more k x e = absurd (cc)
got-more (y ∷ xs) more zero x e = e
got-more (y ∷ xs) more (suc k) x e = got-more xs more k x e

got-last : {X : Type 0} → (xs : List X) (x : X) → slice_get (xs ++ x ∷ []) (length xs) ≡ Some x
got-last [] x = refl
got-last (y ∷ xs) x = got-last xs x

-- Where the places of a slot are replaced by others that have each of them, each id has its place.
pub place-kept : (places : List (Vec ℕ)) (slot : ℕ) (old new : Vec ℕ) → slice_get places slot ≡ Some old
    → ((k n : ℕ) → slice_get old.items k ≡ Some n → slice_get new.items k ≡ Some n)
    → (id : Id) (place : ℕ) → IsPlaceOf places id place → IsPlaceOf (slice_set places slot new) id place
place-kept places slot old new was keeps id place is = elim (cases_eq id.slot slot) [
  | inl same ↦
      let there : slice_get places slot ≡ Some is.of_slot = ap (λ k. slice_get places k) (sym same) ∙ is.there in
      let own : is.of_slot ≡ old = same_Some is.of_slot old (sym there ∙ was) in
      let now : slice_get (slice_set places slot new) slot ≡ Some new = slice_get-set_same places slot new (slice_get_within places slot old was) in
      record {
        of_slot = new;
        there = ap (λ k. slice_get (slice_set places slot new) k) same ∙ now;
        counted = is.counted;
        here = keeps (id.generation - 1) place (ap (λ (it : Vec ℕ). slice_get it.items (id.generation - 1)) (sym own) ∙ is.here);
      }
  | inr apart ↦
      record {
        of_slot = is.of_slot;
        there = slice_get-set_other places slot id.slot new apart ∙ is.there;
        counted = is.counted;
        here = is.here;
      }
]

-- With one place more at the end of those of its slot, each id has its place.
pub place-kept-by-push : (places : List (Vec ℕ)) (slot : ℕ) (old new : Vec ℕ) (more : List ℕ) → slice_get places slot ≡ Some old
    → new.items ≡ old.items ++ more → (id : Id) (place : ℕ) → IsPlaceOf places id place → IsPlaceOf (slice_set places slot new) id place
place-kept-by-push places slot old new more was longer id place is =
    place-kept places slot old new was (λ k n e. ap (λ xs. slice_get xs k) longer ∙ got-more old.items more k n e) id place is

-- The place at the end of those of its slot is the id's, if their number is the generation before its own.
pub place-put : (places : List (Vec ℕ)) (old new : Vec ℕ) (id : Id) (place : ℕ) → slice_get places id.slot ≡ Some old
    → new.items ≡ old.items ++ place ∷ [] → id.generation ≡ length old.items + 1 → IsPlaceOf (slice_set places id.slot new) id place
place-put places old new id place was longer next =
    let before : id.generation - 1 ≡ length old.items = omega arith in
    record {
      of_slot = new;
      there = slice_get-set_same places id.slot new (slice_get_within places id.slot old was);
      counted = omega arith;
      here = ap (λ xs. slice_get xs (id.generation - 1)) longer ∙ ap (λ k. slice_get (old.items ++ place ∷ []) k) before ∙ got-last old.items place;
    }

-- An id of a list with one more at its end is in the list or is the last.
pushed-get : {X : Type 0} → (xs : List X) (last : X) (place : ℕ) (x : X) → slice_get (xs ++ last ∷ []) place ≡ Some x
    → (slice_get xs place ≡ Some x) ⊎ ((place ≡ length xs) × (x ≡ last))
pushed-get [] last zero x e = let same : Some last ≡ Some x = e in inr (refl, cc)
pushed-get [] last (suc place) x e = absurd (cc)
pushed-get (here ∷ later) last zero x e = inl e
pushed-get (here ∷ later) last (suc place) x e = elim (pushed-get later last place x e) [
  | inl old ↦ inl old
  | inr new ↦ inr (ap suc new.0, new.1)
]

pub both-true : (one other : Bool) → (one && other) ≡ true → (one ≡ true) × (other ≡ true)
both-true true other e = (refl, e)
both-true false other e = absurd (cc)

-- One id more, whose place was put under its slot and generation.
pub placed-push : (ids : List Id) (last : Id) (places : List (Vec ℕ)) → ArePlaced ids places → IsPlaceOf places last (length ids)
    → ArePlaced (ids ++ last ∷ []) places
placed-push ids last places are is place id got =
    elim (pushed-get ids last place id got) [
      | inl old ↦ are place id old
      | inr new ↦
          let it : last ≡ id = sym new.1 in
          let at : length ids ≡ place = sym new.0 in
          subst (λ (other : Id). IsPlaceOf places other place) it (subst (λ (n : ℕ). IsPlaceOf places last n) at is)
    ]

-- Places that were under their slots and generations before still are.
pub placed-kept : (ids : List Id) (before after : List (Vec ℕ)) → ((id : Id) (place : ℕ) → IsPlaceOf before id place → IsPlaceOf after id place)
    → ArePlaced ids before → ArePlaced ids after
placed-kept ids before after keeps are place id got = keeps id place (are place id got)
