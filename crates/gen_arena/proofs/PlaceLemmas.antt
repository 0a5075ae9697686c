-- Lemmas on the boxes of a block, the places in them, and their slots.
use Rattle.std.proofs.Common.{◌≡◌, ◌≢◌, ℕ, zero, suc, ◌+◌, ◌<◌, ◌≤◌, List, [], ◌∷◌, map, length, set, get_or, replicate, Option, Some, None, IsSome, refl, sym, ap, ◌∙◌, subst, inl, inr, arith, length-set}
use Rattle.std.specs.Prelude.{slice_get}
use Rattle.std.proofs.lemmas.Bool.{cases_eq, cases_lt}
use Rattle.std.proofs.lemmas.List.{length-replicate}
use Rattle.gen_arena.specs.Slot.{empty_slot}
use Rattle.gen_arena.specs.inner.Boxes.{BoxHolds, IsFilledTo}
use Rattle.gen_arena.specs.inner.PlaceRow.{no_place, place_in, places_in, place_at, fresh_place, AreFresh, IsRow, PlaceRowView}
use Rattle.gen_arena.specs.inner.Chain.{slot_of}
use Rattle.gen_arena.specs.declared.place.Place.{Place}

module _ {X : Type 0} where
  pub get_or-set_same : (xs : List X) (k : ℕ) (x d : X) → k < length xs → get_or (set xs k x) k d ≡ x
  get_or-set_same [] k x d within = absurd (omega arith)
  get_or-set_same (y ∷ xs) zero x d within = refl
  get_or-set_same (y ∷ xs) (suc k) x d within = get_or-set_same xs k x d (omega arith)

  pub get_or-set_other : (xs : List X) (k j : ℕ) (x d : X) → j ≢ k → get_or (set xs k x) j d ≡ get_or xs j d
  get_or-set_other [] k j x d apart = refl
  get_or-set_other (y ∷ xs) zero zero x d apart = absurd (apart refl)
  get_or-set_other (y ∷ xs) zero (suc j) x d apart = refl
  get_or-set_other (y ∷ xs) (suc k) zero x d apart = refl
  get_or-set_other (y ∷ xs) (suc k) (suc j) x d apart = get_or-set_other xs k j x d (λ e. apart (ap suc e))

module _ {X : Type 0} where
  -- Overwriting a box that has a value.
  pub IsFilledTo-set : (boxes : List (Option X)) (count k : ℕ) (x : X) → k < count → IsFilledTo boxes count → IsFilledTo (set boxes k (Some x)) count
  IsFilledTo-set boxes count k x below filled =
      let there : k < length boxes = omega (arith, below, filled.within) in
      record {
        within = let long = length-set boxes k (Some x) in omega (arith, long, filled.within);
        held = λ j within. elim (cases_eq j k) [
          | inl same ↦
              (x, ap (λ i. get_or (set boxes k (Some x)) i None) same ∙ get_or-set_same boxes k (Some x) None there)
          | inr differs ↦
              let holds = filled.held j within in
              (holds.0, get_or-set_other boxes k j (Some x) None differs ∙ holds.1)
        ];
        blank = λ j least.
            let differs : j ≢ k = omega (arith, least, below) in
            get_or-set_other boxes k j (Some x) None differs ∙ filled.blank j least;
      }

  -- Writing to the first blank box.
  pub IsFilledTo-next : (boxes : List (Option X)) (count : ℕ) (x : X) → count < length boxes → IsFilledTo boxes count → IsFilledTo (set boxes count (Some x)) (count + 1)
  IsFilledTo-next boxes count x there filled =
      record {
        within = let long = length-set boxes count (Some x) in omega (arith, long, there);
        held = λ j within. elim (cases_eq j count) [
          | inl same ↦
              (x, ap (λ i. get_or (set boxes count (Some x)) i None) same ∙ get_or-set_same boxes count (Some x) None there)
          | inr differs ↦
              let holds = filled.held j (omega (arith, within, differs)) in
              (holds.0, get_or-set_other boxes count j (Some x) None differs ∙ holds.1)
        ];
        blank = λ j least.
            let differs : j ≢ count = omega (arith, least) in
            get_or-set_other boxes count j (Some x) None differs ∙ filled.blank j (omega (arith, least));
      }

  get_or-set_none : (boxes : List (Option X)) (k : ℕ) → get_or (set boxes k None) k None ≡ None
  get_or-set_none [] k = refl
  get_or-set_none (box ∷ later) zero = refl
  get_or-set_none (box ∷ later) (suc k) = get_or-set_none later k

  -- Boxes that are all blank.
  pub all_blank : (boxes : List (Option X)) (count : ℕ) → length boxes ≡ count → ((k : ℕ) → k < count → get_or boxes k None ≡ None) → boxes ≡ replicate count None
  all_blank [] zero long blank = refl
  all_blank [] (suc count) long blank = absurd (omega (arith, long))
  all_blank (box ∷ later) zero long blank = absurd (omega (arith, long))
  all_blank (box ∷ later) (suc count) long blank =
      let first : box ≡ None = blank 0 (omega arith) in
      let rest : later ≡ replicate count None = all_blank later count (omega (arith, long)) (λ k below. blank (suc k) (omega (arith, below))) in
      ap (λ c. c ∷ later) first ∙ ap (λ cs. None ∷ cs) rest

  -- Of boxes of which the first `count` had values, those below k are blank again.
  pub record ClearedTo (boxes : List (Option X)) (room count k : ℕ) : Type 0 where
    pub long : length boxes ≡ room
    pub blank : (j : ℕ) → j < k → get_or boxes j None ≡ None
    pub held : (j : ℕ) → k ≤ j → j < count → BoxHolds boxes j
    pub later : (j : ℕ) → count ≤ j → get_or boxes j None ≡ None

  pub ClearedTo-first : (boxes : List (Option X)) (count : ℕ) → IsFilledTo boxes count → ClearedTo boxes (length boxes) count 0
  ClearedTo-first boxes count filled = record {
    long = refl;
    blank = λ j below. absurd (omega (arith, below));
    held = λ j least below. filled.held j below;
    later = filled.blank;
  }

  pub ClearedTo-next : (boxes : List (Option X)) (room count k : ℕ) → k < count → ClearedTo boxes room count k → ClearedTo (set boxes k None) room count (k + 1)
  ClearedTo-next boxes room count k within cleared =
      record {
        long = length-set boxes k None ∙ cleared.long;
        blank = λ j below. elim (cases_eq j k) [
          | inl same ↦ ap (λ i. get_or (set boxes k None) i None) same ∙ get_or-set_none boxes k
          | inr differs ↦ get_or-set_other boxes k j None None differs ∙ cleared.blank j (omega (arith, below, differs))
        ];
        held = λ j least below.
            let differs : j ≢ k = omega (arith, least) in
            let holds = cleared.held j (omega (arith, least)) below in
            (holds.0, get_or-set_other boxes k j None None differs ∙ holds.1);
        later = λ j least.
            let differs : j ≢ k = omega (arith, least, within) in
            get_or-set_other boxes k j None None differs ∙ cleared.later j least;
      }

  pub ClearedTo-last : (boxes : List (Option X)) (room count : ℕ) → ClearedTo boxes room count count → boxes ≡ replicate room None
  ClearedTo-last boxes room count cleared =
      all_blank boxes room cleared.long (λ k below. elim (cases_lt k count) [
        | inl within ↦ cleared.blank k within
        | inr past ↦ cleared.later k past
      ])

  pub blank_row : (count j : ℕ) → get_or (replicate count (let none : Option X = None in none)) j None ≡ None
  blank_row zero j = refl
  blank_row (suc count) zero = refl
  blank_row (suc count) (suc j) = blank_row count j

module _ {T : Type 0} where
  pub length-places_in : (used j : ℕ) (boxes : List (Option (Place T))) → length (places_in used j boxes) ≡ length boxes
  length-places_in used j [] = refl
  length-places_in used j (box ∷ later) = ap suc (length-places_in used (j + 1) later)

  -- The place of a box.
  place_at-box : (used j : ℕ) (boxes : List (Option (Place T))) (k : ℕ) → k < length boxes → place_at (places_in used j boxes) k ≡ place_in used (j + k) (get_or boxes k None)
  place_at-box used j [] k within = absurd (omega (arith, within))
  place_at-box used j (box ∷ later) zero within =
      let same : j ≡ j + 0 = omega arith in
      ap (λ n. place_in used n box) same
  place_at-box used j (box ∷ later) (suc k) within =
      let same : j + 1 + k ≡ j + suc k = omega arith in
      place_at-box used (j + 1) later k (omega (arith, within)) ∙ ap (λ n. place_in used n (get_or later k None)) same

  past_the_last : (used j : ℕ) (boxes : List (Option (Place T))) (k : ℕ) → length boxes ≤ k → place_at (places_in used j boxes) k ≡ no_place
  past_the_last used j [] k past = refl
  past_the_last used j (box ∷ later) zero past = absurd (omega (arith, past))
  past_the_last used j (box ∷ later) (suc k) past = past_the_last used (j + 1) later k (omega (arith, past))

  within_boxes : (boxes : List (Option (Place T))) (k : ℕ) (place : Place T) → get_or boxes k None ≡ Some place → k < length boxes
  within_boxes [] k place held = absurd (cc)
  within_boxes (box ∷ later) zero place held = omega arith
  within_boxes (box ∷ later) (suc k) place held = let within = within_boxes later k place held in omega (arith, within)

  pub place_at-held : (used : ℕ) (boxes : List (Option (Place T))) (k : ℕ) (place : Place T) → get_or boxes k None ≡ Some place → place_at (places_in used 0 boxes) k ≡ place
  place_at-held used boxes k place held =
      place_at-box used 0 boxes k (within_boxes boxes k place held) ∙ ap (place_in used (0 + k)) held

  -- A blank box counts as a fresh place.
  pub place_at-blank : (used : ℕ) (boxes : List (Option (Place T))) (k : ℕ) → k < length boxes → get_or boxes k None ≡ None → place_at (places_in used 0 boxes) k ≡ fresh_place used k
  place_at-blank used boxes k within blank =
      let same : 0 + k ≡ k = omega arith in
      place_at-box used 0 boxes k within ∙ ap (place_in used (0 + k)) blank ∙ ap (λ n. fresh_place used n) same

  -- No fresh place has a value.
  none_from_fresh : (used : ℕ) (boxes : List (Option (Place T))) (fresh k : ℕ) → IsFilledTo boxes fresh → fresh ≤ k → (place_at (places_in used 0 boxes) k).value ≡ None
  none_from_fresh used boxes fresh k filled least =
      elim (cases_lt k (length boxes)) [
        | inl within ↦ ap (λ place. place.value) (place_at-blank used boxes k within (filled.blank k least))
        | inr past ↦ ap (λ place. place.value) (past_the_last used 0 boxes k past)
      ]

  full_box : (used : ℕ) (boxes : List (Option (Place T))) (fresh k : ℕ) → IsFilledTo boxes fresh → IsSome (place_at (places_in used 0 boxes) k).value → k < fresh
  full_box used boxes fresh k filled full =
      elim (cases_lt k fresh) [
        | inl below ↦ below
        | inr least ↦
            let Has : Option T → Type 0 = λ o. IsSome o in
            let none : IsSome (let o : Option T = None in o) = subst Has (none_from_fresh used boxes fresh k filled least) full in
            absurd (cc)
      ]

  pub slice_get-place : (places : List (Place T)) (k : ℕ) → k < length places → slice_get places k ≡ Some (place_at places k)
  slice_get-place [] k within = absurd (omega arith)
  slice_get-place (place ∷ later) zero within = refl
  slice_get-place (place ∷ later) (suc k) within = slice_get-place later k (omega arith)

  -- The slot of a place.
  pub slot_at : (places : List (Place T)) (k : ℕ) → k < length places → slice_get (map slot_of places) k ≡ Some (slot_of (place_at places k))
  slot_at [] k within = absurd (omega arith)
  slot_at (place ∷ later) zero within = refl
  slot_at (place ∷ later) (suc k) within = slot_at later k (omega arith)

  -- Fresh places are seen as unused slots.
  same_slots : (places : List (Place T)) (count used : ℕ) → length places ≡ count → ((k : ℕ) → k < count → slot_of (place_at places k) ≡ empty_slot used) → map slot_of places ≡ replicate count (empty_slot used)
  same_slots [] zero used long same = refl
  same_slots [] (suc count) used long same = absurd (omega (arith, long))
  same_slots (place ∷ later) zero used long same = absurd (omega (arith, long))
  same_slots (place ∷ later) (suc count) used long same =
      let rest = same_slots later count used (omega (arith, long)) (λ k below. same (suc k) (omega (arith, below))) in
      ap (λ slot. slot ∷ map slot_of later) (same 0 (omega arith)) ∙ ap (λ slots. empty_slot used ∷ slots) rest

  pub AreFresh-slots : (places : List (Place T)) (count used : ℕ) → AreFresh places count used → map slot_of places ≡ replicate count (empty_slot used)
  AreFresh-slots places count used fresh = same_slots places count used fresh.0 (λ k below. ap slot_of (fresh.1 k below))

  -- A row of which no place was used.
  pub IsRow-blank : (boxes : List (Option (Place T))) (count : ℕ) → count ≤ 65535 → boxes ≡ replicate count None → IsRow boxes count 0
  IsRow-blank boxes count few blank =
      let each : (k : ℕ) → get_or boxes k None ≡ None = λ k. ap (λ cs. get_or cs k None) blank ∙ blank_row count k in
      record {
        long = ap length blank ∙ length-replicate count None;
        few = few;
        filled = record {
          within = omega arith;
          held = λ k below. absurd (omega (arith, below));
          blank = λ k least. each k;
        };
        linked = λ k place held. let none = each k in absurd (cc);
      }

  pub AreFresh-blank : (used : ℕ) (boxes : List (Option (Place T))) (count : ℕ) → count ≤ 65535 → boxes ≡ replicate count None → AreFresh (places_in used 0 boxes) count used
  AreFresh-blank used boxes count few blank =
      let row = IsRow-blank boxes count few blank in (
        length-places_in used 0 boxes ∙ row.long,
        λ k below. place_at-blank used boxes k (omega (arith, below, row.long)) (row.filled.blank k (omega arith)),
      )

  links-set : (boxes : List (Option (Place T))) (count fresh later k : ℕ) (new : Place T) → fresh ≤ later → (new.next < count → new.next ≤ later) → k < length boxes → IsRow boxes count fresh → (j : ℕ) (place : Place T) → get_or (set boxes k (Some new)) j None ≡ Some place → place.next < count → place.next ≤ later
  links-set boxes count fresh later k new grows reached there row j place held =
      elim (cases_eq j k) [
        | inl same ↦
            let twice : Some new ≡ Some place = sym (get_or-set_same boxes k (Some new) None there) ∙ ap (λ i. get_or (set boxes k (Some new)) i None) (sym same) ∙ held in
            let is : new ≡ place = cc in
            let P : Place T → Type 0 = λ p. p.next < count → p.next ≤ later in
            subst P is reached
        | inr differs ↦ λ within.
            let most = row.linked j place (sym (get_or-set_other boxes k j (Some new) None differs) ∙ held) within in
            omega (arith, most, grows)
      ]

  -- Overwriting a place that isn't fresh.
  pub IsRow-set : (boxes : List (Option (Place T))) (count fresh k : ℕ) (new : Place T) → k < fresh → (new.next < count → new.next ≤ fresh) → IsRow boxes count fresh → IsRow (set boxes k (Some new)) count fresh
  IsRow-set boxes count fresh k new below reached row =
      let there : k < length boxes = omega (arith, below, row.filled.within) in
      record {
        long = length-set boxes k (Some new) ∙ row.long;
        few = row.few;
        filled = IsFilledTo-set boxes fresh k new below row.filled;
        linked = links-set boxes count fresh fresh k new (omega arith) reached there row;
      }

  -- Writing the first fresh place.
  pub IsRow-next : (boxes : List (Option (Place T))) (count fresh : ℕ) (new : Place T) → fresh < count → new.next ≡ fresh + 1 → IsRow boxes count fresh → IsRow (set boxes fresh (Some new)) count (fresh + 1)
  IsRow-next boxes count fresh new below next row =
      let there : fresh < length boxes = omega (arith, below, row.long) in
      record {
        long = length-set boxes fresh (Some new) ∙ row.long;
        few = row.few;
        filled = IsFilledTo-next boxes fresh new there row.filled;
        linked = links-set boxes count fresh (fresh + 1) fresh new (omega arith) (λ within. omega (arith, next)) there row;
      }

  -- A write to a box is a write to the list of places.
  places_in-set : (used j : ℕ) (boxes : List (Option (Place T))) (k : ℕ) (new : Place T) → places_in used j (set boxes k (Some new)) ≡ set (places_in used j boxes) k new
  places_in-set used j [] k new = refl
  places_in-set used j (box ∷ later) zero new = refl
  places_in-set used j (box ∷ later) (suc k) new =
      ap (λ places. place_in used j box ∷ places) (places_in-set used (j + 1) later k new)

  -- What the arena sees of these boxes.
  abbrev pub seen : ℕ → ℕ → List (Option (Place T)) → PlaceRowView T
  seen used fresh boxes = record { places = places_in used 0 boxes; fresh = fresh }

  pub written : (used fresh : ℕ) (boxes : List (Option (Place T))) (row : PlaceRowView T) (j k : ℕ) (new place : Place T) → seen used fresh boxes ≡ row → j ≡ k → new ≡ place → places_in used 0 (set boxes j (Some new)) ≡ set row.places k place
  written used fresh boxes row j k new place is at same =
      places_in-set used 0 boxes j new ∙ (λ i. set (is i).places (at i) (same i))

  -- The place in a box is that of the row.
  pub held_at : (used fresh : ℕ) (boxes : List (Option (Place T))) (row : PlaceRowView T) (j k : ℕ) (place : Place T) → seen used fresh boxes ≡ row → j ≡ k → get_or boxes j None ≡ Some place → place_at row.places k ≡ place
  held_at used fresh boxes row j k place is at held =
      (λ i. place_at (sym is i).places (sym at i)) ∙ place_at-held used boxes j place held

  pub row_length : (used fresh : ℕ) (boxes : List (Option (Place T))) (row : PlaceRowView T) → seen used fresh boxes ≡ row → length row.places ≡ length boxes
  row_length used fresh boxes row is = ap (λ r. length r.places) (sym is) ∙ length-places_in used 0 boxes

  -- A place with a value isn't fresh.
  pub full_below : (used fresh : ℕ) (boxes : List (Option (Place T))) (row : PlaceRowView T) (k : ℕ) → seen used fresh boxes ≡ row → IsFilledTo boxes fresh → IsSome (place_at row.places k).value → k < fresh
  full_below used fresh boxes row k is filled full =
      let Has : PlaceRowView T → Type 0 = λ r. IsSome (place_at r.places k).value in
      full_box used boxes fresh k filled (subst Has (sym is) full)

  pub none_above : (used fresh : ℕ) (boxes : List (Option (Place T))) (row : PlaceRowView T) (k : ℕ) → seen used fresh boxes ≡ row → IsFilledTo boxes fresh → fresh ≤ k → (place_at row.places k).value ≡ None
  none_above used fresh boxes row k is filled least =
      ap (λ r. (place_at r.places k).value) (sym is) ∙ none_from_fresh used boxes fresh k filled least

  -- The first fresh place, if there is one.
  pub record FirstFresh (used fresh count : ℕ) (row : PlaceRowView T) : Type 0 where
    pub there : fresh < count
    pub first : row.fresh ≡ fresh
    pub is : place_at row.places row.fresh ≡ fresh_place used fresh

  pub first_fresh : (used fresh count : ℕ) (boxes : List (Option (Place T))) (row : PlaceRowView T) → seen used fresh boxes ≡ row → IsRow boxes count fresh → row.fresh < length row.places → FirstFresh used fresh count row
  first_fresh used fresh count boxes row is sound there =
      let same : row.fresh ≡ fresh = ap (λ r. r.fresh) (sym is) in
      let within : fresh < length boxes = omega (arith, there, same, row_length used fresh boxes row is) in
      record {
        there = omega (arith, within, sound.long);
        first = same;
        is =
            (λ i. place_at (sym is i).places (same i)) ∙ place_at-blank used boxes fresh within (sound.filled.blank fresh (omega arith));
      }
