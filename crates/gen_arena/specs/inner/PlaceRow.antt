-- The places of an arena, in the boxes of its block.
use Rattle.std.specs.Prelude.{◌≡◌, ℕ, ◌+◌, ◌<◌, ◌≤◌, List, [], ◌∷◌, length, Option, Some, None, get_or}
use Rattle.gen_arena.specs.declared.place.Place.{Place}
use Rattle.gen_arena.specs.inner.Boxes.{IsFilledTo}

-- A row of places as the arena sees it: all places, and the number of the first one that was never used.
pub record PlaceRowView (T : Type 0) : Type 0 where
  pub places : List (Place T)
  pub fresh : ℕ

module _ {T : Type 0} where
  -- The default for a place that doesn't exist.
  abbrev pub no_place : Place T
  no_place = record { generation = 0; next = 0; value = None }

  -- The place of this number.
  abbrev pub place_at : List (Place T) → ℕ → Place T
  place_at places k = get_or places k no_place

  -- An empty place that used this generation last and links to the place after it.
  abbrev pub fresh_place : ℕ → ℕ → Place T
  fresh_place used k = record { generation = used; next = k + 1; value = None }

  -- There are `count` places, and all are fresh places.
  abbrev pub AreFresh : List (Place T) → ℕ → ℕ → Type 0
  AreFresh places count used =
      (length places ≡ count) × ((k : ℕ) → k < count → place_at places k ≡ fresh_place used k)

  -- The place of number k, which is in this box. A blank box counts as a fresh place.
  abbrev pub place_in : ℕ → ℕ → Option (Place T) → Place T
  place_in used k None = fresh_place used k
  place_in used k (Some place) = place

  -- The places in these boxes, numbered from k on.
  abbrev pub places_in : ℕ → ℕ → List (Option (Place T)) → List (Place T)
  places_in used k [] = []
  places_in used k (box ∷ later) = place_in used k box ∷ places_in used (k + 1) later

  -- The number is at most that of the first fresh place, or is the number of no place.
  abbrev pub IsReached : PlaceRowView T → ℕ → Type 0
  IsReached row k = k < length row.places → k ≤ row.fresh

  -- The first `fresh` of `count` boxes have places, none of which links to a place after the first fresh one. The other
  -- boxes are blank.
  pub record IsRow (boxes : List (Option (Place T))) (count fresh : ℕ) : Type 0 where
    pub long : length boxes ≡ count
    pub few : count ≤ 65535
    pub filled : IsFilledTo boxes fresh
    pub linked : (k : ℕ) (place : Place T) → get_or boxes k None ≡ Some place → place.next < count → place.next ≤ fresh
