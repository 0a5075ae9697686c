-- The content of a block's boxes.
use Rattle.std.specs.Prelude.{◌≡◌, ℕ, ◌<◌, ◌≤◌, List, length, Option, Some, None, get_or}

module _ {X : Type 0} where
  -- Box k exists and has a value.
  abbrev pub BoxHolds : List (Option X) → ℕ → Type 0
  BoxHolds boxes k = (x : X) × (get_or boxes k None ≡ Some x)

  -- The first `count` boxes have values, and the others are blank.
  pub record IsFilledTo (boxes : List (Option X)) (count : ℕ) : Type 0 where
    pub within : count ≤ length boxes
    pub held : (k : ℕ) → k < count → BoxHolds boxes k
    pub blank : (k : ℕ) → count ≤ k → get_or boxes k None ≡ None
