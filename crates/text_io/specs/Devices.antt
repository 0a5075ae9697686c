-- How contracts describe the octets and the failures of devices.
use Rattle.std.specs.Prelude.{◌≡◌, ℕ, ◌+◌, ◌≤◌, ◌%◌, ◌^◌, List, ◌++◌, length}

-- The count after one more failure. Devices count in 64 bits, and the largest count is followed by 0, so a failure
-- always changes the count.
abbrev pub one_more : ℕ → ℕ
one_more count = (count + 1) % 2 ^ 64

-- The output grew by a prefix of these octets.
abbrev pub IsPart : List ℕ → List ℕ → List ℕ → Type 0
IsPart before after octets = (given : List ℕ) × (left : List ℕ) × (octets ≡ given ++ left) × (after ≡ before ++ given)

-- The output grew by a prefix of the waiting octets, and these are left of them.
abbrev pub WritesPrefix : List ℕ → List ℕ → List ℕ → List ℕ → Type 0
WritesPrefix before after waiting left = (given : List ℕ) × (waiting ≡ given ++ left) × (after ≡ before ++ given)

-- The output grew by a text with this property.
abbrev pub Adds : (List ℕ → Type 0) → List ℕ → List ℕ → Type 0
Adds IsText before after = (text : List ℕ) × (after ≡ before ++ text) × IsText text

-- The octets read from an input are a prefix with this property and at most `most` more.
abbrev pub TakesEnough : (List ℕ → Type 0) → ℕ → List ℕ → List ℕ → Type 0
TakesEnough IsEnough most before after =
    (needed : List ℕ) × (ahead : List ℕ) × (before ≡ needed ++ (ahead ++ after)) × (length ahead ≤ most) × IsEnough needed
