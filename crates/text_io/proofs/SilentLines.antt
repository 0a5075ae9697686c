-- Lines without words, for rules by which such a line has no answer and leaves the world as it is.
use Rattle.std.proofs.Common.{◌≡◌, ℕ, Bool, true, false, List, [], Option, Some, refl, subst}
use Rattle.std.specs.Bool.{MatchBool}

-- A line has an answer if each line with words has one.
pub silent-or : {World : Type 0} (IsAnswer : List ℕ → Option World → Type 0) (world : World) (silent : Bool)
    → ((text : List ℕ) × (next : Option World) × IsAnswer text next)
    → (text : List ℕ) × (next : Option World) × MatchBool silent ((text ≡ []) × (next ≡ Some world)) (IsAnswer text next)
silent-or IsAnswer world true answer = ([], Some world, (refl, refl))
silent-or IsAnswer world false answer = answer

-- A line leads to a sound world if each line with words does.
pub silent-sound : {World : Type 0} (IsSoundOne : World → Type 0) (IsAnswer : Type 0) (world after : World) (text : List ℕ) (silent : Bool)
    → IsSoundOne world → (IsAnswer → IsSoundOne after)
    → MatchBool silent ((text ≡ []) × (Some after ≡ Some world)) IsAnswer → IsSoundOne after
silent-sound IsSoundOne IsAnswer world after text true sound leads same =
    let back : world ≡ after = let e = same.1 in cc in subst IsSoundOne back sound
silent-sound IsSoundOne IsAnswer world after text false sound leads answer = leads answer
