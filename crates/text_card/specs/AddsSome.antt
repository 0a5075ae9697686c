-- An optional text, appended to octets.
use Rattle.std.specs.Prelude.{◌≡◌, ℕ, List, ◌++◌, Option, MatchOption}

-- There is a text, and it was appended.
abbrev pub AddsSome : Option (List ℕ) → List ℕ → List ℕ → Type 0
AddsSome found before after = MatchOption found ⊥ (λ text. after ≡ before ++ text)
