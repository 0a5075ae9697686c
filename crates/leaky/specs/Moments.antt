-- Moments of arrival, in ticks.
use Rattle.std.specs.Prelude.{ℕ, ◌≤◌, List, [], ◌∷◌, ⊤}

-- The moments start at or after the earliest and never go back.
abbrev pub GoesOn : ℕ → List ℕ → Type 0
GoesOn earliest [] = ⊤
GoesOn earliest (moment ∷ moments) = (earliest ≤ moment) × GoesOn moment moments
