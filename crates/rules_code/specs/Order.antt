-- Spans in order.
use Rattle.std.specs.Prelude.{◌≡◌, ℕ, ◌+◌, ◌≤◌, ◌<◌, List, [], ◌∷◌}
use Rattle.rules_code.specs.PlainTests.{is_among}
use Rattle.rules_code.specs.declared.packet_part.Span.{Span}

-- Between the span and the first of these there is a number that is in neither.
abbrev pub IsBefore : Span → List Span → Type 0
IsBefore span [] = Unit {0}
IsBefore span (next ∷ more) = span.high + 1 < next.low

-- The spans are in the order of their numbers, none is empty, and no two overlap or are adjacent.
abbrev pub AreApart : List Span → Type 0
AreApart [] = Unit {0}
AreApart (span ∷ more) = (span.low ≤ span.high) × IsBefore span more × AreApart more

-- The second spans have the numbers of the first, in order, in as few spans as there can be.
pub record IsOrderOf (spans ordered : List Span) : Type 0 where
  pub apart : AreApart ordered
  pub same : (number : ℕ) → is_among ordered number ≡ is_among spans number
