-- How a queue keeps its lists.
use Rattle.std.specs.Prelude.{◌≤◌, ℕ}

-- No more answers were taken than arrivals were given, no more arrivals were given than there are, and there is room for
-- an answer to each.
pub record IsQueue (arrivals given taken capacity : ℕ) : Type 0 where
  pub asked : taken ≤ given
  pub within : given ≤ arrivals
  pub room : arrivals ≤ capacity
