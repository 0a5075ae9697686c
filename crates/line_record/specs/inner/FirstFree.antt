-- The first free line, in a list with a mark for each line. The mark of a free line is 0.
use Rattle.std.specs.Prelude.{◌≡◌, ◌≢◌, ℕ, ◌<◌, ◌≤◌, ◌==◌, Bool, not, List, length, map, slice_index}

-- For each line, whether it is held.
abbrev pub are_held : List ℕ → List Bool
are_held marks = map (λ mark. not (mark == 0)) marks

-- This is the first free line from the start on, or the number of lines if there is none.
pub record IsFirstFree (marks : List ℕ) (start first : ℕ) : Type 0 where
  pub after : start ≤ first
  pub within : first ≤ length marks
  pub below : (line : ℕ) → start ≤ line → line < first → slice_index marks line ≢ 0
  pub here : first < length marks → slice_index marks first ≡ 0

-- Each free line is below this bound.
pub record HasFreeBelow (marks : List ℕ) (bound : ℕ) : Type 0 where
  pub within : bound ≤ length marks
  pub held : (line : ℕ) → bound ≤ line → line < length marks → slice_index marks line ≢ 0

-- This is the lowest free line, or the number of lines if there is none, and each free line is below the bound. There are
-- at most 65535 lines.
pub record KnowsLowest (marks : List ℕ) (lowest bound : ℕ) : Type 0 where
  pub first : IsFirstFree marks 0 lowest
  pub above : HasFreeBelow marks bound
  pub few : length marks ≤ 65535
