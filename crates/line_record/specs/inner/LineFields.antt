-- A line in terms of its fields, and their invariant.
use Rattle.std.specs.Prelude.{ℕ, ◌≤◌, nat_le, ◌&&◌, Option, IsSome, is_none, List}
use Rattle.leaky.specs.declared.contract.Contract.{Contract}
use Rattle.line_record.specs.declared.entry.Entry.{Entry}
use Rattle.line_record.specs.declared.owner.Owner.{Owner}
use Rattle.line_record.specs.declared.state.State.{State}
use Rattle.line_record.specs.Line.{LineView, IsLine}

-- The line with these fields, whose journal has this capacity. A free line is ready if a whole journal fits into the
-- capacity.
abbrev pub view_of : Option Owner → List Contract → ℕ → State → List Entry → State → ℕ → LineView
view_of owner contracts journal start entries state capacity =
    let ready = is_none owner && nat_le journal capacity in
    record { owner = owner; contracts = contracts; journal = journal; start = start; entries = entries; state = state; ready = ready }

-- The invariant of a line holds, and if the line serves a connection, a whole journal fits into this capacity.
pub record KeepsRoom (line : LineView) (capacity : ℕ) : Type 0 where
  pub kept : IsLine line
  pub room : IsSome line.owner → line.journal ≤ capacity
