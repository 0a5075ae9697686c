use Rattle.std.proofs.Common.{◌≡◌, ◌<◌, ℕ, length, None, Some}
use Rattle.std.specs.List.{slice_get}
use Rattle.rules_code.specs.inner.Held.{held_at}
use Rattle.rules_code.proofs.lines.held_parts.Given as goal

abbrev pub invariant-loop-line : goal.invariant-loop-line
invariant-loop-line l = (length l.parts.items ≡ l.line-index) × (l.held ≡ held_at l.lines None l.line-index) × ((at : ℕ) → at < l.line-index → slice_get l.parts.items at ≡ Some (held_at l.lines None at))
