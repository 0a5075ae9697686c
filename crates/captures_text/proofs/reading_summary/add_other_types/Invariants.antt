-- Loop invariant: the comments so far and those of the other types are the comments of all.
use Rattle.std.proofs.Common.{◌≡◌, ◌++◌, drop}
use Rattle.captures_text.specs.ReadingSummaries.{other_type_lines}
use Rattle.captures_text.proofs.reading_summary.add_other_types.Given as goal

abbrev pub invariant-loop-kind : goal.invariant-loop-kind
invariant-loop-kind l = l.answers.items ++ other_type_lines l.kind (drop l.kind l.tallies) ≡ l.fn.answers.items ++ other_type_lines 0 l.tallies
