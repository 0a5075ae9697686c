-- Where lines of rules begin, as it is printed: the number of the source line, and where the source line doesn't begin with it, the column.
use Rattle.std.specs.Prelude.{ℕ, List, [], ◌++◌, codes, decimal, slice_get, Option, Some, None}
use Rattle.rules_text.specs.declared.place.RulePlace.{RulePlace}

-- The place that was found; line 0 if none was.
abbrev pub begin_found : Option RulePlace → RulePlace
begin_found None = record { line = 0; column = None }
begin_found (Some begin) = begin

-- Where a line of rules begins, by the places of all lines of a text.
abbrev pub begin_at : List RulePlace → ℕ → RulePlace
begin_at begins place = begin_found (slice_get begins place)

-- The column, if there is one.
abbrev pub column_text : Option ℕ → List ℕ
column_text None = []
column_text (Some column) = codes ":" ++ decimal column

-- Where a line of rules begins.
abbrev pub begin_text : RulePlace → List ℕ
begin_text begin = decimal begin.line ++ column_text begin.column
