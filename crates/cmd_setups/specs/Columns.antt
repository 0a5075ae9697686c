-- What the lines of several tables have in common: columns, and the verdict in an answer.
use Rattle.std.specs.Prelude.{ℕ, List, [], ◌∷◌, ◌++◌, Option, Some, None}
use Rattle.card_core.specs.declared.answer.Answer.{Answer}
use Rattle.card_core.specs.declared.answer.Answer.TheVariants as answer
use Rattle.leaky.specs.declared.verdict.Verdict.{Verdict}

-- A column, with the tab after it.
abbrev pub in_column : List ℕ → List ℕ
in_column text = text ++ 9 ∷ []

-- The verdict in an answer. A cell that isn't judged has none.
abbrev pub verdict_given : Answer → Option Verdict
verdict_given (answer.Judged line number moment value program verdict leaving) = Some verdict
verdict_given _ = None
