-- Worlds that differ, although no answer shows it.
use Rattle.std.specs.Prelude.{◌≡◌, ℕ, ◌+◌, ◌<◌, List, Option, Some, None, ⊤}
use Rattle.text_io.specs.Limits.{most_input_lines}
use Rattle.text_io.specs.Printing.{Rules}
use Rattle.text_io.specs.declared.ending.Done.{Done}

-- Neither leads to a world, or both lead to worlds that are alike.
abbrev pub LeadAlike : {World : Type 0} → (World → World → Type 0) → Option World → Option World → Type 0
LeadAlike AreAlike None None = ⊤
LeadAlike AreAlike (Some one) (Some other) = AreAlike one other
LeadAlike AreAlike _ _ = ⊥

-- From worlds that are alike after `met` lines, a line within the limits has the same text and leads to worlds that
-- are alike after one more. The end of the input also has one text and one kind of end.
pub record KeepsAlike {World : Type 0} (rules : Rules World) (AreAlike : ℕ → World → World → Type 0) : Type 0 where
  pub step : (met : ℕ) (one other : World) (line here here' : List ℕ) (next next' : Option World)
      → met < most_input_lines → AreAlike met one other
      → rules.steps one line here next → rules.steps other line here' next'
      → (here ≡ here') × LeadAlike (AreAlike (met + 1)) next next'
  pub close : (met : ℕ) (one other : World) (here here' : List ℕ) (done done' : Done) → AreAlike met one other
      → rules.closes one here done → rules.closes other here' done' → (here ≡ here') × (done ≡ done')
