-- What the counts of `why --count` in memory are, and what its machine shows of them.
use Rattle.std.specs.Prelude.{◌≡◌, ℕ, List, ◌++◌, Option, Some, None, Result, Ok, Err, IfSome, get_or, is_some}
use Rattle.rules_text.specs.RulesInMemory.{placed_rules_read}
use Rattle.cmd_rules.specs.CountText.{times_decided}
use Rattle.cmd_rules.specs.WhyText.{WhyWorld, why_text, world_after_line}
use Rattle.cmd_rules.specs.declared.counting.Counts.{Counts}
use Rattle.cmd_rules.specs.declared.deciding.Deciding.{Deciding}

-- The count of the rule at a place. A place that no count is kept of has decided no cell.
abbrev pub count_at : Counts → Option ℕ → ℕ
count_at counts None = counts.otherwise
count_at counts (Some place) = get_or counts.rules.items place 0

-- The counts are those of rules that decided cells.
abbrev pub AreCounts : List (Option ℕ) → Counts → Type 0
AreCounts decided counts = (place : Option ℕ) → count_at counts place ≡ times_decided place decided

-- What the machine shows: its rules, whether it counts cells, and if it does, the counts of those that were decided.
abbrev pub ShowsWhy : Deciding → WhyWorld → Type 0
ShowsWhy deciding world =
    (world.placed_rules ≡ placed_rules_read deciding.decider.placed_rules) × (world.counts ≡ is_some deciding.counts) × IfSome deciding.counts (AreCounts world.decided)

-- The answer to a line that was read so was appended, and what the machine showed is now the world after the line.
pub record AnswersWhyLine (before after : Deciding) (read : Result (List ℕ) (List ℕ)) (old new : List ℕ) : Type 0 where
  pub text : new ≡ old ++ why_text (placed_rules_read before.decider.placed_rules) (is_some before.counts) read
  pub shown : (world : WhyWorld) → ShowsWhy before world → ShowsWhy after (world_after_line world read)

-- What was read of a line: its cell, or the answer to a line without one, which was appended.
abbrev pub IsLineRead : Result (List ℕ) (List ℕ) → List ℕ → List ℕ → Option (List ℕ) → Type 0
IsLineRead (Ok cell) old new found = (new ≡ old) × (found ≡ Some cell)
IsLineRead (Err answer) old new found = (new ≡ old ++ answer) × (found ≡ None)
