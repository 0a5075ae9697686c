-- How a line changes the machine of `run`.
use Rattle.std.proofs.Common.{◌≡◌, ◌⊎◌, ℕ, inl, inr, Bool, false, List, [], Option, Some, None, Bor, sym, subst}
use Rattle.std.specs.Bool.{MatchBool}
use Rattle.text_io.specs.Answering.{Answers, TurnsFrom}
use Rattle.text_io.specs.LineWords.{IsLineWords}
use Rattle.text_io.specs.Words.{is_silent, words_of}
use Rattle.text_io.specs.declared.machine.Turn.TheVariants.{GoesOn}
use Rattle.text_io.specs.declared.words.LineWords.{LineWords}
use Rattle.text_io.specs.declared.words.LineWords.TheVariants.{Silent, One, Several}
use Rattle.cmd_run.specs.RunText.{IsSoundRun, RunSteps, RunWorld, OpensOrObeys, run_rules}
use Rattle.cmd_run.specs.ShownCard.{AnswersLine, Held, Moves, ShowsRun}
use Rattle.cmd_run.specs.inner.Policing.{OpensAs}

-- A line with one word or more isn't silent.
pub line-asks : (words : List (List ℕ)) (found : LineWords) → IsLineWords words found
    → ((word : Bor (List ℕ)) × (found ≡ One word)) ⊎ (found ≡ Several) → is_silent words ≡ false
line-asks words Silent is (inl one) = let no = one.1 in cc
line-asks words Silent is (inr several) = let no = several in cc
line-asks words (One word) is which = is.0
line-asks words Several is which = is.0

steps : (world : RunWorld) (line text : List ℕ) (next : Option RunWorld) → is_silent (words_of line) ≡ false → OpensOrObeys world (words_of line) text next
    → RunSteps world line text next
steps world line text next asks printed =
    subst (λ (b : Bool). MatchBool b ((text ≡ []) × (next ≡ Some world)) (OpensOrObeys world (words_of line) text next)) (sym asks) printed

-- A line that changes the card.
pub turn-moved : (line old new : List ℕ) (held held' : Held) → Moves (AnswersLine line) held held' old new
    → Answers run_rules (ShowsRun (Some held)) line GoesOn (ShowsRun (Some held')) old new
turn-moved line old new held held' moves = (moves.0, moves.1, by)
  where
    by : (world : RunWorld) → IsSoundRun world → ShowsRun (Some held) world → TurnsFrom run_rules world line moves.0 GoesOn (ShowsRun (Some held'))
    by None sound shown = absurd shown
    by (Some card) led shown = let on = moves.2 card led shown in (Some on.0, on.1, on.2)

-- The line that opened a card.
pub turn-opened : (line old new : List ℕ) (held : Held) → is_silent (words_of line) ≡ false → OpensAs (words_of line) (Some held) old new
    → Answers run_rules (ShowsRun None) line GoesOn (ShowsRun (Some held)) old new
turn-opened line old new held asks opened = (opened.0, opened.1, by)
  where
    by : (world : RunWorld) → IsSoundRun world → ShowsRun None world → TurnsFrom run_rules world line opened.0 GoesOn (ShowsRun (Some held))
    by None sound shown = (Some opened.2, opened.3, steps None line opened.0 (Some (Some opened.2)) asks opened.4)
    by (Some card) led shown = absurd shown
