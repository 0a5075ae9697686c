-- Commands as they are carried out one by one.
use Rattle.std.specs.Prelude.{◌≡◌, ℕ, List, ◌++◌, Bool, MatchBool, Option, Some, None}
use Rattle.line_record.specs.declared.tally.Tally.{Tally}
use Rattle.text_io.specs.Words.{is_filled, words_of}
use Rattle.upc_cell.specs.declared.side.Side.{Side}
use Rattle.upc_cell.specs.declared.vc.Vc.{Vc}
use Rattle.cmd_run.specs.RunText.{Card, IsLed, RefusesLine, RunSteps}
use Rattle.cmd_run.specs.ShownCard.{ShowsCard}
use Rattle.text_script.specs.ReplyTexts.{connection_name, tally_text}
use Rattle.text_words.specs.FaultLines.{bad_line, line}
use Rattle.cmd_setups.specs.CommandsUnderTraffic.{CarriesOutWaiting, is_answered_plainly}
use Rattle.cmd_setups.specs.CountsAtSetup.{AreCountsAtSetup}
use Rattle.cmd_setups.specs.TimedLines.{WaitingCommand}
use Rattle.cmd_setups.specs.declared.timed_card.TimedCard.{TimedCard}
use Rattle.cmd_setups.specs.StoredCommands.{waiting_in}

-- Where a card is while commands are carried out: what is still carried out from there completes what was carried out from the first card.
pub record CarriesOn (before : Card) (waiting : List WaitingCommand) (moment : ℕ) (text : List ℕ) (timed : TimedCard) : Type 0 where
  pub present : Card
  pub led : IsLed present
  pub shown : ShowsCard timed.card present
  pub at_setup : AreCountsAtSetup timed.at_setup.counts.items present.world
  pub completes : (more : List ℕ) (after : Card) (left : List WaitingCommand) → CarriesOutWaiting (waiting_in timed.commands) moment present more after left
      → CarriesOutWaiting waiting moment before (text ++ more) after left

-- The same for each card that was shown at first.
abbrev pub CarriesSoFar : TimedCard → ℕ → Bool → TimedCard → List ℕ → List ℕ → Type 0
CarriesSoFar timed moment carried timed' old new =
    (text : List ℕ) × (new ≡ old ++ text) × (carried ≡ is_filled text)
    × ((before : Card) → IsLed before → ShowsCard timed.card before → AreCountsAtSetup timed.at_setup.counts.items before.world → CarriesOn before (waiting_in timed.commands) moment text timed')

-- The answer to a command that ends no journal.
abbrev pub AnswersPlainly : Card → List ℕ → List ℕ → Card → Type 0
AnswersPlainly before content text after =
    MatchBool (is_answered_plainly (words_of content)) (RunSteps (Some before) content text (Some (Some after)))
    (RefusesLine bad_line before text after)

-- The answer with these counts, or the one that was given.
abbrev pub answer_of_counts : Side → List ℕ → Vc → Option Tally → List ℕ → List ℕ
answer_of_counts side word vc None given = given
answer_of_counts side word vc (Some tally) given = line (word ++ (connection_name side vc ++ tally_text tally))
