-- A card as the code stores it, and its answers in terms of the cards that it represents.
use Rattle.std.specs.Prelude.{◌≡◌, ℕ, List, ◌++◌, Option, Some, None, MatchOption}
use Rattle.card_core.specs.Agreement.{CoreAgrees}
use Rattle.card_core.specs.World.{World}
use Rattle.card_core.specs.declared.answer.Answer.{Answer}
use Rattle.text_words.specs.FaultLines.{bad_line}
use Rattle.cmd_run.specs.ShownCard.{Held, ShowsCard}
use Rattle.cmd_run.specs.RunText.{Arrives, Card, IsLed, Obeys, OpeningLine, RefusesLine}
use Rattle.text_script.specs.ScriptCommands.{Command}

-- The answer to a command, or BadLine if there is none.
abbrev pub ObeysSeen : Card → Option Command → List ℕ → Card → Type 0
ObeysSeen before seen text after = MatchOption seen (RefusesLine bad_line before text after) (λ command. Obeys before command text after)

-- For each card that was represented before, the cell has this answer and leads to a world that the core agrees with
-- afterwards. The names are unchanged. There is no answer only if no card is represented.
abbrev pub AnswersCell : Held → List ℕ → ℕ → Option Answer → Held → Type 0
AnswersCell held octets moment given held' = (held'.names ≡ held.names) × ((before : Card) → IsLed before → ShowsCard held before
    → (answer : Answer) × (given ≡ Some answer) × (after : World)
    × Arrives before.world octets moment answer after × CoreAgrees held'.core after)

-- The result of the first line with words: a stored card that represents the new one, or the fault line.
abbrev pub OpensAs : List (List ℕ) → Option Held → List ℕ → List ℕ → Type 0
OpensAs words None old new = (text : List ℕ) × (new ≡ old ++ text) × OpeningLine words text None
OpensAs words (Some held) old new =
    (text : List ℕ) × (new ≡ old ++ text) × (card : Card) × ShowsCard held card × OpeningLine words text (Some (Some card))
