-- What is proved of the texts of `police`.
use Rattle.std.specs.Prelude.{◌≡◌, ℕ, List, Option}
use Rattle.cmd_police.specs.declared.scope.PoliceScope.{PoliceScope}
use Rattle.text_io.specs.declared.ending.Done.{Done}
use Rattle.cmd_police.specs.PoliceText.{IsPoliceText}
use Rattle.cmd_police.specs.RuleColumn.{ShownRules}

-- A setup script, times of its lines and a capture have a text, for each scope and tick.
abbrev pub PolicesEachCapture : Type 0
PolicesEachCapture = (scope : PoliceScope) (tick : ℕ) (rules : ShownRules) (script : List ℕ) (times : List (Option ℕ)) (octets : List ℕ)
    → (text : List ℕ) × (done : Done) × IsPoliceText scope tick rules script times octets text done

-- A setup script, times of its lines and a capture have one text, although a card chooses the slots of programs and the lines of
-- connections, and drops the journal of a connection before any cell. No line shows any of that. A capture has fewer cells than a line may
-- have verdicts, so no line is full.
abbrev pub PoliceTextsAreOne : Type 0
PoliceTextsAreOne = (scope : PoliceScope) (tick : ℕ) (rules : ShownRules) (script : List ℕ) (times : List (Option ℕ)) (octets one other : List ℕ) (ends other_ends : Done)
    → IsPoliceText scope tick rules script times octets one ends → IsPoliceText scope tick rules script times octets other other_ends
    → (one ≡ other) × (ends ≡ other_ends)
