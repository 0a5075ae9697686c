-- The judged cells among a connection's own events are exactly the judged cells of this connection in the log.
use Rattle.std.specs.Prelude.{◌≡◌, ◌≤◌, ◌^◌, ℕ, List, length, map, filter, filter_map, Option, Some, None}
use Rattle.upc_cell.specs.declared.vc.Vc.{Vc}
use Rattle.upc_cell.specs.Connection.{vc_of, is_same_vc}
use Rattle.leaky.specs.declared.verdict.Verdict.{Verdict}
use Rattle.card_core.specs.declared.shape.Shape.{Shape}
use Rattle.card_core.specs.Judged.{JudgedView}
use Rattle.card_core.specs.Log.{Event, IsLog}
use Rattle.card_core.specs.Headline.{judged_cells}
use Rattle.card_isolation.specs.Outcome.{Outcome, was_judged}
use Rattle.card_isolation.specs.OwnEvents.{OwnEvent, own_events}

-- The answer to a judged cell, without its line, the count of that line, and the id of its program.
pub record OwnAnswer : Type 0 where
  pub moment : ℕ
  pub value : ℕ
  pub verdict : Verdict
  pub cell : List ℕ

-- The answer without these.
abbrev pub own_answer : JudgedView → OwnAnswer
own_answer judged = record { moment = judged.moment; value = judged.value; verdict = judged.verdict; cell = judged.cell }

-- The judged cell of an outcome, if it has one.
abbrev pub judged_outcome : Outcome → Option OwnAnswer
judged_outcome (was_judged moment value code verdict cell) =
    Some (record { moment = moment; value = value; verdict = verdict; cell = cell })
judged_outcome _ = None

-- The judged cells among these events.
abbrev pub judged_own : List OwnEvent → List OwnAnswer
judged_own events = filter_map (λ event. judged_outcome event.outcome) events

-- The judged cells of this virtual connection in the log, by the headers of the leaving cells.
abbrev pub judged_on : Shape → Vc → List Event → List OwnAnswer
judged_on shape vc log = map own_answer (filter (λ judged. is_same_vc vc (vc_of shape.side judged.cell)) (judged_cells log))

-- In each log of at most 2^62 events both lists are the same.
abbrev pub JudgedCellsAreOwn : Type 0
JudgedCellsAreOwn = (shape : Shape) (log : List Event) (vc : Vc) → IsLog shape log → length log ≤ 2 ^ 62
    → judged_own (own_events shape.side vc log) ≡ judged_on shape vc log
