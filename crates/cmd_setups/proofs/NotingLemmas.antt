-- A line of a script is carried out, and the start of its line noted.
use Rattle.std.proofs.Common.{◌≡◌, ℕ, Bool, true, false, List, [], ◌++◌, codes, Option, Some, None, sym, subst}
use Rattle.std.proofs.lemmas.Option.{same_Some}
use Rattle.std.specs.Bool.{MatchBool}
use Rattle.std.specs.Option.{MatchOption}
use Rattle.card_core.specs.Agreement.{CoreAgrees}
use Rattle.card_core.specs.Shapes.{shape_fault}
use Rattle.card_core.specs.World.{World}
use Rattle.card_core.specs.declared.fault.CardFault.{CardFault}
use Rattle.card_core.specs.declared.shape.Shape.{Shape}
use Rattle.line_record.specs.declared.tally.Tally.{Tally}
use Rattle.text_card.specs.CardFaults.{no_card, shape_fault_line}
use Rattle.text_card.specs.CardLine.{card_line_shape}
use Rattle.text_io.specs.Answering.{Answers, EndsBy, TurnsFrom}
use Rattle.text_io.specs.Words.{is_silent, words_of}
use Rattle.text_io.specs.declared.machine.Turn.{Turn}
use Rattle.text_io.specs.declared.machine.Turn.TheVariants.{GoesOn, Ends}
use Rattle.text_script.specs.ScriptCommands.{command_of}
use Rattle.upc_cell.specs.declared.vc.Vc.{Vc}
use Rattle.cmd_run.specs.RunText.{Card, IsLed, IsSoundRun, OpeningLine, OpensCard, RunSteps, RunWorld, new_card, run_rules}
use Rattle.cmd_run.specs.ShownCard.{AnswersLine, Held, Moves, ShowsRun}
use Rattle.cmd_run.specs.inner.RunLaws.{run-total}
use Rattle.cmd_setups.specs.CountsAtSetup.{AreCountsAtSetup}
use Rattle.cmd_setups.specs.inner.NotedSetups.{AreRunCountsAtSetup, IsNewIn, IsNewInRun, MovesNoting, NotesInRun, NotesSetup}
use Rattle.cmd_setups.proofs.CommandGains.{run_develops}
use Rattle.cmd_setups.proofs.CountGains.{lines_apart}
use Rattle.cmd_setups.proofs.StartLemmas.{noted_starts}

-- A line leads from a card with its starts to a card with its starts.
line_starts : (before after : Card) (line text : List ℕ) (noted : Option Vc) (at_setup at_setup' : List Tally) → IsLed before
    → RunSteps (Some before) line text (Some (Some after)) → IsNewIn before.world (command_of before.world.shape.side (words_of line)) noted
    → NotesSetup after.world noted at_setup at_setup' → AreCountsAtSetup at_setup before.world → AreCountsAtSetup at_setup' after.world
line_starts before after line text noted at_setup at_setup' led steps new notes are =
    noted_starts before.world after.world (command_of before.world.shape.side (words_of line)) noted at_setup at_setup'
    (lines_apart after (run-total.keeps (Some before) line text (Some after) led steps)) (run_develops before after line text led steps) new notes are

pub noting_moves : (line : List ℕ) (held held' : Held) (at_setup at_setup' : List Tally) (noted : Option Vc) (old new : List ℕ)
    → Moves (AnswersLine line) held held' old new
    → ((world : World) → CoreAgrees held.core world → IsNewIn world (command_of world.shape.side (words_of line)) noted)
    → ((world : World) → CoreAgrees held'.core world → NotesSetup world noted at_setup at_setup')
    → MovesNoting (AnswersLine line) held at_setup held' at_setup' old new
noting_moves line held held' at_setup at_setup' noted old new moves is notes = (
  moves.0,
  moves.1,
  λ before led shown are.
      let on = moves.2 before led shown in (
        on.0,
        on.1,
        line_starts before on.0 line moves.0 noted at_setup at_setup' led on.2 (is before.world shown.agrees) (notes on.0.world on.1.agrees) are,
        on.2,
      ),
)

-- ---- the line that opens a card

-- A card that has just been opened has no connection.
new_starts : (shape : Shape) (card : Card) (at_setup : List Tally) → card ≡ new_card shape → AreCountsAtSetup at_setup card.world
new_starts shape card at_setup is = subst (λ (it : Card). AreCountsAtSetup at_setup it.world) (sym is) (λ vc connection found verdict. cc)

opened_starts : (shape : Shape) (fault : Option CardFault) (text : List ℕ) (card : Card) (at_setup : List Tally)
    → MatchOption fault ((text ≡ codes "ready\n") × (Some (Some card) ≡ Some (Some (new_card shape)))) (λ found. EndsBy (shape_fault_line found) text (Some (Some card)))
    → AreCountsAtSetup at_setup card.world
opened_starts shape None text card at_setup opens =
    new_starts shape card at_setup (same_Some card (new_card shape) (same_Some (Some card) (Some (new_card shape)) opens.1))
opened_starts shape (Some fault) text card at_setup ends = let no = ends.1 in cc

shaped_starts : (shape : Option Shape) (text : List ℕ) (card : Card) (at_setup : List Tally)
    → MatchOption shape (EndsBy no_card text (Some (Some card))) (λ found. OpensCard found text (Some (Some card))) → AreCountsAtSetup at_setup card.world
shaped_starts None text card at_setup ends = let no = ends.1 in cc
shaped_starts (Some shape) text card at_setup opens = opened_starts shape (shape_fault shape) text card at_setup opens

first_starts : (silent : Bool) (words : List (List ℕ)) (text : List ℕ) (card : Card) (at_setup : List Tally)
    → MatchBool silent ((text ≡ []) × (Some (Some card) ≡ Some None)) (OpeningLine words text (Some (Some card))) → AreCountsAtSetup at_setup card.world
first_starts true words text card at_setup stays = let no : Some card ≡ None = same_Some (Some card) None stays.1 in cc
first_starts false words text card at_setup opens = shaped_starts (card_line_shape words) text card at_setup opens

-- ---- a line of a run

run_starts : (world after : RunWorld) (line text : List ℕ) (noted : Option Vc) (at_setup at_setup' : List Tally) → IsSoundRun world
    → RunSteps world line text (Some after) → IsNewInRun world line noted → NotesInRun after noted at_setup at_setup' → AreRunCountsAtSetup at_setup world → AreRunCountsAtSetup at_setup' after
run_starts world None line text noted at_setup at_setup' sound steps is notes are = tt
run_starts None (Some card) line text noted at_setup at_setup' sound steps is notes are = first_starts (is_silent (words_of line)) (words_of line) text card at_setup' steps
run_starts (Some before) (Some after) line text noted at_setup at_setup' sound steps is notes are =
    line_starts before after line text noted at_setup at_setup' sound steps is notes are

turn_notes : (turn : Turn) (world : RunWorld) (line here : List ℕ) (card' : Option Held) (noted : Option Vc) (at_setup at_setup' : List Tally) → IsSoundRun world
    → IsNewInRun world line noted → ((after : RunWorld) → ShowsRun card' after → NotesInRun after noted at_setup at_setup') → AreRunCountsAtSetup at_setup world
    → TurnsFrom run_rules world line here turn (ShowsRun card') → TurnsFrom run_rules world line here turn (λ after. ShowsRun card' after × AreRunCountsAtSetup at_setup' after)
turn_notes Ends world line here card' noted at_setup at_setup' sound is notes are steps = steps
turn_notes GoesOn world line here card' noted at_setup at_setup' sound is notes are (after, shown, steps) =
    (after, (shown, run_starts world after line here noted at_setup at_setup' sound steps is (notes after shown) are), steps)

pub machine_notes : (line : List ℕ) (turn : Turn) (card card' : Option Held) (at_setup at_setup' : List Tally) (noted : Option Vc) (old new : List ℕ)
    → Answers run_rules (ShowsRun card) line turn (ShowsRun card') old new
    → ((world : RunWorld) → ShowsRun card world → IsNewInRun world line noted)
    → ((world : RunWorld) → ShowsRun card' world → NotesInRun world noted at_setup at_setup')
    → Answers run_rules (λ world. ShowsRun card world × AreRunCountsAtSetup at_setup world) line turn (λ world. ShowsRun card' world × AreRunCountsAtSetup at_setup' world) old new
machine_notes line turn card card' at_setup at_setup' noted old new answers is notes = (
  answers.0,
  answers.1,
  λ world sound shows.
      turn_notes turn world line answers.0 card' noted at_setup at_setup' sound (is world shows.0) notes shows.1 (answers.2 world sound shows.0),
)
