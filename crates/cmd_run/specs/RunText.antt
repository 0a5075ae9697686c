-- The text of `upc run`. The first line with words opens a card. Each later line with words is a command, and its answer
-- is the card's reply or a fault line. The state is no card yet, or a card with the whole history of each connection and
-- the ids of its programs.
use Rattle.std.specs.Prelude.{◌≡◌, ◌⊎◌, ℕ, ◌==◌, List, [], ◌∷◌, ◌++◌, length, flat_map, codes, Option, Some, None, MatchOption, MatchBool, slice_get}
use Rattle.upc_cell.specs.Connection.{vc_of}
use Rattle.upc_cell.specs.declared.vc.Vc.{Vc}
use Rattle.gen_arena.specs.declared.id.Id.{Id}
use Rattle.card_core.specs.Log.{Event, Leads}
use Rattle.card_core.specs.Steps.{WorldStep}
use Rattle.card_core.specs.World.{World, outside, opening_world}
use Rattle.card_core.specs.declared.answer.Answer.{Answer}
use Rattle.card_core.specs.declared.ask.Ask.{Ask}
use Rattle.card_core.specs.declared.reply.Reply.{Reply}
use Rattle.card_core.specs.declared.reply.Reply.TheVariants.{Entered, Picked, Answered, Loaded}
use Rattle.card_core.specs.declared.shape.Shape.{Shape}
use Rattle.card_core.specs.declared.step.Step.{Step}
use Rattle.card_core.specs.declared.step.Step.TheVariants.{Enter, Pick, Judge, Load, Retire, Setup, Reload, Release, Cut}
use Rattle.text_io.specs.Answering.{EndsBy}
use Rattle.text_io.specs.Lines.{lines_of}
use Rattle.text_io.specs.Printing.{Rules, Prints}
use Rattle.text_io.specs.Words.{words_of, is_silent}
use Rattle.text_io.specs.declared.ending.Done.{Done}
use Rattle.text_io.specs.declared.ending.Done.TheVariants.{Whole, Ended}
use Rattle.card_core.specs.Shapes.{shape_fault}
use Rattle.text_card.specs.CardLine.{card_line_shape}
use Rattle.text_script.specs.ScriptCommands.{Command, load, retire, setup, reload, release, cut, cell, command_of}
use Rattle.text_script.specs.Rates.{AreContracts, first_wanted_fault}
use Rattle.text_words.specs.FaultLines.{bad_hex, bad_line, too_long, wrong_length}
use Rattle.text_card.specs.CardFaults.{gcra_fault, no_card, no_such_program, shape_fault_line}
use Rattle.text_words.specs.Hexadecimal.{octets_of_digits, cell_of_octets}
use Rattle.cmd_programs.specs.Program.{ProgramReading, is_program, is_refused, ReadsAs}
use Rattle.text_card.specs.Replies.{answer_text, reply_text}
use Rattle.text_script.specs.ProgramNames.{program_named}
use Rattle.text_script.specs.declared.script_words.Wanted.{Wanted}

-- A card, and the ids of the programs that were loaded, in the order of their names.
pub record Card : Type 0 where
  pub world : World
  pub names : List Id

-- No card yet, or the card.
abbrev pub RunWorld : Type 0
RunWorld = Option Card

-- A card of this shape before its first command.
abbrev pub new_card : Shape → Card
new_card shape = record { world = opening_world shape; names = [] }

-- The id of a program that this reply loaded, if there is one.
abbrev pub id_loaded : Reply → List Id
id_loaded (Loaded id) = id ∷ []
id_loaded _ = []

-- The ids of all programs that were loaded in this log.
abbrev pub ids_loaded : List Event → List Id
ids_loaded log = flat_map (λ event. id_loaded event.reply) log

-- The answer is this fault, and nothing changes.
abbrev pub RefusesLine : List ℕ → Card → List ℕ → Card → Type 0
RefusesLine fault before text after = (text ≡ fault) × (after ≡ before)

-- The card takes the command as this step, and the text is the line of its reply. An allocation failure has no line, so
-- it is no answer.
pub record TakesCommand (before : Card) (command : Command) (step : Step) (text : List ℕ) (after : Card) : Type 0 where
  pub reply : Reply
  pub stepped : WorldStep before.world step reply after.world
  pub named : after.names ≡ before.names ++ id_loaded reply
  pub printed : reply_text before.world.shape.side command (length before.names) reply ≡ Some text

-- The program is loaded, or the answer is the fault line of its octets.
abbrev pub TakesReading : Card → List ℕ → ProgramReading → List ℕ → Card → Type 0
TakesReading before digits (is_program code) text after = TakesCommand before (load digits) (Load code) text after
TakesReading before digits (is_refused fault) text after = RefusesLine fault before text after

-- The octets are read as a program, which is loaded or refused.
abbrev pub LoadsOctets : Card → List ℕ → List ℕ → List ℕ → Card → Type 0
LoadsOctets before digits octets text after =
    (reading : ProgramReading) × ReadsAs octets reading × TakesReading before digits reading text after

-- The step of a command that names a program by this number, if there is such a name. Otherwise the answer is NoProgram.
abbrev pub TakesNamed : Card → Command → ℕ → (Id → List ℕ → Card → Type 0) → List ℕ → Card → Type 0
TakesNamed before command number TakesWith text after =
    MatchOption (program_named before.names number) (RefusesLine no_such_program before text after) (λ id. TakesWith id text after)

-- The connection is requested with the contracts of the command.
pub record AsksConnection (before : Card) (vc : Vc) (number : ℕ) (wanted : List Wanted) (id : Id) (text : List ℕ) (after : Card) : Type 0 where
  pub ask : Ask
  pub connection : ask.vc ≡ vc
  pub program : ask.program ≡ id
  pub contracts : AreContracts wanted ask.contracts.items
  pub taken : TakesCommand before (setup vc number wanted) (Setup ask) text after

-- The first error of a rate is the answer. If there is none, the step of the setup is taken.
abbrev pub SetsUpWanted : Card → Vc → ℕ → List Wanted → List ℕ → Card → Type 0
SetsUpWanted before vc number wanted text after =
    MatchOption (first_wanted_fault wanted)
    (TakesNamed before (setup vc number wanted) number (AsksConnection before vc number wanted) text after)
    (λ fault. RefusesLine (gcra_fault fault) before text after)

-- The answer to a cell that has entered port 0: that of Pick if Pick answers the cell, and otherwise that of Judge.
abbrev pub IsAnswered : World → Answer → World → Type 0
IsAnswered before answer after =
    WorldStep before (Pick 0) (Answered answer) after
    ⊎ ((picked : World) × WorldStep before (Pick 0) Picked picked × WorldStep picked (Judge 0) (Answered answer) after)

-- A cell enters port 0, is picked and, if its connection is found, judged, with this answer.
abbrev pub Arrives : World → List ℕ → ℕ → Answer → World → Type 0
Arrives before octets moment answer after =
    (entered : World) × WorldStep before (Enter 0 octets moment) Entered entered × IsAnswered entered answer after

-- A cell arrives, and the text is the line of its answer.
pub record PolicesCell (before : Card) (moment : ℕ) (octets : List ℕ) (text : List ℕ) (after : Card) : Type 0 where
  pub answer : Answer
  pub arrived : Arrives before.world octets moment answer after.world
  pub same : after.names ≡ before.names
  pub printed : answer_text before.world.shape.side before.names (vc_of before.world.shape.side octets) answer ≡ Some text

-- The cell of 52 octets arrives. Any other number of octets is an error and changes nothing.
abbrev pub PolicesOctets : Card → ℕ → List ℕ → List ℕ → Card → Type 0
PolicesOctets before moment octets text after =
    MatchBool (length octets == 52) (PolicesCell before moment octets text after)
    (RefusesLine (wrong_length (length octets)) before text after)

-- The command has this answer, and leads to the card after it.
abbrev pub Obeys : Card → Command → List ℕ → Card → Type 0
Obeys before (load digits) text after =
    MatchOption (octets_of_digits digits) (RefusesLine bad_hex before text after) (λ octets. LoadsOctets before digits octets text after)
Obeys before (retire number) text after =
    TakesNamed before (retire number) number (λ id. TakesCommand before (retire number) (Retire id)) text after
Obeys before (setup vc number wanted) text after = SetsUpWanted before vc number wanted text after
Obeys before (reload vc number) text after =
    TakesNamed before (reload vc number) number (λ id. TakesCommand before (reload vc number) (Reload vc id)) text after
Obeys before (release vc) text after = TakesCommand before (release vc) (Release vc) text after
Obeys before (cut vc) text after = TakesCommand before (cut vc) (Cut vc) text after
Obeys before (cell moment digits) text after =
    MatchOption (octets_of_digits digits) (RefusesLine bad_hex before text after)
    (λ octets. PolicesOctets before moment (cell_of_octets octets) text after)

-- The line of a command. If its words are no command, the answer is BadLine and nothing changes.
abbrev pub CommandLine : Card → List (List ℕ) → List ℕ → Card → Type 0
CommandLine before words text after =
    MatchOption (command_of before.world.shape.side words) (RefusesLine bad_line before text after)
    (λ command. Obeys before command text after)

-- A card of this shape is opened, or the run ends since the shape is out of its limits.
abbrev pub OpensCard : Shape → List ℕ → Option RunWorld → Type 0
OpensCard shape text next =
    MatchOption (shape_fault shape) ((text ≡ codes "ready\n") × (next ≡ Some (Some (new_card shape))))
    (λ fault. EndsBy (shape_fault_line fault) text next)

-- The first line with words opens a card, or the run ends.
abbrev pub OpeningLine : List (List ℕ) → List ℕ → Option RunWorld → Type 0
OpeningLine words text next = MatchOption (card_line_shape words) (EndsBy no_card text next) (λ shape. OpensCard shape text next)

-- A line with words opens the card or is a command.
abbrev pub OpensOrObeys : RunWorld → List (List ℕ) → List ℕ → Option RunWorld → Type 0
OpensOrObeys None words text next = OpeningLine words text next
OpensOrObeys (Some before) words text next =
    (after : Card) × CommandLine before words text after × (next ≡ Some (Some after))

-- The line has this answer and leads to the next state, or to none if it ends the run. A line without words and a
-- comment line have no answer.
abbrev pub RunSteps : RunWorld → List ℕ → List ℕ → Option RunWorld → Type 0
RunSteps world content text next =
    MatchBool (is_silent (words_of content)) ((text ≡ []) × (next ≡ Some world)) (OpensOrObeys world (words_of content) text next)

-- The end of the input. Without a card it is an error.
abbrev pub RunCloses : RunWorld → List ℕ → Done → Type 0
RunCloses None text done = (text ≡ no_card) × (done ≡ Ended)
RunCloses (Some card) text done = (text ≡ []) × (done ≡ Whole)

-- Some log leads to the card, the card's names are those of the programs that the log loaded, and port 0 has no cell.
pub record IsLed (card : Card) : Type 0 where
  pub shape : Shape
  pub log : List Event
  pub leads : Leads shape log card.world
  pub names : card.names ≡ ids_loaded log
  pub free : slice_get card.world.ports 0 ≡ Some outside

-- There is no card, or some log leads to it.
abbrev pub IsSoundRun : RunWorld → Type 0
IsSoundRun None = Unit {0}
IsSoundRun (Some card) = IsLed card

-- The rules of `run`.
abbrev pub run_rules : Rules RunWorld
run_rules = record { steps = RunSteps; closes = RunCloses; too_long = too_long; is_sound = IsSoundRun }

-- The text for the octets of a whole script, and how the run ends.
abbrev pub IsRunText : List ℕ → List ℕ → Done → Type 0
IsRunText octets text done = Prints run_rules 0 None (lines_of octets) text done
