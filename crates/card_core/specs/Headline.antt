-- The headline, and the promise of a log for each judged cell. A log is the list of the steps that were taken, each with
-- its reply, the earliest first. All definitions here are over the log alone: first the effect of one event, then the
-- events of a port, a connection and a program, then the promise, and last the headline. The first half of the headline is
-- about programs alone; the module Returning defines it.
use Rattle.std.specs.Prelude.{◌≡◌, ℕ, ◌^◌, ◌==◌, ◌≤◌, Bool, true, false, not, ◌&&◌, if◌then◌else◌, List, [], ◌∷◌, ◌++◌, map, filter, filter_map, fold, All, Option, None}
use Rattle.upc_cell.specs.declared.vc.Vc.{Vc}
use Rattle.bpf_code.specs.declared.instr.Instr.{Instr}
use Rattle.bpf_verify.specs.Accepted.{IsAccepted}
use Rattle.gen_arena.specs.declared.id.Id.{Id}
use Rattle.leaky.specs.declared.verdict.Verdict.{Verdict}
use Rattle.leaky.specs.declared.verdict.Verdict.TheVariants.{Pass, Tag, Discard, Refuse}
use Rattle.line_record.specs.History.{NamedCell, IsHistory, empty_buckets, verdict_after}
use Rattle.upc_cell.specs.Connection.{is_same_vc}
use Rattle.gen_arena.specs.SameId.{is_same_id}
use Rattle.card_core.specs.declared.answer.Answer.TheVariants.{Judged}
use Rattle.card_core.specs.declared.ask.Ask.{Ask}
use Rattle.card_core.specs.declared.reply.Reply.{Reply}
use Rattle.card_core.specs.declared.reply.Reply.TheVariants.{Entered, Picked, NotNow, Answered, Loaded, Retired, SetUp, Reloaded, Released}
use Rattle.card_core.specs.declared.shape.Shape.{Shape}
use Rattle.card_core.specs.declared.step.Step.{Step}
use Rattle.card_core.specs.declared.step.Step.TheVariants.{Enter, Pick, Judge, Load, Retire, Setup, Reload, Release}
use Rattle.upc_cell.specs.Header.{has_low_priority}
use Rattle.upc_cell.specs.Connection.{vc_of}
use Rattle.card_core.specs.Judged.{JudgedView, judged_in_answer}
use Rattle.card_core.specs.Steps.{Gives, cell_after, named_cell, number_with}
use Rattle.card_core.specs.Log.{Event, IsLog}
use Rattle.card_core.specs.Returning.{ReturnsSafely}

-- No event of the log does this.
abbrev pub Never : (Event → Bool) → List Event → Type 0
Never does log = All (λ event. does event ≡ false) log

-- Whether the step is one at this port.
abbrev pub is_at : ℕ → Step → Bool
is_at port (Enter other cell moment) = port == other
is_at port (Pick other) = port == other
is_at port (Judge other) = port == other
is_at port _ = false

-- Whether the reply is NotNow: the step didn't fit the state of the port.
abbrev pub is_not_now : Reply → Bool
is_not_now NotNow = true
is_not_now _ = false

-- Whether the event moves the port: its step is at the port, and the reply isn't NotNow.
abbrev pub moves : ℕ → Event → Bool
moves port event = not (is_not_now event.reply) && is_at port event.step

-- Whether the step with this reply set the virtual connection up or released it.
abbrev pub is_change : Vc → Reply → Step → Bool
is_change vc (SetUp owner) (Setup ask) = is_same_vc vc ask.vc
is_change vc (Released piece) (Release other) = is_same_vc vc other
is_change vc _ _ = false

-- Whether the event sets up or releases the virtual connection.
abbrev pub changes : Vc → Event → Bool
changes vc event = is_change vc event.reply event.step

-- Whether the step with this reply loaded a code under the id.
abbrev pub is_load : Id → Reply → Step → Bool
is_load id (Loaded given) (Load code) = is_same_id id given
is_load id _ _ = false

-- Whether the event loads a code under the id.
abbrev pub loads : Id → Event → Bool
loads id event = is_load id event.reply event.step

-- Whether the step with this reply retired the id.
abbrev pub is_retirement : Id → Reply → Step → Bool
is_retirement id (Retired code) (Retire gone) = is_same_id id gone
is_retirement id _ _ = false

-- Whether the event retires the id.
abbrev pub retires : Id → Event → Bool
retires id event = is_retirement id event.reply event.step

-- The program of the virtual connection after the step with this reply, if it was this one before: a reload gives it
-- another.
abbrev pub named_after : Vc → Id → Reply → Step → Id
named_after vc program (Reloaded old) (Reload other next) = if is_same_vc vc other then next else program
named_after vc program _ _ = program

-- The program of the virtual connection after these events, if it was this one before them.
abbrev pub program_after : Vc → Id → List Event → Id
program_after vc first log = fold (λ program event. named_after vc program event.reply event.step) first log

-- The judged cell of the reply, if it has one.
abbrev pub judged_in_reply : Reply → Option JudgedView
judged_in_reply (Answered answer) = judged_in_answer answer
judged_in_reply _ = None

-- The judged cells of the log.
abbrev pub judged_cells : List Event → List JudgedView
judged_cells log = filter_map (λ event. judged_in_reply event.reply) log

-- The verdicts on the judged cells of this line.
abbrev pub verdicts_on : ℕ → List Event → List Verdict
verdicts_on line log = map (λ judged. judged.verdict) (filter (λ judged. judged.line == line) (judged_cells log))

-- Whether a judged cell arrived with CLP 1, from its verdict and the leaving cell: a tagged cell arrived with CLP 0.
abbrev pub came_with : Verdict → List ℕ → Bool
came_with Pass leaving = has_low_priority leaving
came_with Tag leaving = false
came_with Discard leaving = has_low_priority leaving
came_with Refuse leaving = has_low_priority leaving

-- A judged cell as it arrived, which is how its connection's history has it.
abbrev pub as_it_came : JudgedView → NamedCell
as_it_came judged = record {
  moment = judged.moment;
  clp = came_with judged.verdict judged.cell;
  value = judged.value;
  program = judged.program;
}

-- The cells that were judged on the line.
abbrev pub cells_on : ℕ → List Event → List NamedCell
cells_on line log = map as_it_came (filter (λ judged. judged.line == line) (judged_cells log))

-- The cells that were judged on the virtual connection, on a card of this shape.
abbrev pub cells_judged_on : Shape → Vc → List Event → List NamedCell
cells_judged_on shape vc log = map as_it_came (filter (λ judged. is_same_vc vc (vc_of shape.side judged.cell)) (judged_cells log))

-- The event in which this cell entered the port at this moment.
abbrev pub entering : ℕ → List ℕ → ℕ → Event
entering port cell moment = record { step = Enter port cell moment; reply = Entered }

-- The event in which the cell of the port was picked.
abbrev pub picking : ℕ → Event
picking port = record { step = Pick port; reply = Picked }

-- The event in which the cell of the port was judged, with its answer.
abbrev pub judging : ℕ → JudgedView → Event
judging port judged = record {
  step = Judge port;
  reply = Answered (Judged judged.line judged.number judged.moment judged.value judged.program judged.verdict judged.cell);
}

-- The event in which this connection was set up, with this number among all.
abbrev pub setting_up : Ask → ℕ → Event
setting_up ask incarnation = record {
  step = Setup ask;
  reply = SetUp (record { vc = ask.vc; incarnation = incarnation });
}

-- The event in which the code was loaded under the id.
abbrev pub loading : List Instr → Id → Event
loading code id = record { step = Load code; reply = Loaded id }

-- The port's latest move was that this cell entered it at this moment.
pub record HasEntered (log : List Event) (port : ℕ) (cell : List ℕ) (moment : ℕ) : Type 0 where
  pub earlier : List Event
  pub later : List Event
  pub cut : log ≡ earlier ++ entering port cell moment ∷ later
  pub alone : Never (moves port) later

-- The virtual connection was set up with this request. These events followed, and none of them released it or set it up
-- again.
pub record IsInForceSince (log : List Event) (vc : Vc) (ask : Ask) (since : List Event) : Type 0 where
  pub earlier : List Event
  pub incarnation : ℕ
  pub asked : ask.vc ≡ vc
  pub cut : log ≡ earlier ++ setting_up ask incarnation ∷ since
  pub unchanged : Never (changes vc) since

-- The code was loaded under the id, and no code was loaded under it before or after.
pub record IsLoadedOnce (log : List Event) (id : Id) (code : List Instr) : Type 0 where
  pub earlier : List Event
  pub later : List Event
  pub cut : log ≡ earlier ++ loading code id ∷ later
  pub first : Never (loads id) earlier
  pub last : Never (loads id) later

-- The code is live under the id: it is the only code ever loaded under it, and the id was not retired.
pub record IsLiveCode (log : List Event) (id : Id) (code : List Instr) : Type 0 where
  pub loaded : IsLoadedOnce log id code
  pub kept : Never (retires id) log

-- The code is live under the id after the log, and after each of the further events.
abbrev pub IsLiveThrough : List Event → List Event → Id → List Instr → Type 0
IsLiveThrough log further id code =
    (so_far rest : List Event) → further ≡ so_far ++ rest → IsLiveCode (log ++ so_far) id code

-- The promise for a cell that was judged at this port, on a card of this shape, after these events.
pub record IsPromised (shape : Shape) (before : List Event) (port : ℕ) (judged : JudgedView) : Type 0 where
  -- The events in order: those before the connection of the cell was set up, the setup, those until the cell was
  -- picked, the pick, and those since.
  pub earlier : List Event
  pub ask : Ask
  pub incarnation : ℕ
  pub until : List Event
  pub since : List Event
  pub parts : before ≡ earlier ++ setting_up ask incarnation ∷ (until ++ picking port ∷ since)
  -- The port's latest move is the pick. Its move before that is that this cell entered it, at the moment in the answer.
  -- The cell leaves tagged if the verdict is Tag, otherwise unchanged.
  pub alone : Never (moves port) since
  pub came : List ℕ
  pub arrived : HasEntered (earlier ++ setting_up ask incarnation ∷ until) port came judged.moment
  pub left : judged.cell ≡ cell_after judged.verdict came
  -- The connection is that of the cell's header. Since the setup it was neither released nor set up again.
  pub own : ask.vc ≡ vc_of shape.side came
  pub unchanged : Never (changes ask.vc) (until ++ picking port ∷ since)
  -- The program is the one that the connection named when the cell was picked: one accepted code, live from then until
  -- the judgement. Its value on the cell is the one in the answer.
  pub named : judged.program ≡ program_after ask.vc ask.program until
  pub code : List Instr
  pub accepted : IsAccepted code
  pub live : IsLiveThrough (earlier ++ setting_up ask incarnation ∷ until) (picking port ∷ since) judged.program code
  pub gives : Gives code came judged.value
  -- The history of the connection is the list of the cells judged on it since it was set up. These are also the cells
  -- judged on its line since then.
  pub history : List NamedCell
  pub cells : history ≡ cells_judged_on shape ask.vc (until ++ picking port ∷ since)
  pub held : history ≡ cells_on judged.line (until ++ picking port ∷ since)
  -- From the first cell of the history to this one the moments never go back.
  pub in_order : IsHistory (history ++ named_cell came judged.moment judged.program judged.value ∷ [])
  -- The moment is at most 2^62.
  pub in_time : judged.moment ≤ 2 ^ 62
  -- The verdict is that of the contract with the value's number, from its buckets after the history. It is Refuse if
  -- there is no such contract.
  pub decided : judged.verdict ≡ verdict_after ask.contracts.items empty_buckets history (named_cell came judged.moment judged.program judged.value)
  -- The number counts the verdicts of this kind on the line, this one included.
  pub counted : judged.number ≡ number_with (verdicts_on judged.line before) judged.verdict

-- The promise holds for each judged cell of a log.
abbrev pub EachJudgedCellIsPromised : Type 0
EachJudgedCellIsPromised = (shape : Shape) (before after : List Event) (port : ℕ) (judged : JudgedView)
    → IsLog shape (before ++ judging port judged ∷ after)
    → IsPromised shape before port judged

-- The headline. An accepted program returns on every cell within as many instructions as it has, never leaving its code
-- or reading an unwritten scratch word. Over every interleaving of arrivals, loads, retirements, reloads, setups and
-- releases, each judged cell is judged by one whole accepted program still in the arena, and passed, tagged or
-- discarded as the continuous-state leaky buckets of the named contract say for that connection's earlier cells.
-- The earlier cells are those judged since the connection was set up. A cell whose value names no contract is refused.
pub record TheHeadline : Type 0 where
  pub programs_return : (code : List Instr) (cell : List ℕ) → IsAccepted code → ReturnsSafely code cell
  pub cells_are_promised : EachJudgedCellIsPromised
