-- The world after each step: one that succeeds, one that is refused, and one that fails to allocate.
use Rattle.std.specs.Prelude.{◌≡◌, ℕ, ◌+◌, ◌<◌, ◌≤◌, ◌⊎◌, List, [], ◌∷◌, ◌++◌, length, Option, Some, None, MatchOption, IsTrue, slice_get, slice_set}
use Rattle.upc_cell.specs.declared.vc.Vc.{Vc}
use Rattle.upc_cell.specs.Tagged.{tagged_form}
use Rattle.bpf_code.specs.declared.instr.Instr.{Instr}
use Rattle.bpf_verify.specs.Accepted.{IsAccepted}
use Rattle.bpf_interp.specs.Value.{Value}
use Rattle.gen_arena.specs.declared.id.Id.{Id}
use Rattle.leaky.specs.declared.verdict.Verdict.{Verdict}
use Rattle.leaky.specs.declared.verdict.Verdict.TheVariants.{Pass, Tag, Discard, Refuse}
use Rattle.line_record.specs.Tally.{count_of}
use Rattle.line_record.specs.History.{NamedCell, empty_buckets, verdict_after, judged}
use Rattle.line_record.specs.JournalRun.{tallied}
use Rattle.line_record.specs.StateAfter.{IsStateAfter}
use Rattle.line_record.specs.Piece.{PieceView}
use Rattle.card_core.specs.declared.answer.Answer.{Answer}
use Rattle.card_core.specs.declared.answer.Answer.TheVariants.{Judged}
use Rattle.card_core.specs.declared.ask.Ask.{Ask}
use Rattle.card_core.specs.declared.fault.DeskFault.TheVariants.{NoMemory}
use Rattle.card_core.specs.declared.reply.Reply.{Reply}
use Rattle.card_core.specs.declared.reply.Reply.TheVariants.{Entered, Picked, Answered, Loaded, Retired, SetUp, NotSetUp, Reloaded, Released, Cut as CutOff, Refused}
use Rattle.card_core.specs.declared.step.Step.{Step}
use Rattle.card_core.specs.declared.step.Step.TheVariants.{Enter, Pick, Judge, Load, Retire, Setup, Reload, Release, Cut}
use Rattle.upc_cell.specs.Connection.{vc_of}
use Rattle.upc_cell.specs.Header.{has_low_priority}
use Rattle.line_record.specs.Tally.{tally_of}
use Rattle.card_core.specs.World.{World, Connection, Picking, PortState, outside, entered, picked, code_in, without_code, times_given, returned_cells, kept_cells, connection_in, without_connection, with_connection, with_port, with_verdict, is_open_slot, is_open_line}
use Rattle.card_core.specs.Refusals.{refusal}

-- The code gives this value for the cell, after at most as many steps as it has instructions.
abbrev pub Gives : List Instr → List ℕ → ℕ → Type 0
Gives code cell value = (steps : ℕ) × Value code cell value steps × (steps ≤ length code)

-- The leaving cell: tagged if the verdict is Tag, otherwise unchanged.
abbrev pub cell_after : Verdict → List ℕ → List ℕ
cell_after Pass cell = cell
cell_after Tag cell = tagged_form cell
cell_after Discard cell = cell
cell_after Refuse cell = cell

-- A cell that arrived, as its connection's history has it.
abbrev pub named_cell : List ℕ → ℕ → Id → ℕ → NamedCell
named_cell cell moment program value = record {
  moment = moment;
  clp = has_low_priority cell;
  value = value;
  program = program;
}

-- A picked cell, as its connection's history will have it.
abbrev pub cell_of_picking : Picking → NamedCell
cell_of_picking picking = named_cell picking.cell picking.moment picking.program picking.value

-- The verdict on the next cell of a connection: that of the contract that the cell names, from its buckets after the
-- connection's history.
abbrev pub verdict_on : Connection → NamedCell → Verdict
verdict_on connection cell = verdict_after connection.contracts empty_buckets connection.history cell

-- Enter: the port has the cell.
pub record Enters (before : World) (port : ℕ) (cell : List ℕ) (moment : ℕ) (reply : Reply) (after : World) : Type 0 where
  pub answer : reply ≡ Entered
  pub world : after ≡ with_port before port (entered cell moment)

-- The values that a pick stores with its cell.
abbrev pub picking_of : List ℕ → ℕ → Vc → Connection → ℕ → Picking
picking_of cell moment vc connection value = record {
  cell = cell;
  moment = moment;
  vc = vc;
  incarnation = connection.incarnation;
  line = connection.line;
  program = connection.program;
  value = value;
}

-- Pick: the port now has the cell with its connection's incarnation, line and program, and the value of that program's
-- code for the cell.
pub record Picks (before : World) (port : ℕ) (reply : Reply) (after : World) : Type 0 where
  pub cell : List ℕ
  pub moment : ℕ
  pub had : slice_get before.ports port ≡ Some (entered cell moment)
  pub connection : Connection
  pub found : connection_in before.connections (vc_of before.shape.side cell) ≡ Some connection
  pub code : List Instr
  pub named : code_in before.loaded connection.program ≡ Some code
  pub value : ℕ
  pub gives : Gives code cell value
  pub answer : reply ≡ Picked
  pub world : after ≡ with_port before port (picked (picking_of cell moment (vc_of before.shape.side cell) connection value))

-- The connection with one more cell in its history.
abbrev pub with_cell : Connection → NamedCell → Connection
with_cell connection cell = record connection { history = connection.history ++ cell ∷ [] }

-- The world after the picked cell is judged on its connection: the connection's history has the cell at its end, the
-- line's verdicts the verdict, and the port has no cell.
abbrev pub judged_world : World → ℕ → Picking → Connection → World
judged_world before port picking connection = record before {
  connections = with_connection before.connections picking.vc (with_cell connection (cell_of_picking picking));
  verdicts = with_verdict before.verdicts connection.line (verdict_on connection (cell_of_picking picking));
  ports = slice_set before.ports port outside;
}

-- The number of verdicts of this kind among these, plus 1.
abbrev pub number_with : List Verdict → Verdict → ℕ
number_with verdicts verdict = count_of (tally_of verdicts) verdict + 1

-- The answer to a picked cell that is judged on its connection.
abbrev pub judged_answer : World → Picking → Connection → Answer
judged_answer before picking connection =
    let verdict = verdict_on connection (cell_of_picking picking) in
    Judged connection.line (number_with (before.verdicts connection.line) verdict)
    picking.moment picking.value picking.program verdict (cell_after verdict picking.cell)

-- Judge: the picked cell is judged on its connection.
pub record Judges (before : World) (port : ℕ) (reply : Reply) (after : World) : Type 0 where
  pub picking : Picking
  pub had : slice_get before.ports port ≡ Some (picked picking)
  pub connection : Connection
  pub found : connection_in before.connections picking.vc ≡ Some connection
  pub answer : reply ≡ Answered (judged_answer before picking connection)
  pub world : after ≡ judged_world before port picking connection

-- Load: some open slot is given once more, and the code, which is accepted, is live under the new id.
pub record Loads (before : World) (code : List Instr) (reply : Reply) (after : World) : Type 0 where
  pub accepted : IsAccepted code
  pub slot : ℕ
  pub within : slot < before.shape.programs
  pub open_slot : IsTrue (is_open_slot before slot)
  pub id : Id
  pub here : id.slot ≡ slot
  pub next : id.generation ≡ times_given before.loaded slot + 1
  pub answer : reply ≡ Loaded id
  pub world : after ≡ record before {
    loaded = record { id = id; code = code } ∷ before.loaded;
    live = record { id = id; code = code } ∷ before.live;
  }

-- Retire: the id is no longer live, and the reply has its code.
pub record Retires (before : World) (id : Id) (reply : Reply) (after : World) : Type 0 where
  pub code : List Instr
  pub was : code_in before.live id ≡ Some code
  pub answer : reply ≡ Retired code
  pub world : after ≡ record before { live = without_code before.live id }

-- A connection that was just set up.
abbrev pub new_connection : Ask → ℕ → ℕ → Connection
new_connection ask line incarnation = record {
  incarnation = incarnation;
  line = line;
  program = ask.program;
  contracts = ask.contracts.items;
  history = [];
  returned = 0;
}

-- Setup: the connection exists, without a cell, on some open line, under the next incarnation.
pub record SetsUp (before : World) (ask : Ask) (reply : Reply) (after : World) : Type 0 where
  pub line : ℕ
  pub within : line < before.shape.lines
  pub open_line : IsTrue (is_open_line before line)
  pub answer : reply ≡ SetUp (record { vc = ask.vc; incarnation = before.incarnations + 1 })
  pub world : after ≡ record before {
    connections = with_connection before.connections ask.vc (new_connection ask line (before.incarnations + 1));
    incarnations = before.incarnations + 1;
  }

-- Reload: the connection names the new program, the reply has the old one, and nothing else changes.
pub record Reloads (before : World) (vc : Vc) (program : Id) (reply : Reply) (after : World) : Type 0 where
  pub connection : Connection
  pub found : connection_in before.connections vc ≡ Some connection
  pub answer : reply ≡ Reloaded connection.program
  pub world : after ≡ record before {
    connections = with_connection before.connections vc (record connection { program = program });
  }

-- The piece that a cut or a release returns: the cells that no cut has returned, with their verdicts, and the states before and
-- after them. The counts at its end are those of all verdicts ever given on the line, and so are the counts at its
-- start plus those of its entries.
pub record IsPieceOf (world : World) (vc : Vc) (connection : Connection) (piece : PieceView) : Type 0 where
  pub owner : piece.owner ≡ record { vc = vc; incarnation = connection.incarnation }
  pub contracts : piece.contracts ≡ connection.contracts
  pub entries : piece.entries ≡ judged connection.contracts empty_buckets (returned_cells connection) (kept_cells connection)
  pub start : IsStateAfter connection.contracts (returned_cells connection) piece.start
  pub end : IsStateAfter connection.contracts connection.history piece.end
  pub counts : piece.end.counts ≡ tally_of (world.verdicts connection.line)
  pub together : tallied piece.start.counts piece.entries ≡ tally_of (world.verdicts connection.line)

-- Release: the connection is gone, and the reply has its last piece. The line's verdicts are unchanged.
pub record Releases (before : World) (vc : Vc) (reply : Reply) (after : World) : Type 0 where
  pub connection : Connection
  pub found : connection_in before.connections vc ≡ Some connection
  pub piece : PieceView
  pub last : IsPieceOf before vc connection piece
  pub answer : reply ≡ Released piece
  pub world : after ≡ record before { connections = without_connection before.connections vc }

-- Cut: the reply has a piece, and all cells of the connection's history count as returned.
pub record Cuts (before : World) (vc : Vc) (reply : Reply) (after : World) : Type 0 where
  pub connection : Connection
  pub found : connection_in before.connections vc ≡ Some connection
  pub piece : PieceView
  pub next : IsPieceOf before vc connection piece
  pub answer : reply ≡ CutOff piece
  pub world : after ≡ record before {
    connections = with_connection before.connections vc (record connection { returned = length connection.history });
  }

-- The effect of a step that succeeds.
abbrev pub Succeeds : World → Step → Reply → World → Type 0
Succeeds before (Enter port cell moment) reply after = Enters before port cell moment reply after
Succeeds before (Pick port) reply after = Picks before port reply after
Succeeds before (Judge port) reply after = Judges before port reply after
Succeeds before (Load code) reply after = Loads before code reply after
Succeeds before (Retire id) reply after = Retires before id reply after
Succeeds before (Setup ask) reply after = SetsUp before ask reply after
Succeeds before (Reload vc program) reply after = Reloads before vc program reply after
Succeeds before (Release vc) reply after = Releases before vc reply after
Succeeds before (Cut vc) reply after = Cuts before vc reply after

-- The reply to a step after an allocation failure. Only Setup and Cut allocate.
abbrev pub without_memory : Step → Option Reply
without_memory (Setup ask) = Some (NotSetUp NoMemory ask)
without_memory (Cut vc) = Some (Refused NoMemory)
without_memory _ = None

-- An allocation of the step failed, and nothing changed.
pub record FindsNoMemory (before : World) (step : Step) (reply : Reply) (after : World) : Type 0 where
  pub answer : without_memory step ≡ Some reply
  pub world : after ≡ before

-- After a refused Pick: if a cell had entered the port, the port has no cell now. Otherwise it is unchanged.
abbrev pub left_by_pick : World → ℕ → Option PortState → World
left_by_pick before port (Some (entered cell moment)) = with_port before port outside
left_by_pick before port _ = before

-- After a refused Judge: if the port had a picked cell, it has no cell now. Otherwise it is unchanged.
abbrev pub left_by_judge : World → ℕ → Option PortState → World
left_by_judge before port (Some (picked picking)) = with_port before port outside
left_by_judge before port _ = before

-- The world after a refused step. After a Pick or a Judge it depends on the state of the port; after any other step it
-- is unchanged.
abbrev pub left_by : World → Step → World
left_by before (Pick port) = left_by_pick before port (slice_get before.ports port)
left_by before (Judge port) = left_by_judge before port (slice_get before.ports port)
left_by before _ = before

-- The step was refused with this reply.
pub record IsRefused (before : World) (step : Step) (refused reply : Reply) (after : World) : Type 0 where
  pub answer : reply ≡ refused
  pub world : after ≡ left_by before step

-- The step with this reply may lead from the world before to the world after. If there is a reason to refuse it, it is
-- refused. Otherwise it succeeds, or an allocation fails.
abbrev pub WorldStep : World → Step → Reply → World → Type 0
WorldStep before step reply after = MatchOption (refusal before step)
    (Succeeds before step reply after ⊎ FindsNoMemory before step reply after)
    (λ refused. IsRefused before step refused reply after)
