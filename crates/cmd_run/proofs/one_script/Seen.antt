-- The view of a card, the part of it that a script can see: its programs by the numbers of their names, its connections
-- without their lines, and their cells without the ids of programs. The proof keeps it equal between two cards that
-- answer the same script.
use Rattle.std.proofs.Common.{ℕ, ◌==◌, Bool, if◌then◌else◌, List, [], ◌∷◌, length, map, Option, Some, None, take, drop}
use Rattle.std.specs.List.{list_any}
use Rattle.upc_cell.specs.Connection.{is_same_vc}
use Rattle.upc_cell.specs.declared.vc.Vc.{Vc}
use Rattle.bpf_code.specs.declared.instr.Instr.{Instr}
use Rattle.leaky.specs.declared.contract.Contract.{Contract}
use Rattle.leaky.specs.declared.verdict.Verdict.{Verdict}
use Rattle.line_record.specs.History.{NamedCell, empty_buckets, judged}
use Rattle.card_core.specs.World.{Connection, Loading, PortState, World}
use Rattle.card_core.specs.declared.shape.Shape.{Shape}
use Rattle.cmd_run.proofs.one_script.Numbers.{number_in}

-- A cell without the program that gave its value.
abbrev pub nameless : NamedCell → NamedCell
nameless cell = record cell { program = record { slot = 0; generation = 0 } }

-- A connection without its line and its incarnation.
pub record SeenConnection : Type 0 where
  pub program : ℕ
  pub contracts : List Contract
  pub history : List NamedCell
  pub returned : ℕ

-- A live program by its number.
pub record SeenProgram : Type 0 where
  pub number : ℕ
  pub code : List Instr

-- The number of programs that were loaded, their codes, the latest first, the live ones, the connections, the number of all connections
-- ever, and the ports.
pub record Seen : Type 0 where
  pub shape : Shape
  pub programs : ℕ
  pub codes : List (List Instr)
  pub live : List SeenProgram
  pub connections : List (Vc × SeenConnection)
  pub incarnations : ℕ
  pub ports : List PortState

abbrev pub seen_program : List Loading → Loading → SeenProgram
seen_program given loading = record { number = number_in given loading.id; code = loading.code }

abbrev pub seen_live : List Loading → List Loading → List SeenProgram
seen_live given live = map (seen_program given) live

abbrev pub seen_connection : List Loading → Connection → SeenConnection
seen_connection given connection = record {
  program = number_in given connection.program;
  contracts = connection.contracts;
  history = map nameless connection.history;
  returned = connection.returned;
}

abbrev pub seen_entry : List Loading → Vc × Connection → Vc × SeenConnection
seen_entry given here = (here.0, seen_connection given here.1)

abbrev pub seen_connections : List Loading → List (Vc × Connection) → List (Vc × SeenConnection)
seen_connections given connections = map (seen_entry given) connections

-- The codes of these, in the same order.
abbrev pub codes_of : List Loading → List (List Instr)
codes_of given = map (λ loading. loading.code) given

-- The view of a world.
abbrev pub seen : World → Seen
seen world = record {
  shape = world.shape;
  programs = length world.loaded;
  codes = codes_of world.loaded;
  live = seen_live world.loaded world.live;
  connections = seen_connections world.loaded world.connections;
  incarnations = world.incarnations;
  ports = world.ports;
}

-- The code of the program with this number.
abbrev pub code_of : List SeenProgram → ℕ → Option (List Instr)
code_of [] number = None
code_of (program ∷ later) number = if number == program.number then Some program.code else code_of later number

-- The programs without the one with this number.
abbrev pub without_program : List SeenProgram → ℕ → List SeenProgram
without_program [] number = []
without_program (program ∷ later) number =
    if number == program.number then without_program later number else program ∷ without_program later number

-- The connection at this virtual connection.
abbrev pub found_at : List (Vc × SeenConnection) → Vc → Option SeenConnection
found_at [] vc = None
found_at (here ∷ later) vc = if is_same_vc vc here.0 then Some here.1 else found_at later vc

-- The connections without the one at this virtual connection.
abbrev pub without_at : List (Vc × SeenConnection) → Vc → List (Vc × SeenConnection)
without_at [] vc = []
without_at (here ∷ later) vc = if is_same_vc vc here.0 then without_at later vc else here ∷ without_at later vc

abbrev pub with_at : List (Vc × SeenConnection) → Vc → SeenConnection → List (Vc × SeenConnection)
with_at connections vc connection = (vc, connection) ∷ without_at connections vc

-- Some connection names the program.
abbrev pub names_number : List (Vc × SeenConnection) → ℕ → Bool
names_number connections number = list_any (λ here. here.1.program == number) connections

-- The verdicts on the cells that no cut has returned.
abbrev pub kept_verdicts : SeenConnection → List Verdict
kept_verdicts connection = map (λ entry. entry.verdict)
    (judged connection.contracts empty_buckets (take connection.returned connection.history) (drop connection.returned connection.history))
