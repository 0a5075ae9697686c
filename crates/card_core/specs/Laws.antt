-- Laws of all worlds that logs lead to.
use Rattle.std.specs.Prelude.{◌≡◌, ℕ, Bool, true, false, ⊤, List, [], ◌∷◌, ◌++◌, Some, IsSome, slice_get}
use Rattle.upc_cell.specs.declared.vc.Vc.{Vc}
use Rattle.bpf_code.specs.declared.instr.Instr.{Instr}
use Rattle.bpf_verify.specs.Accepted.{IsAccepted}
use Rattle.gen_arena.specs.declared.id.Id.{Id}
use Rattle.leaky.specs.declared.contract.Contract.{Contract}
use Rattle.leaky.specs.Contract.{peak_of}
use Rattle.leaky.specs.Laws.{IsBounded}
use Rattle.line_record.specs.History.{numbered, empty_buckets, judged}
use Rattle.line_record.specs.Charges.{peak_charges}
use Rattle.card_core.specs.declared.answer.Answer.TheVariants.{NoMemory as CellMemory}
use Rattle.card_core.specs.declared.ask.Ask.{Ask}
use Rattle.card_core.specs.declared.fault.DeskFault.TheVariants.{NoMemory}
use Rattle.card_core.specs.declared.reply.Reply.{Reply}
use Rattle.card_core.specs.declared.reply.Reply.TheVariants.{Answered, NotLoaded, NotSetUp, Refused}
use Rattle.card_core.specs.declared.shape.Shape.{Shape}
use Rattle.card_core.specs.declared.step.Step.{Step}
use Rattle.card_core.specs.declared.step.Step.TheVariants.{Load, Setup, Cut}
use Rattle.card_core.specs.World.{World, Loading, Connection, Picking, picked, code_in, connection_in}
use Rattle.card_core.specs.Steps.{WorldStep}
use Rattle.card_core.specs.Log.{Event, Run, Leads, IsLog}
use Rattle.card_core.specs.Stale.{is_stale}
use Rattle.card_core.specs.Judged.{JudgedView}
use Rattle.card_core.specs.Headline.{program_after, cells_judged_on, cells_on, IsInForceSince, IsPromised}

-- The program of each connection is live. So is the program of each picked cell, even if its connection has another
-- program by now, or was released or set up again.
pub record NamesLivePrograms (world : World) : Type 0 where
  pub connections : (vc : Vc) (connection : Connection) → connection_in world.connections vc ≡ Some connection
      → IsSome (code_in world.live connection.program)
  pub ports : (port : ℕ) (picking : Picking) → slice_get world.ports port ≡ Some (picked picking)
      → IsSome (code_in world.live picking.program)

-- NamesLivePrograms holds in every world that a log leads to.
abbrev pub NamedProgramsAreLive : Type 0
NamedProgramsAreLive = (shape : Shape) (log : List Event) (world : World) → Leads shape log world → NamesLivePrograms world

-- No id was given twice, and each code that was loaded is accepted.
pub record GivesEachIdOnce (world : World) : Type 0 where
  pub once : (place other : ℕ) (one another : Loading)
      → slice_get world.loaded place ≡ Some one → slice_get world.loaded other ≡ Some another
      → one.id ≡ another.id → place ≡ other
  pub accepted : (place : ℕ) (loading : Loading) → slice_get world.loaded place ≡ Some loading
      → IsAccepted loading.code

-- GivesEachIdOnce holds in every world that a log leads to.
abbrev pub IdsAreGivenOnce : Type 0
IdsAreGivenOnce = (shape : Shape) (log : List Event) (world : World) → Leads shape log world → GivesEachIdOnce world

-- The code of a given id never changes, whatever events follow.
abbrev pub IdsNameOneCode : Type 0
IdsNameOneCode = (shape : Shape) (log further : List Event) (world later : World)
    → Leads shape log world → Run world further later
    → (id : Id) (code : List Instr) → code_in world.loaded id ≡ Some code → code_in later.loaded id ≡ Some code

-- No two connections have the same line or the same incarnation.
pub record KeepsConnectionsApart (world : World) : Type 0 where
  pub lines : (one other : Vc) (connection another : Connection)
      → connection_in world.connections one ≡ Some connection → connection_in world.connections other ≡ Some another
      → connection.line ≡ another.line → one ≡ other
  pub incarnations : (one other : Vc) (connection another : Connection)
      → connection_in world.connections one ≡ Some connection → connection_in world.connections other ≡ Some another
      → connection.incarnation ≡ another.incarnation → one ≡ other

-- KeepsConnectionsApart holds in every world that a log leads to.
abbrev pub ConnectionsAreApart : Type 0
ConnectionsAreApart = (shape : Shape) (log : List Event) (world : World) → Leads shape log world → KeepsConnectionsApart world

-- The burst bound of ITU-T I.371, over the history of each connection: at most 1 + (d + tau) div T of the cells that
-- one of its contracts passed or tagged have moments within any span of d ticks, for the increment T and the limit tau
-- of the contract's bucket 1.
abbrev pub ConnectionsBoundBursts : Type 0
ConnectionsBoundBursts = (shape : Shape) (log : List Event) (world : World) → Leads shape log world
    → (vc : Vc) (connection : Connection) → connection_in world.connections vc ≡ Some connection
    → (number : ℕ) (contract : Contract) → numbered connection.contracts number ≡ Some contract
    → (first span : ℕ)
    → IsBounded first span (peak_charges number (judged connection.contracts empty_buckets [] connection.history)) (peak_of contract)

-- Whether the reply reports an allocation failure.
abbrev pub is_of_memory : Reply → Bool
is_of_memory (Answered CellMemory) = true
is_of_memory (NotLoaded NoMemory code) = true
is_of_memory (NotSetUp NoMemory ask) = true
is_of_memory (Refused NoMemory) = true
is_of_memory _ = false

-- If the step is a Load, its code is accepted, as that of every program is.
abbrev pub LoadsAccepted : Step → Type 0
LoadsAccepted (Load code) = IsAccepted code
LoadsAccepted _ = ⊤

-- In every world that a log leads to, each step has a reply that reports no allocation failure.
abbrev pub StepsHaveReplies : Type 0
StepsHaveReplies = (shape : Shape) (log : List Event) (world : World) → Leads shape log world
    → (step : Step) → LoadsAccepted step
    → (reply : Reply) × (after : World) × WorldStep world step reply after × (is_of_memory reply ≡ false)

-- Whether the step may allocate: it is a Setup or a Cut.
abbrev pub takes_memory : Step → Bool
takes_memory (Setup ask) = true
takes_memory (Cut vc) = true
takes_memory _ = false

-- The reply isn't Stale, and reports an allocation failure only if the step may allocate.
pub record AnswersAsItMay (event : Event) : Type 0 where
  pub never_stale : is_stale event.reply ≡ false
  pub memory : is_of_memory event.reply ≡ true → takes_memory event.step ≡ true

-- AnswersAsItMay holds for every event of a log.
abbrev pub SomeAnswersNeverCome : Type 0
SomeAnswersNeverCome = (shape : Shape) (before after : List Event) (event : Event)
    → IsLog shape (before ++ event ∷ after) → AnswersAsItMay event

-- The connection agrees with the log: it was set up by this request, with this incarnation, and was neither released
-- nor set up again since. Its program is the latest that it was given. Its history is the list of the cells judged
-- since then on its virtual connection, which are also those judged on its line.
pub record IsConnectionOfLog (shape : Shape) (log : List Event) (vc : Vc) (connection : Connection) : Type 0 where
  pub ask : Ask
  pub since : List Event
  pub in_force : IsInForceSince log vc ask since
  pub incarnation : connection.incarnation ≡ in_force.incarnation
  pub contracts : connection.contracts ≡ ask.contracts.items
  pub program : connection.program ≡ program_after vc ask.program since
  pub cells : connection.history ≡ cells_judged_on shape vc since
  pub held : connection.history ≡ cells_on connection.line since

-- Each connection of the world agrees with the log. Each connection that, by the log, was set up and neither released
-- nor set up again since is in the world.
pub record HasConnectionsOfLog (shape : Shape) (log : List Event) (world : World) : Type 0 where
  pub connections : (vc : Vc) (connection : Connection) → connection_in world.connections vc ≡ Some connection
      → IsConnectionOfLog shape log vc connection
  pub there : (vc : Vc) (ask : Ask) (since : List Event) → IsInForceSince log vc ask since
      → IsSome (connection_in world.connections vc)

-- HasConnectionsOfLog holds in every world that a log leads to.
abbrev pub ConnectionsFollowFromTheLog : Type 0
ConnectionsFollowFromTheLog = (shape : Shape) (log : List Event) (world : World) → Leads shape log world
    → HasConnectionsOfLog shape log world

-- The burst bound over the log alone, for the cells judged on a connection since it was set up that one of its
-- contracts passed or tagged.
abbrev pub LogsBoundBursts : Type 0
LogsBoundBursts = (shape : Shape) (log : List Event) → IsLog shape log
    → (vc : Vc) (ask : Ask) (since : List Event) → IsInForceSince log vc ask since
    → (number : ℕ) (contract : Contract) → numbered ask.contracts.items number ≡ Some contract
    → (first span : ℕ)
    → IsBounded first span (peak_charges number (judged ask.contracts.items empty_buckets [] (cells_judged_on shape vc since))) (peak_of contract)

-- The headline leaves one answer: if two judged cells of one line are both promised at this port after these events,
-- they are the same.
abbrev pub PromisesLeaveOneAnswer : Type 0
PromisesLeaveOneAnswer = (shape : Shape) (before : List Event) (port : ℕ) (one other : JudgedView)
    → IsPromised shape before port one → IsPromised shape before port other
    → one.line ≡ other.line → one ≡ other
