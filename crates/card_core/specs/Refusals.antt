-- The refusals of each step. They are tried in the order given above each definition.
use Rattle.std.specs.Prelude.{ℕ, ◌^◌, ◌==◌, nat_lt, nat_le, not, if◌then◌else◌, length, Option, Some, None, is_some, is_none, option_map, slice_get}
use Rattle.upc_cell.specs.declared.vc.Vc.{Vc}
use Rattle.gen_arena.specs.declared.id.Id.{Id}
use Rattle.line_record.specs.History.{last_moment}
use Rattle.card_core.specs.declared.answer.Answer.{Answer}
use Rattle.card_core.specs.declared.answer.Answer.TheVariants.{MomentTooLate, MomentBack, JournalFull}
use Rattle.card_core.specs.declared.answer.Answer.TheVariants as cell_answers
use Rattle.card_core.specs.declared.ask.Ask.{Ask}
use Rattle.card_core.specs.declared.fault.DeskFault.{DeskFault}
use Rattle.card_core.specs.declared.fault.DeskFault.TheVariants.{NoProgram, NoConnection, Taken, NoLine, InUse, ProgramsFull, Exhausted, BadContracts, Busy}
use Rattle.card_core.specs.declared.reply.Reply.{Reply}
use Rattle.card_core.specs.declared.reply.Reply.TheVariants.{NotNow, Answered, NotLoaded, NotSetUp, Refused}
use Rattle.card_core.specs.declared.step.Step.{Step}
use Rattle.card_core.specs.declared.step.Step.TheVariants.{Enter, Pick, Judge, Load, Retire, Setup, Reload, Release, Cut}
use Rattle.upc_cell.specs.Connection.{vc_of}
use Rattle.card_core.specs.World.{World, Connection, Picking, PortState, outside, entered, picked, code_in, connection_in, kept_cells, is_busy, any_below, is_open_slot, is_open_line, is_named}

-- Enter is refused if the port has a cell, or if there is no such port.
abbrev pub enter_refusal : Option PortState → Option Reply
enter_refusal None = Some NotNow
enter_refusal (Some outside) = None
enter_refusal (Some (entered cell moment)) = Some NotNow
enter_refusal (Some (picked picking)) = Some NotNow

-- Pick is refused if the port has no cell that entered, or if there is no such port; else if the cell's virtual
-- connection isn't set up.
abbrev pub pick_refusal : World → Option PortState → Option Reply
pick_refusal world None = Some NotNow
pick_refusal world (Some outside) = Some NotNow
pick_refusal world (Some (entered cell moment)) =
    if is_none (connection_in world.connections (vc_of world.shape.side cell))
    then Some (Answered cell_answers.NoConnection)
    else None
pick_refusal world (Some (picked picking)) = Some NotNow

-- A cell of this moment on the connection is refused if the moment is above 2^62; else if the moment is before that of the
-- last judged cell; else if the cells that no cut has returned fill a journal, or 2^62 cells were judged on the line.
abbrev pub cell_refusal : World → Connection → ℕ → Option Answer
cell_refusal world connection moment =
    if nat_lt (2 ^ 62) moment then Some MomentTooLate
    else if nat_lt moment (last_moment 0 connection.history) then Some (MomentBack (last_moment 0 connection.history))
    else if nat_le world.shape.journal (length (kept_cells connection)) then Some JournalFull
    else if nat_le (2 ^ 62) (length (world.verdicts connection.line)) then Some JournalFull
    else None

-- A picked cell is refused if its virtual connection no longer has a connection of the picked incarnation; else if that
-- connection refuses the cell.
abbrev pub picking_refusal : World → Picking → Option Connection → Option Answer
picking_refusal world picking None = Some cell_answers.Released
picking_refusal world picking (Some connection) =
    if connection.incarnation == picking.incarnation
    then cell_refusal world connection picking.moment
    else Some cell_answers.Released

-- Judge is refused if the port has no picked cell, or if there is no such port; else if the picked cell is refused.
abbrev pub judge_refusal : World → Option PortState → Option Reply
judge_refusal world None = Some NotNow
judge_refusal world (Some outside) = Some NotNow
judge_refusal world (Some (entered cell moment)) = Some NotNow
judge_refusal world (Some (picked picking)) =
    option_map Answered (picking_refusal world picking (connection_in world.connections picking.vc))

-- Load is refused if some port has a cell; else if each slot has a live id or was given 4294967295 times.
abbrev pub load_fault : World → Option DeskFault
load_fault world =
    if is_busy world then Some Busy
    else if not (any_below world.shape.programs (is_open_slot world)) then Some ProgramsFull
    else None

-- Retire is refused if some port has a cell; else if the id isn't live; else if some connection names it.
abbrev pub retire_fault : World → Id → Option DeskFault
retire_fault world id =
    if is_busy world then Some Busy
    else if is_none (code_in world.live id) then Some NoProgram
    else if is_named world id then Some InUse
    else None

-- Setup is refused if the program isn't live; else if the virtual connection is set up already; else if there is no
-- contract; else if each line has a connection; else if the last incarnation was given.
abbrev pub setup_fault : World → Ask → Option DeskFault
setup_fault world ask =
    if is_none (code_in world.live ask.program) then Some NoProgram
    else if is_some (connection_in world.connections ask.vc) then Some Taken
    else if length ask.contracts.items == 0 then Some BadContracts
    else if not (any_below world.shape.lines (is_open_line world)) then Some NoLine
    else if nat_le (2 ^ 62) world.incarnations then Some Exhausted
    else None

-- Reload is refused if the program isn't live; else if there is no such connection.
abbrev pub reload_fault : World → Vc → Id → Option DeskFault
reload_fault world vc program =
    if is_none (code_in world.live program) then Some NoProgram
    else if is_none (connection_in world.connections vc) then Some NoConnection
    else None

-- Release and Cut are refused if there is no such connection.
abbrev pub missing_fault : World → Vc → Option DeskFault
missing_fault world vc = if is_none (connection_in world.connections vc) then Some NoConnection else None

-- The reply to a refused step, or None if the step isn't refused.
abbrev pub refusal : World → Step → Option Reply
refusal world (Enter port cell moment) = enter_refusal (slice_get world.ports port)
refusal world (Pick port) = pick_refusal world (slice_get world.ports port)
refusal world (Judge port) = judge_refusal world (slice_get world.ports port)
refusal world (Load code) = option_map (λ fault. NotLoaded fault code) (load_fault world)
refusal world (Retire id) = option_map Refused (retire_fault world id)
refusal world (Setup ask) = option_map (λ fault. NotSetUp fault ask) (setup_fault world ask)
refusal world (Reload vc program) = option_map Refused (reload_fault world vc program)
refusal world (Release vc) = option_map Refused (missing_fault world vc)
refusal world (Cut vc) = option_map Refused (missing_fault world vc)
