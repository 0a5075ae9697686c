-- The fault lines of a card: the part that found the error, and the error's number and name.
use Rattle.std.specs.Prelude.{ℕ, List, ◌++◌, codes, Option, Some, None, option_map}
use Rattle.card_core.specs.declared.fault.CardFault.{CardFault}
use Rattle.card_core.specs.declared.fault.CardFault.TheVariants as card
use Rattle.card_core.specs.declared.fault.DeskFault.{DeskFault}
use Rattle.card_core.specs.declared.fault.DeskFault.TheVariants as desk
use Rattle.leaky.specs.Faults.{gcra_fault_text}
use Rattle.leaky.specs.declared.gcra.GcraFault.{GcraFault}
use Rattle.text_words.specs.FaultLines.{line}

-- The answer to a script whose first line with words doesn't open a card.
abbrev pub no_card : List ℕ
no_card = codes "fault script 2 NoCard\n"

-- The answer to a shape that no card has: which of its numbers is the first out of its limits. NoMemory is never printed.
abbrev pub shape_fault_line : CardFault → List ℕ
shape_fault_line card.Programs = line (codes "fault shape 1 Programs")
shape_fault_line card.Lines = line (codes "fault shape 2 Lines")
shape_fault_line card.Ports = line (codes "fault shape 3 Ports")
shape_fault_line card.Journal = line (codes "fault shape 4 Journal")
shape_fault_line card.NoMemory = line (codes "fault shape 5 NoMemory")

-- The answer to a command in which two numbers are no rate.
abbrev pub gcra_fault : GcraFault → List ℕ
gcra_fault fault = line (codes "fault gcra " ++ gcra_fault_text fault)

-- The number and the name of an error of the desk. NoMemory has none.
abbrev pub desk_name : DeskFault → Option (List ℕ)
desk_name desk.NoProgram = Some (codes "1 NoProgram")
desk_name desk.NoConnection = Some (codes "2 NoConnection")
desk_name desk.Taken = Some (codes "3 Taken")
desk_name desk.NoLine = Some (codes "4 NoLine")
desk_name desk.InUse = Some (codes "5 InUse")
desk_name desk.ProgramsFull = Some (codes "6 ProgramsFull")
desk_name desk.Exhausted = Some (codes "7 Exhausted")
desk_name desk.BadContracts = Some (codes "8 BadContracts")
desk_name desk.Busy = Some (codes "9 Busy")
desk_name desk.NoMemory = None
desk_name desk.Stale = Some (codes "11 Stale")

-- The answer to a command that the desk refuses. NoMemory has none.
abbrev pub desk_fault : DeskFault → Option (List ℕ)
desk_fault fault = option_map (λ name. line (codes "fault desk " ++ name)) (desk_name fault)

-- The answer to the name of a program that was never given.
abbrev pub no_such_program : List ℕ
no_such_program = codes "fault desk 1 NoProgram\n"

-- The answer to a cell that isn't judged, from the number and the name of the reason.
abbrev pub arrive_fault : List ℕ → List ℕ
arrive_fault name = line (codes "fault arrive " ++ name)
