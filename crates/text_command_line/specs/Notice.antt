-- What the program says if its input is a terminal.
use Rattle.std.specs.Prelude.{ℕ, List, ◌++◌, codes}
use Rattle.text_command_line.specs.declared.choice.Choice.{Choice}
use Rattle.text_command_line.specs.declared.choice.Choice.TheVariants.{Check, Eval, Run, Ports}

-- The name of a subcommand.
abbrev pub name_of : Choice → List ℕ
name_of Check = codes "check"
name_of Eval = codes "eval"
name_of Run = codes "run"
name_of Ports = codes "ports"

-- What a subcommand waits for.
abbrev pub awaited_input : Choice → List ℕ
awaited_input Check = codes "reading the source of a program from the terminal, to its end"
awaited_input Eval = codes "reading a program and cells from the terminal, a line each, to the end"
awaited_input Run = codes "reading a script of a card from the terminal, a line each, to the end"
awaited_input Ports = codes "reading a script of a card from the terminal, to its end; the answers come then"

-- The name of the subcommand, and what it waits for.
abbrev pub notice : Choice → List ℕ
notice choice = codes "upc " ++ name_of choice ++ codes ": " ++ awaited_input choice
