-- What `upc-lab` says if its input is a terminal.
use Rattle.std.specs.Prelude.{ℕ, List, ◌++◌, codes}
use Rattle.cmd_options.specs.declared.choice.Asked.{Asked}
use Rattle.cmd_options.specs.declared.choice.Asked.TheVariants.{Plain, Why, Cells, Fit, Police, Differ, Forward, Explain}
use Rattle.cmd_options.specs.declared.choice.Subcommand.{Subcommand}
use Rattle.cmd_options.specs.declared.choice.Subcommand.TheVariants as lab

-- The name of a subcommand, and what it reads.
abbrev pub lab_name_and_input : Subcommand → List ℕ × List ℕ
lab_name_and_input lab.Rules = (codes "rules", codes "rules")
lab_name_and_input lab.Asm = (codes "asm", codes "rules")
lab_name_and_input lab.Unused = (codes "unused", codes "rules")
lab_name_and_input lab.List = (codes "list", codes "a program")
lab_name_and_input lab.Trace = (codes "trace", codes "a program and cells")
lab_name_and_input lab.Size = (codes "size", codes "contracts")
lab_name_and_input lab.Links = (codes "links", codes "a capture")

-- The name of a subcommand.
abbrev pub lab_name_of : Subcommand → List ℕ
lab_name_of subcommand = (lab_name_and_input subcommand).0

-- The name of the subcommand, and what it waits for.
abbrev pub lab_notice : Subcommand → List ℕ
lab_notice subcommand =
    codes "upc-lab " ++ lab_name_of subcommand ++ codes ": reading " ++ (lab_name_and_input subcommand).1 ++ codes " from the terminal, to its end"

-- The notice for what was asked, unless it is that a setup script is explained, for which nothing is read.
abbrev pub asked_notice : Asked → List ℕ
asked_notice (Plain subcommand) = lab_notice subcommand
asked_notice (Why options) = codes "upc-lab why: reading rules, a line `cells` and cells from the terminal, to its end"
asked_notice (Cells options) = codes "upc-lab cells: reading a capture from the terminal, to its end"
asked_notice (Fit options) = codes "upc-lab fit: reading a capture from the terminal, to its end"
asked_notice (Police options) = codes "upc-lab police: reading a capture from the terminal, to its end"
asked_notice (Forward options) = codes "upc-lab forward: reading a capture from the terminal, to its end"
asked_notice (Differ options) = codes "upc-lab differ: reading rules or a program from the terminal, to its end"
asked_notice (Explain options) = codes "upc-lab explain: reading a script from the terminal, or a line `source` or `rules` and what it says, to its end"
