-- Cases by lists.
use Rattle.std.specs.Prelude.{ℕ, Bool, true, ◌==◌, ◌&&◌, List, [], ◌∷◌, None}
use Rattle.rules_cells.specs.Decisions.{decision_of}
use Rattle.rules_cells.specs.declared.deciding.Decision.{Decision}
use Rattle.rules_diagrams.specs.CellNumbers.{octets_number}
use Rattle.rules_diagrams.specs.inner.Lines.{deciding_line}
use Rattle.rules_diagrams.specs.inner.Programs.{GivesValue}
use Rattle.rules_diagrams.specs.inner.Tells.{GivesNumber}
use Rattle.rules_diagrams.specs.inner.Values.{diagram_value}
use Rattle.rules_diagrams.specs.declared.case.Case.{Case}
use Rattle.rules_diagrams.specs.declared.compared.Compared.{Compared}
use Rattle.rules_diagrams.specs.declared.compared.Compared.TheVariants.{Rules as OfRules, Program as OfProgram}
use Rattle.rules_diagrams.specs.declared.diagram.Diagram.{Diagram}
use Rattle.rules_diagrams.specs.declared.diagram.Node.{Node}
use Rattle.rules_diagrams.specs.declared.meeting.Meeting.{Meeting}

-- What is decided for a cell to which the diagram gives this number: the number of a program is its value.
abbrev pub decision_with : Compared → List ℕ → ℕ → Decision
decision_with (OfRules rules) cell number = decision_of rules.now cell
decision_with (OfProgram code) cell number = record { line = None; value = number }

-- The diagram gives each cell the number of the line that decides it, or the value of the program.
abbrev pub IsShown : List Node → Compared → Diagram → Type 0
IsShown nodes (OfRules rules) diagram = GivesNumber nodes (deciding_line rules.now) diagram
IsShown nodes (OfProgram code) diagram = GivesValue nodes code.now diagram

-- What is decided for each cell, by the diagram.
abbrev pub decisions : List Node → Diagram → Compared → List ℕ → Decision
decisions nodes diagram (OfRules rules) = decision_of rules.now
decisions nodes diagram (OfProgram code) = λ cell. record { line = None; value = diagram_value nodes diagram (octets_number cell) }

-- The case of a meeting.
abbrev pub case_of : Compared → Compared → Meeting → Case
case_of old new meeting =
    record { old = decision_with old meeting.cell meeting.one; new = decision_with new meeting.cell meeting.other; cell = meeting.cell }

-- Whether each case has one value.
abbrev pub have_one_value : List Case → Bool
have_one_value [] = true
have_one_value (case ∷ more) = (case.old.value == case.new.value) && have_one_value more
