-- Diagrams that belong to blocks, that of the innermost block first.
use Rattle.std.specs.Prelude.{List, [], ◌∷◌}
use Rattle.rules_diagrams.specs.declared.diagram.Diagram.{Diagram}

-- The first of the diagrams, or this one if there is none.
abbrev pub first_diagram : Diagram → List Diagram → Diagram
first_diagram other [] = other
first_diagram other (first ∷ more) = first

-- The diagrams after the first.
abbrev pub later_diagrams : List Diagram → List Diagram
later_diagrams [] = []
later_diagrams (first ∷ more) = more
