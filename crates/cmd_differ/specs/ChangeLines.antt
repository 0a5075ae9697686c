-- The lines of `upc-lab differ`: what decides a cell before the change and after it, which is a line of rules or a
-- program, both values, and the cell.
use Rattle.std.specs.Prelude.{ℕ, ◌==◌, ◌&&◌, ◌||◌, not, Bool, false, if◌then◌else◌, List, [], ◌∷◌, ◌++◌, codes, decimal, Option, Some, None}
use Rattle.std.specs.Option.{option_eq}
use Rattle.hex.specs.Hex.{encode_lower}
use Rattle.rules_diagrams.specs.declared.case.Case.{Case}
use Rattle.rules_cells.specs.declared.deciding.Decision.{Decision}
use Rattle.cmd_rules.specs.CountText.{decider_text}
use Rattle.cmd_rules.specs.RuleBegins.{begin_at}
use Rattle.rules_text.specs.declared.place.RulePlace.{RulePlace}
use Rattle.upc_cell.specs.Header.{gfc_of, vci_of, pti_of, clp_of}
use Rattle.upc_cell.specs.Side.{vpi_at}
use Rattle.upc_cell.specs.declared.side.Side.{Side}
use Rattle.upc_cell.specs.declared.side.Side.TheVariants.{Uni, Nni, UniPaths, NniPaths}
use Rattle.text_words.specs.FaultLines.{line}
use Rattle.cmd_differ.specs.Sides.{SideRead, side_program, side_rules}

-- A field of the header: its name and its number.
abbrev pub field_text : List ℕ → ℕ → List ℕ
field_text name number = name ++ decimal number

-- The fields before the channel. A cell between nodes has no GFC.
abbrev pub path_text : Side → List ℕ → List ℕ
path_text Uni cell = field_text (codes "gfc ") (gfc_of cell) ++ field_text (codes " vpi ") (vpi_at Uni cell)
path_text Nni cell = field_text (codes "vpi ") (vpi_at Nni cell)
path_text UniPaths cell = field_text (codes "gfc ") (gfc_of cell) ++ field_text (codes " vpi ") (vpi_at UniPaths cell)
path_text NniPaths cell = field_text (codes "vpi ") (vpi_at NniPaths cell)

-- The fields of the header of a cell, as rules name them.
abbrev pub fields_text : Side → List ℕ → List ℕ
fields_text side cell =
    path_text side cell ++ (field_text (codes " vci ") (vci_of cell) ++ (field_text (codes " pti ") (pti_of cell) ++ field_text (codes " clp ") (clp_of cell)))

-- What decides a cell: a line of rules, or the program.
abbrev pub side_decider : SideRead → Option ℕ → List ℕ
side_decider (side_rules placed_rules) line = decider_text placed_rules.begins line
side_decider (side_program code) line = codes "program"

-- What a side gives a cell: what decides it, and the value.
abbrev pub given_text : SideRead → Decision → List ℕ
given_text side decision = side_decider side decision.line ++ field_text (codes " value ") decision.value

-- What the old side gives a cell, and what the new one does.
abbrev pub both_text : SideRead → SideRead → Decision → Decision → List ℕ
both_text old new was is = codes "old " ++ (given_text old was ++ (codes ", new " ++ given_text new is))

-- The cell: the fields of its header, at this side of the link, and its octets.
abbrev pub cell_with_fields : Side → List ℕ → List ℕ
cell_with_fields side cell = codes ": " ++ (fields_text side cell ++ line (codes ": " ++ encode_lower cell))

-- The side of the link at which fields are shown: that of the new rules, or of the old ones. A program has none.
abbrev pub shown_side : SideRead → SideRead → Side
shown_side old (side_rules placed_rules) = placed_rules.rules.side
shown_side (side_rules placed_rules) (side_program code) = placed_rules.rules.side
shown_side (side_program code) (side_program other) = Uni

-- The line of a cell: what both sides give it, and the cell.
abbrev pub change_text : SideRead → SideRead → Decision → Decision → List ℕ → List ℕ
change_text old new was is cell = both_text old new was is ++ cell_with_fields (shown_side old new) cell

-- Where the line of rules that decides begins; line 0 for `otherwise`.
abbrev pub source_begin : List RulePlace → Option ℕ → RulePlace
source_begin begins None = record { line = 0; column = None }
source_begin begins (Some place) = begin_at begins place

-- Whether lines of rules begin at the same place of their texts. Both have the same source line, and the same column or none.
abbrev pub is_same_begin : RulePlace → RulePlace → Bool
is_same_begin one other = (one.line == other.line) && option_eq ◌==◌ one.column other.column

-- Whether one line of rules, by where it begins, decides on both sides. A program is none.
abbrev pub is_one_line : SideRead → SideRead → Option ℕ → Option ℕ → Bool
is_one_line (side_rules old) (side_rules new) was is = is_same_begin (source_begin old.begins was) (source_begin new.begins is)
is_one_line (side_rules old) (side_program code) was is = false
is_one_line (side_program code) new was is = false

-- Whether a case has a line. It has one if its values differ; with `lines` also if they agree, unless on both sides lines of
-- rules that begin at one place decide, or `otherwise`.
abbrev pub is_listed : Bool → SideRead → SideRead → Case → Bool
is_listed lines old new case = not (case.old.value == case.new.value) || (lines && not (is_one_line old new case.old.line case.new.line))

-- The line of a case, if it has one.
abbrev pub case_text : Bool → SideRead → SideRead → Case → List ℕ
case_text lines old new case = if is_listed lines old new case then change_text old new case.old case.new case.cell else []

-- The lines of cases, in their order.
abbrev pub cases_text : Bool → SideRead → SideRead → List Case → List ℕ
cases_text lines old new [] = []
cases_text lines old new (case ∷ more) = case_text lines old new case ++ cases_text lines old new more
