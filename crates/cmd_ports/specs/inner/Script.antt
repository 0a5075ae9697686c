-- The answers to the two parts of a script: the lines before its first cell line, and those from there on.
use Rattle.std.specs.Prelude.{◌≡◌, ℕ, ◌<◌, List, ◌++◌, codes, length, Option, IfSome}
use Rattle.gen_arena.specs.declared.id.Id.{Id}
use Rattle.line_record.specs.Line.{LineView}
use Rattle.line_record.specs.Tally.{nothing}
use Rattle.line_record.specs.declared.tally.Tally.{Tally}
use Rattle.upc_cell.specs.declared.side.Side.{Side}
use Rattle.card_core.specs.declared.shape.Shape.{Shape}
use Rattle.port_card.specs.Closing.{lines_total}
use Rattle.text_io.specs.Devices.{Adds}
use Rattle.cmd_ports.specs.ScriptAnswers.{AnswersEach, AnswersScript}
use Rattle.text_script.specs.Dealing.{AreLinesOf}
use Rattle.cmd_ports.specs.inner.FirstLines.{from_first_cell}

-- This holds of the lines of the octets.
abbrev pub OfLines : List ℕ → (List (List ℕ) → Type 0) → Type 0
OfLines octets Holds = (each : List (List ℕ)) → AreLinesOf octets each → Holds each

-- The text answers the lines before the first cell line, whatever programs are loaded afterwards. They count no cell. The
-- octets `later` are the lines from there on.
pub record AnswersFirst (side : Side) (each : List (List ℕ)) (later : List ℕ) (names names' : List Id) (text : List ℕ) : Type 0 where
  pub first : List (List ℕ)
  pub whole : each ≡ first ++ from_first_cell each
  pub left : AreLinesOf later (from_first_cell each)
  pub answers : (all : List Id) → AnswersEach side all first names text names' nothing

-- The text answers the lines, after these programs were loaded.
abbrev pub AnswersLater : Side → List (List ℕ) → List Id → List ℕ → Tally → Type 0
AnswersLater side each names text counts = (all : List Id) × AnswersEach side all each names text all counts

-- The answer to the line that opened the card, and those to the later lines.
abbrev pub AnswersCard : Side → List (List ℕ) → List ℕ → Tally → Type 0
AnswersCard side each text counts = (answers : List ℕ) × (text ≡ codes "ready\n" ++ answers) × AnswersScript side each answers counts

-- The octets of a script were answered on a card of this shape, which was then closed. Its lines have counted exactly the cells that
-- the answers say are judged.
pub record IsScriptClosed (shape : Shape) (octets before after : List ℕ) (lines : List LineView) (uneven : Option ℕ) : Type 0 where
  pub answers : Adds (λ text. OfLines octets (λ each. AnswersCard shape.side each text (lines_total lines))) before after
  pub all : length lines ≡ shape.lines
  pub within : IfSome uneven (λ number. number < shape.lines)
