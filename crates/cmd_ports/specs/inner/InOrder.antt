-- The text of the answers to a script's later lines, in the script's order.
use Rattle.std.specs.Prelude.{◌≡◌, ℕ, List, [], ◌∷◌, ◌++◌, Option, None, Some, slice_get, slice_set}
use Rattle.gen_arena.specs.declared.id.Id.{Id}
use Rattle.upc_cell.specs.Connection.{vc_of}
use Rattle.upc_cell.specs.declared.side.Side.{Side}
use Rattle.text_words.specs.FaultLines.{bad_hex, bad_line, wrong_length}
use Rattle.text_card.specs.Replies.{answer_text}
use Rattle.text_script.specs.declared.dealing.Answerer.{Answerer}
use Rattle.text_script.specs.declared.dealing.Answerer.TheVariants.{Port, Desk, BadLine, BadHex, WrongLength}
use Rattle.cmd_ports.specs.declared.answered.AnsweredCell.{AnsweredCell}
use Rattle.cmd_ports.specs.inner.Answered.{answer_kept, shown_cell}

-- What isn't printed yet: the answered cells of each port, the texts of the desk, and the lengths of cells that don't have
-- 52 octets.
pub record Unprinted : Type 0 where
  pub cells : List (List AnsweredCell)
  pub texts : List (List ℕ)
  pub lengths : List ℕ

-- The first of the answered cells of a port.
abbrev pub first_cell : Option (List AnsweredCell) → Option AnsweredCell
first_cell None = None
first_cell (Some []) = None
first_cell (Some (one ∷ own)) = Some one

-- The answered cells without the first of the port of this number, whose cells they are.
abbrev pub cells_after : List (List AnsweredCell) → ℕ → Option (List AnsweredCell) → List (List AnsweredCell)
cells_after cells number None = cells
cells_after cells number (Some []) = cells
cells_after cells number (Some (one ∷ own)) = slice_set cells number own

-- The first of a list, or this if there is none.
abbrev pub first_or : {A : Type 0} → A → List A → A
first_or otherwise [] = otherwise
first_or otherwise (one ∷ more) = one

-- A list without its first.
abbrev pub without_first : {A : Type 0} → List A → List A
without_first [] = []
without_first (one ∷ more) = more

-- The text is the line of the cell's answer; it is empty if there is no such cell.
abbrev pub PrintsCell : Side → List Id → Option AnsweredCell → List ℕ → Type 0
PrintsCell side names None text = text ≡ []
PrintsCell side names (Some arrival) text =
    answer_text side names (vc_of side (shown_cell arrival.header)) (answer_kept (shown_cell arrival.header) arrival.decision) ≡ Some text

-- The text of one answerer, from what isn't printed yet.
abbrev pub IsTextOfAnswerer : Side → List Id → Unprinted → Answerer → List ℕ → Type 0
IsTextOfAnswerer side names rest (Port number) text = PrintsCell side names (first_cell (slice_get rest.cells number)) text
IsTextOfAnswerer side names rest Desk text = text ≡ first_or [] rest.texts
IsTextOfAnswerer side names rest BadLine text = text ≡ bad_line
IsTextOfAnswerer side names rest BadHex text = text ≡ bad_hex
IsTextOfAnswerer side names rest WrongLength text = text ≡ wrong_length (first_or 0 rest.lengths)

-- What isn't printed after it.
abbrev pub after_answerer : Answerer → Unprinted → Unprinted
after_answerer (Port number) rest = record rest { cells = cells_after rest.cells number (slice_get rest.cells number) }
after_answerer Desk rest = record rest { texts = without_first rest.texts }
after_answerer BadLine rest = rest
after_answerer BadHex rest = rest
after_answerer WrongLength rest = record rest { lengths = without_first rest.lengths }

-- The texts of all answerers, one after another, and nothing else.
abbrev pub AllPrint : Side → List Id → Unprinted → List Answerer → List ℕ → Type 0
AllPrint side names rest [] text = text ≡ []
AllPrint side names rest (answerer ∷ order) text = (here : List ℕ) × (more : List ℕ) × (text ≡ here ++ more)
    × IsTextOfAnswerer side names rest answerer here × AllPrint side names (after_answerer answerer rest) order more

-- What isn't printed after all of them.
abbrev pub after_all : List Answerer → Unprinted → Unprinted
after_all [] rest = rest
after_all (answerer ∷ order) rest = after_all order (after_answerer answerer rest)
