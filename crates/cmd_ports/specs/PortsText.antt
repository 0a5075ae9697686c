-- The text of `upc ports`. The whole script is read before any of it runs: its first line with words opens a card, and
-- each later one is a line of that card's script. If the script can't run, the whole text is one fault line.
use Rattle.std.specs.Prelude.{◌≡◌, ◌<◌, ◌⊎◌, ℕ, Bool, true, false, List, [], ◌∷◌, ◌++◌, codes, Option, Some, IfSome, MatchOption, MatchBool}
use Rattle.line_record.specs.declared.tally.Tally.{Tally}
use Rattle.card_core.specs.Shapes.{shape_fault}
use Rattle.card_core.specs.declared.shape.Shape.{Shape}
use Rattle.upc_cell.specs.declared.side.Side.TheVariants.{Uni}
use Rattle.text_io.specs.Answering.{EndsBy}
use Rattle.text_io.specs.Lines.{lines_of}
use Rattle.text_io.specs.Printing.{Rules, Prints, EndsAt}
use Rattle.text_io.specs.Words.{words_of, is_silent}
use Rattle.text_io.specs.declared.ending.Done.{Done}
use Rattle.text_io.specs.declared.ending.Done.TheVariants.{Whole, Ended}
use Rattle.text_words.specs.FaultLines.{too_long}
use Rattle.text_card.specs.CardFaults.{no_card, shape_fault_line}
use Rattle.text_card.specs.CardLine.{card_line_shape}
use Rattle.cmd_ports.specs.ClosingText.{closing_text, done_of}
use Rattle.cmd_ports.specs.ScriptAnswers.{AnswersScript}

-- The state of the reading of a script.
pub record ScriptReading : Type 0 where
  pub opened : Bool  -- whether a line has opened a card
  pub shape : Shape  -- the shape of that card; until then that of the smallest card
  pub lines : List (List ℕ)  -- the later lines with words, in order

-- The state before the first line.
abbrev pub unread : ScriptReading
unread = record { opened = false; shape = record { programs = 1; lines = 1; ports = 1; journal = 1; side = Uni }; lines = [] }

-- The line opens a card of this shape, or the reading ends since the shape is out of its limits.
abbrev pub OpensOrEnds : ScriptReading → Shape → List ℕ → Option ScriptReading → Type 0
OpensOrEnds reading shape text next =
    MatchOption (shape_fault shape) ((text ≡ []) × (next ≡ Some (record reading { opened = true; shape = shape })))
    (λ fault. EndsBy (shape_fault_line fault) text next)

-- A line with words: the first opens the card, and each later one is one of its script's.
abbrev pub ReadsWords : Bool → ScriptReading → List ℕ → List ℕ → Option ScriptReading → Type 0
ReadsWords false reading content text next =
    MatchOption (card_line_shape (words_of content)) (EndsBy no_card text next) (λ shape. OpensOrEnds reading shape text next)
ReadsWords true reading content text next = (text ≡ []) × (next ≡ Some (record reading { lines = reading.lines ++ content ∷ [] }))

-- The line leads to the next state, or to none if it ends the reading. A line without words and a comment line change
-- nothing.
abbrev pub ReadSteps : ScriptReading → List ℕ → List ℕ → Option ScriptReading → Type 0
ReadSteps reading content text next =
    MatchBool (is_silent (words_of content)) ((text ≡ []) × (next ≡ Some reading)) (ReadsWords reading.opened reading content text next)

-- The end of the input. Without a card it is an error.
abbrev pub ReadCloses : Bool → List ℕ → Done → Type 0
ReadCloses false text done = (text ≡ no_card) × (done ≡ Ended)
ReadCloses true text done = (text ≡ []) × (done ≡ Whole)

-- Every state may be reached.
abbrev pub IsSoundReading : ScriptReading → Type 0
IsSoundReading reading = Unit {0}

-- The rules of the reading.
abbrev pub reading_rules : Rules ScriptReading
reading_rules = record { steps = ReadSteps; closes = λ reading. ReadCloses reading.opened; too_long = too_long; is_sound = IsSoundReading }

-- The text of the reading of a whole script, and how it ends.
abbrev pub IsReadingText : List ℕ → List ℕ → Done → Type 0
IsReadingText octets text done = Prints reading_rules 0 unread (lines_of octets) text done

-- The text of a card of this shape whose script has these later lines with words, and how the run ends. The text is the
-- answer to the line that opened the card, one answer for each later line, in the script's order, and the totals or the
-- first uneven line of the closed card. The totals are the numbers of the cells that these answers say are judged, by their
-- verdicts. Only which of its possible answers a line gets is left open: cells and desk lines run at the same time, and
-- their order isn't fixed.
pub record IsCardText (shape : Shape) (lines : List (List ℕ)) (text : List ℕ) (done : Done) : Type 0 where
  pub answers : List ℕ
  pub counts : Tally
  pub each : AnswersScript shape.side lines answers counts
  pub uneven : Option ℕ
  pub within : IfSome uneven (λ number. number < shape.lines)
  pub whole : text ≡ codes "ready\n" ++ answers ++ closing_text counts uneven
  pub ends : done ≡ done_of uneven

-- The text of a script that ran: it was read to its end with no answer, and then it was answered by a card of the shape
-- that was read, line by line as the lines were read.
pub record IsScriptText (octets : List ℕ) (text : List ℕ) (done : Done) : Type 0 where
  pub reading : ScriptReading
  pub read : EndsAt reading_rules 0 unread (lines_of octets) [] reading
  pub card : IsCardText reading.shape reading.lines text done

-- The text for the octets of a whole script, and how the run ends. A script that can't run has the text of its reading
-- and ends early.
abbrev pub IsPortsText : List ℕ → List ℕ → Done → Type 0
IsPortsText octets text done = ((done ≡ Ended) × IsReadingText octets text Ended) ⊎ IsScriptText octets text done
