-- Commands that are carried out between cells.
use Rattle.std.specs.Prelude.{◌≡◌, ℕ, nat_le, Bool, true, false, ◌||◌, if◌then◌else◌, List, [], ◌∷◌, ◌++◌, codes, decimal, length, Option, Some, None, MatchBool, MatchOption}
use Rattle.std.specs.Str.{bytes_eq}
use Rattle.card_core.specs.World.{Connection, World, connection_in}
use Rattle.text_io.specs.Words.{words_of}
use Rattle.upc_cell.specs.declared.vc.Vc.{Vc}
use Rattle.cmd_run.specs.RunText.{Card, RefusesLine, RunSteps}
use Rattle.text_script.specs.ReplyTexts.{connection_name, tally_text}
use Rattle.text_script.specs.ScriptCommands.{Command, command_of, cut, release}
use Rattle.text_words.specs.FaultLines.{bad_line, line}
use Rattle.cmd_setups.specs.ConnectionCounts.{own_counts}
use Rattle.cmd_setups.specs.Columns.{in_column}
use Rattle.cmd_setups.specs.TimedLines.{WaitingCommand}

-- Whether the words are a command that is answered between cells as in `upc run`. `release` and `cut` are answered otherwise.
abbrev pub is_answered_plainly : List (List ℕ) → Bool
is_answered_plainly [] = false
is_answered_plainly (word ∷ words) =
    bytes_eq word (codes "load") || (bytes_eq word (codes "retire") || (bytes_eq word (codes "setup") || bytes_eq word (codes "reload")))

-- The connection of a command that ends a journal, and the beginning of its answer.
abbrev pub ended_journal : Option Command → Option (List ℕ × Vc)
ended_journal None = None
ended_journal (Some (release vc)) = Some (codes "released ", vc)
ended_journal (Some (cut vc)) = Some (codes "cut ", vc)
ended_journal (Some _) = None

-- The answer to such a command: the counts of the connection, as the table has them. The journal has only
-- the cells since `police` dropped it last. Without a connection it is the answer of `upc run`.
abbrev pub counted_answer : World → List ℕ × Vc → Option Connection → List ℕ → List ℕ
counted_answer world ended None given = given
counted_answer world ended (Some connection) given =
    line (ended.0 ++ (connection_name world.shape.side ended.1 ++ tally_text (own_counts connection)))

-- The card takes the command as in `upc run`, and the text is the answer with these counts.
pub record AnswersWithCounts (before : Card) (content : List ℕ) (ended : List ℕ × Vc) (text : List ℕ) (after : Card) : Type 0 where
  pub given : List ℕ
  pub steps : RunSteps (Some before) content given (Some (Some after))
  pub counted : text ≡ counted_answer before.world ended (connection_in before.world.connections ended.1) given

-- The card answers the command as in `upc run`, and one that ends a journal with counts. Another command is BadLine, and nothing changes.
abbrev pub AnswersUnderTraffic : Card → List ℕ → List ℕ → Card → Type 0
AnswersUnderTraffic before content text after = MatchOption (ended_journal (command_of before.world.shape.side (words_of content)))
    (MatchBool (is_answered_plainly (words_of content)) (RunSteps (Some before) content text (Some (Some after)))
    (RefusesLine bad_line before text after))
    (λ ended. AnswersWithCounts before content ended text after)

-- The line about a command: its moment and its answer.
abbrev pub command_line : ℕ → List ℕ → List ℕ
command_line moment answer = codes "command\t" ++ (in_column (decimal moment) ++ answer)

-- No command is carried out: these are left.
pub record CarriesNothing (waiting : List WaitingCommand) (before : Card) (text : List ℕ) (after : Card) (left : List WaitingCommand) : Type 0 where
  pub none : text ≡ []
  pub same : after ≡ before
  pub all : left ≡ waiting

-- The first command is carried out, and then others.
pub record CarriesFirst (first : WaitingCommand) (before : Card) (text : List ℕ) (CarriesLater : Card → List ℕ → Type 0) : Type 0 where
  pub answer : List ℕ
  pub next : Card
  pub answered : AnswersUnderTraffic before first.content answer next
  pub more : List ℕ
  pub later : CarriesLater next more
  pub whole : text ≡ command_line first.moment answer ++ more

-- The commands whose moment has come are carried out in order, with this text. These others are left.
abbrev pub CarriesOutWaiting : List WaitingCommand → ℕ → Card → List ℕ → Card → List WaitingCommand → Type 0
CarriesOutWaiting [] moment before text after left = CarriesNothing [] before text after left
CarriesOutWaiting (first ∷ waiting) moment before text after left =
    MatchBool (nat_le first.moment moment)
    (CarriesFirst first before text (λ next more. CarriesOutWaiting waiting moment next more after left))
    (CarriesNothing (first ∷ waiting) before text after left)

-- The end of the comment about commands that are left, the first of which waits for this moment.
abbrev pub first_moment : ℕ → List ℕ
first_moment moment = codes " commands, the first at moment " ++ (decimal moment ++ codes "\n")

-- The comment about this many commands.
abbrev pub waiting_text : ℕ → ℕ → List ℕ
waiting_text count moment = codes "# not carried out: " ++ (decimal count ++ first_moment moment)

-- The comment about commands whose moment no cell reached, if there are any.
abbrev pub waiting_comment : List WaitingCommand → List ℕ
waiting_comment [] = []
waiting_comment (first ∷ waiting) = waiting_text (length (first ∷ waiting)) first.moment
