-- The answers that a line of a running script may get. The rules are those of `run`, except that the card's data is
-- behind locks: its state when a line is answered isn't known, so any reply of the right kind may come. The ids of the
-- programs are known, in the order in which they were loaded: only the desk loads programs, line by line.
use Rattle.std.specs.Prelude.{◌≡◌, ℕ, ◌==◌, List, [], ◌∷◌, ◌++◌, length, Some, MatchOption, MatchBool, IfSome, ⊤}
use Rattle.line_record.specs.Tally.{nothing}
use Rattle.line_record.specs.declared.tally.Tally.{Tally}
use Rattle.port_card.specs.Seats.{counts_after}
use Rattle.gen_arena.specs.declared.id.Id.{Id}
use Rattle.upc_cell.specs.Connection.{vc_of}
use Rattle.upc_cell.specs.declared.side.Side.{Side}
use Rattle.card_core.specs.Sections.{judged_in_answer}
use Rattle.card_core.specs.declared.answer.Answer.{Answer}
use Rattle.card_core.specs.declared.fault.DeskFault.TheVariants.{ProgramsFull}
use Rattle.card_core.specs.declared.reply.Reply.{Reply}
use Rattle.card_core.specs.declared.reply.Reply.TheVariants as reply
use Rattle.line_record.specs.Piece.{IsPiece}
use Rattle.port_card.specs.Answers.{IsJudgedAnswer, BlamesRightly, IsOfSetup, IsOfRetirement, IsOfReload, IsOfRelease, IsOfCut}
use Rattle.text_words.specs.FaultLines.{bad_hex, bad_line, wrong_length}
use Rattle.text_words.specs.Hexadecimal.{octets_of_digits, cell_of_octets}
use Rattle.cmd_programs.specs.Program.{ProgramReading, is_program, is_refused, ReadsAs}
use Rattle.text_card.specs.CardFaults.{gcra_fault, no_such_program}
use Rattle.text_script.specs.Rates.{first_wanted_fault}
use Rattle.text_card.specs.Replies.{answer_text, reply_text}
use Rattle.text_script.specs.ProgramNames.{program_named}
use Rattle.text_script.specs.ScriptCommands.{Command, load, retire, setup, reload, release, cut, cell, command_of}

-- The replies that the desk may give to a command.
abbrev pub MayReply : Command → Reply → Type 0
MayReply (load digits) (reply.Loaded id) = ⊤
MayReply (load digits) (reply.NotLoaded fault code) = fault ≡ ProgramsFull
MayReply (retire number) (reply.Retired code) = ⊤
MayReply (retire number) (reply.Refused fault) = IsOfRetirement fault
MayReply (setup vc number wanted) (reply.SetUp owner) = owner.vc ≡ vc
MayReply (setup vc number wanted) (reply.NotSetUp fault ask) = IsOfSetup fault
MayReply (reload vc number) (reply.Reloaded old) = ⊤
MayReply (reload vc number) (reply.Refused fault) = IsOfReload fault
MayReply (release vc) (reply.Released piece) = (piece.owner.vc ≡ vc) × IsPiece piece
MayReply (release vc) (reply.Refused fault) = IsOfRelease fault
MayReply (cut vc) (reply.Cut piece) = (piece.owner.vc ≡ vc) × IsPiece piece
MayReply (cut vc) (reply.Refused fault) = IsOfCut fault
MayReply _ _ = ⊥

-- The id of a program that this reply loaded, if there is one.
abbrev pub loaded_id : Reply → List Id
loaded_id (reply.Loaded id) = id ∷ []
loaded_id _ = []

-- The answer is this fault, and no program is loaded.
abbrev pub Refuses : List ℕ → List Id → List ℕ → List Id → Type 0
Refuses fault names text names' = (text ≡ fault) × (names' ≡ names)

-- The text is the line of a reply that the desk of a card of this side may give to the command. A program that it loads gets the next name.
pub record Replies (side : Side) (command : Command) (names : List Id) (text : List ℕ) (names' : List Id) : Type 0 where
  pub reply : Reply
  pub possible : MayReply command reply
  pub named : names' ≡ names ++ loaded_id reply
  pub printed : reply_text side command (length names) reply ≡ Some text

-- The program is loaded or refused by the desk, or the answer is the fault line of its octets.
abbrev pub RepliesToReading : Side → List ℕ → ProgramReading → List Id → List ℕ → List Id → Type 0
RepliesToReading side digits (is_program code) names text names' = Replies side (load digits) names text names'
RepliesToReading side digits (is_refused fault) names text names' = Refuses fault names text names'

-- The octets are read as a program.
abbrev pub RepliesToOctets : Side → List ℕ → List ℕ → List Id → List ℕ → List Id → Type 0
RepliesToOctets side digits octets names text names' =
    (reading : ProgramReading) × ReadsAs octets reading × RepliesToReading side digits reading names text names'

-- A command that names a program: if no program has this number yet, the answer is NoProgram.
abbrev pub RepliesToNamed : Side → Command → ℕ → List Id → List ℕ → List Id → Type 0
RepliesToNamed side command number names text names' =
    MatchOption (program_named names number) (Refuses no_such_program names text names') (λ id. Replies side command names text names')

-- The answers to a command of the desk. An arriving cell is no such command.
abbrev pub MayObey : Side → Command → List Id → List ℕ → List Id → Type 0
MayObey side (load digits) names text names' =
    MatchOption (octets_of_digits digits) (Refuses bad_hex names text names') (λ octets. RepliesToOctets side digits octets names text names')
MayObey side (retire number) names text names' = RepliesToNamed side (retire number) number names text names'
MayObey side (setup vc number wanted) names text names' =
    MatchOption (first_wanted_fault wanted) (RepliesToNamed side (setup vc number wanted) number names text names')
    (λ fault. Refuses (gcra_fault fault) names text names')
MayObey side (reload vc number) names text names' = RepliesToNamed side (reload vc number) number names text names'
MayObey side (release vc) names text names' = Replies side (release vc) names text names'
MayObey side (cut vc) names text names' = Replies side (cut vc) names text names'
MayObey side (cell moment digits) names text names' = Refuses bad_line names text names'

-- A cell of these octets that arrived at this moment may have this answer: a judged cell leaves as its verdict requires,
-- and the moment is the error only if it is too late or goes back.
pub record MayAnswer (octets : List ℕ) (moment : ℕ) (answer : Answer) : Type 0 where
  pub judged : IfSome (judged_in_answer answer) (IsJudgedAnswer octets moment)
  pub blames : BlamesRightly moment answer

-- The counts of an answer: one cell with its verdict if the cell is judged, otherwise none.
abbrev pub counts_of : Answer → Tally
counts_of answer = counts_after nothing (judged_in_answer answer)

-- The text is the line of an answer that the cell may have, on the connection of its own header. `all` are the ids of
-- all programs that the script loads; a judged cell's program has a name only if it is one of these. The counts are those of
-- this answer.
pub record MayAnswerCell (side : Side) (all : List Id) (octets : List ℕ) (moment : ℕ) (text : List ℕ) (counts : Tally) : Type 0 where
  pub answer : Answer
  pub possible : MayAnswer octets moment answer
  pub printed : answer_text side all (vc_of side octets) answer ≡ Some text
  pub counted : counts ≡ counts_of answer

-- The answer is this fault, and no cell is counted.
abbrev pub Faults : List ℕ → List ℕ → Tally → Type 0
Faults fault text counts = (text ≡ fault) × (counts ≡ nothing)

-- A cell has 52 octets; any other number is an error.
abbrev pub MayAnswerOctets : Side → List Id → List ℕ → ℕ → List ℕ → Tally → Type 0
MayAnswerOctets side all octets moment text counts =
    MatchBool (length octets == 52) (MayAnswerCell side all octets moment text counts) (Faults (wrong_length (length octets)) text counts)

-- The answers to a cell line.
abbrev pub MayAnswerDigits : Side → List Id → ℕ → List ℕ → List ℕ → Tally → Type 0
MayAnswerDigits side all moment digits text counts =
    MatchOption (octets_of_digits digits) (Faults bad_hex text counts) (λ octets. MayAnswerOctets side all (cell_of_octets octets) moment text counts)

-- The answers to a command. A cell loads no program, and a command of the desk counts no cell.
abbrev pub MayAnswerCommand : Side → List Id → Command → List Id → List ℕ → List Id → Tally → Type 0
MayAnswerCommand side all (cell moment digits) names text names' counts = MayAnswerDigits side all moment digits text counts × (names' ≡ names)
MayAnswerCommand side all command names text names' counts = MayObey side command names text names' × (counts ≡ nothing)

-- The answers to a line with these words. If they are no command, the answer is BadLine.
abbrev pub MayAnswerLine : Side → List Id → List (List ℕ) → List Id → List ℕ → List Id → Tally → Type 0
MayAnswerLine side all words names text names' counts =
    MatchOption (command_of side words) (Refuses bad_line names text names' × (counts ≡ nothing))
    (λ command. MayAnswerCommand side all command names text names' counts)
