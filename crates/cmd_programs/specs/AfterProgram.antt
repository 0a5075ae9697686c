-- The output of a subcommand for one program. The first line with words is the program. What the subcommand answers to it,
-- and to the lines after it, is given by two relations.
use Rattle.std.specs.Prelude.{◌≡◌, ℕ, List, [], ◌∷◌, Option, Some, None, MatchOption, MatchBool}
use Rattle.bpf_code.specs.declared.instr.Instr.{Instr}
use Rattle.bpf_verify.specs.Accepted.{IsAccepted}
use Rattle.text_io.specs.Answering.{EndsBy}
use Rattle.text_io.specs.Lines.{lines_of}
use Rattle.text_io.specs.Printing.{Rules, Prints}
use Rattle.text_io.specs.Words.{words_of, is_silent}
use Rattle.text_io.specs.declared.ending.Done.{Done}
use Rattle.text_io.specs.declared.ending.Done.TheVariants.{Whole, Ended}
use Rattle.text_io.specs.declared.machine.Turn.{Turn}
use Rattle.text_io.specs.declared.machine.Turn.TheVariants.{GoesOn, Ends}
use Rattle.text_words.specs.FaultLines.{bad_line, bad_hex, no_program, too_long}
use Rattle.text_words.specs.Hexadecimal.{octets_of_digits}
use Rattle.cmd_programs.specs.Program.{ProgramReading, is_program, is_refused, ReadsAs}

-- What the subcommand answers.
pub record ProgramTexts : Type 1 where
  -- The text may answer an accepted code.
  pub first : List Instr → List ℕ → Type 0
  -- After this code, the text may answer the words of a line, and the run then goes on or ends.
  pub later : List Instr → List (List ℕ) → List ℕ → Turn → Type 0

-- None before the program line, then the code of the program.
abbrev pub ProgramWorld : Type 0
ProgramWorld = Option (List Instr)

-- The answer to a program is a text that `texts.first` allows, and the program is the next world. A refusal ends the run
-- with its fault line.
abbrev pub IsProgramAnswer : ProgramTexts → ProgramReading → List ℕ → Option ProgramWorld → Type 0
IsProgramAnswer texts (is_program code) text next = texts.first code text × (next ≡ Some (Some code))
IsProgramAnswer texts (is_refused fault) text next = EndsBy fault text next

-- The answer to the octets of a program line.
abbrev pub ReadsProgram : ProgramTexts → List ℕ → List ℕ → Option ProgramWorld → Type 0
ReadsProgram texts octets text next = (reading : ProgramReading) × ReadsAs octets reading × IsProgramAnswer texts reading text next

-- The answer to a program line, which has one hexadecimal word.
abbrev pub ProgramLine : ProgramTexts → List (List ℕ) → List ℕ → Option ProgramWorld → Type 0
ProgramLine texts [] text next = EndsBy bad_line text next
ProgramLine texts (word ∷ []) text next =
    MatchOption (octets_of_digits word) (EndsBy bad_hex text next) (λ octets. ReadsProgram texts octets text next)
ProgramLine texts (word ∷ other ∷ words) text next = EndsBy bad_line text next

-- The answer to a line before there is a program. A line without words and a comment have an empty answer.
abbrev pub FirstLine : ProgramTexts → List ℕ → List ℕ → Option ProgramWorld → Type 0
FirstLine texts content text next =
    MatchBool (is_silent (words_of content)) ((text ≡ []) × (next ≡ Some None)) (ProgramLine texts (words_of content) text next)

-- The answer to a line after the program line, and whether the run goes on. A line without words and a comment have an
-- empty answer.
abbrev pub LaterLine : ProgramTexts → List Instr → List ℕ → List ℕ → Turn → Type 0
LaterLine texts code content text turn =
    MatchBool (is_silent (words_of content)) ((text ≡ []) × (turn ≡ GoesOn)) (texts.later code (words_of content) text turn)

-- The world after a later line: no line changes the program.
abbrev pub after_turn : List Instr → Turn → Option ProgramWorld
after_turn code GoesOn = Some (Some code)
after_turn code Ends = None

-- The answer to a line, and the next world, or None if the line ends the run.
abbrev pub ProgramSteps : ProgramTexts → ProgramWorld → List ℕ → List ℕ → Option ProgramWorld → Type 0
ProgramSteps texts None content text next = FirstLine texts content text next
ProgramSteps texts (Some code) content text next = (turn : Turn) × LaterLine texts code content text turn × (next ≡ after_turn code turn)

-- The end of the input. It is an error if there was no program line.
abbrev pub ProgramCloses : ProgramWorld → List ℕ → Done → Type 0
ProgramCloses None text done = (text ≡ no_program) × (done ≡ Ended)
ProgramCloses (Some code) text done = (text ≡ []) × (done ≡ Whole)

-- The code of a world is accepted.
abbrev pub IsSoundWorld : ProgramWorld → Type 0
IsSoundWorld None = Unit {0}
IsSoundWorld (Some code) = IsAccepted code

-- The rules of a subcommand that answers by these texts.
abbrev pub program_rules : ProgramTexts → Rules ProgramWorld
program_rules texts = record { steps = ProgramSteps texts; closes = ProgramCloses; too_long = too_long; is_sound = IsSoundWorld }

-- The output for a whole input, and how the run ends.
abbrev pub IsProgramText : ProgramTexts → List ℕ → List ℕ → Done → Type 0
IsProgramText texts octets text done = Prints (program_rules texts) 0 None (lines_of octets) text done

-- An accepted code and each line after it have an answer.
pub record AnswersAlways (texts : ProgramTexts) : Type 0 where
  pub first : (code : List Instr) → IsAccepted code → (text : List ℕ) × texts.first code text
  pub later : (code : List Instr) → IsAccepted code → (words : List (List ℕ)) → (text : List ℕ) × (turn : Turn) × texts.later code words text turn
