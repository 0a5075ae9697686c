-- Each line of a running script has an answer, and each list of lines has a text.
use Rattle.std.proofs.Common.{◌≡◌, ℕ, ◌==◌, Bool, true, false, List, [], ◌∷◌, ◌++◌, length, codes, Option, Some, None, refl, sym, append-nil}
use Rattle.std.specs.Option.{MatchOption}
use Rattle.std.specs.Prelude.{MatchBool}
use Rattle.gen_arena.specs.declared.id.Id.{Id}
use Rattle.card_core.specs.declared.answer.Answer.TheVariants.{NoConnection as NoConnectionAnswer}
use Rattle.card_core.specs.declared.fault.DeskFault.{DeskFault}
use Rattle.card_core.specs.declared.fault.DeskFault.TheVariants.{NoConnection, NoProgram, ProgramsFull}
use Rattle.card_core.specs.declared.reply.Reply.TheVariants as reply
use Rattle.card_core.specs.declared.shape.Shape.{Shape}
use Rattle.leaky.specs.declared.gcra.GcraFault.{GcraFault}
use Rattle.text_io.specs.Words.{words_of}
use Rattle.text_io.specs.declared.ending.Done.TheVariants.{Whole}
use Rattle.upc_cell.specs.declared.side.Side.{Side}
use Rattle.upc_cell.specs.declared.vc.Vc.{Vc}
use Rattle.text_card.specs.CardFaults.{gcra_fault, no_such_program}
use Rattle.text_card.specs.Replies.{reply_text}
use Rattle.cmd_programs.proofs.Public.{reads-as}
use Rattle.cmd_programs.specs.Program.{ProgramReading, is_program, is_refused}
use Rattle.text_script.specs.ProgramNames.{program_named}
use Rattle.text_script.specs.ReplyTexts.{connection_name}
use Rattle.text_script.specs.Rates.{first_wanted_fault}
use Rattle.text_script.specs.ScriptCommands.{Command, load, retire, setup, reload, release, cut, cell, command_of}
use Rattle.text_script.specs.declared.script_words.Wanted.{Wanted}
use Rattle.text_words.specs.FaultLines.{bad_hex, bad_line, wrong_length, line}
use Rattle.text_words.specs.Hexadecimal.{octets_of_digits, cell_of_octets}
use Rattle.cmd_ports.specs.ClosingText.{closing_text}
use Rattle.line_record.specs.Tally.{nothing}
use Rattle.cmd_ports.specs.LineAnswers.{Faults, MayReply, Refuses, Replies, RepliesToReading, RepliesToOctets, RepliesToNamed, MayObey, MayAnswerCell, MayAnswerOctets, MayAnswerCommand}
use Rattle.cmd_ports.specs.PortsText.{IsCardText}
use Rattle.cmd_ports.specs.ScriptAnswers.{AnswersEach}

-- The desk may refuse a command with this fault.
refuses : (side : Side) (command : Command) (names : List Id) (fault : DeskFault) (text : List ℕ) → MayReply command (reply.Refused fault)
    → reply_text side command (length names) (reply.Refused fault) ≡ Some text → (printed : List ℕ) × Replies side command names printed names
refuses side command names fault text possible printed =
    (text, record { reply = reply.Refused fault; possible = possible; named = sym (append-nil names); printed = printed })

-- The lines of two of its faults.
abbrev no_program : List ℕ
no_program = line (codes "fault desk " ++ codes "1 NoProgram")

abbrev no_connection : List ℕ
no_connection = line (codes "fault desk " ++ codes "2 NoConnection")

named-some : (side : Side) (command : Command) (names : List Id) (found : Option Id) → ((text : List ℕ) × Replies side command names text names)
    → (text : List ℕ) × MatchOption found (Refuses no_such_program names text names) (λ id. Replies side command names text names)
named-some side command names None some = (no_such_program, (refl, refl))
named-some side command names (Some id) some = some

reading-some : (side : Side) (digits : List ℕ) (names : List Id) (reading : ProgramReading) → (text : List ℕ) × RepliesToReading side digits reading names text names
reading-some side digits names (is_program code) = (
  line (codes "fault desk " ++ codes "6 ProgramsFull"),
  record { reply = reply.NotLoaded ProgramsFull code; possible = refl; named = sym (append-nil names); printed = refl },
)
reading-some side digits names (is_refused fault) = (fault, (refl, refl))

load-some : (side : Side) (digits : List ℕ) (names : List Id) (found : Option (List ℕ))
    → (text : List ℕ) × MatchOption found (Refuses bad_hex names text names) (λ octets. RepliesToOctets side digits octets names text names)
load-some side digits names None = (bad_hex, (refl, refl))
load-some side digits names (Some octets) =
    let reading = reads-as octets in
    let printed = reading-some side digits names reading.0 in (printed.0, (reading.0, reading.1, printed.1))

setup-some : (side : Side) (vc : Vc) (number : ℕ) (wanted : List Wanted) (names : List Id) (fault : Option GcraFault)
    → (text : List ℕ) × MatchOption fault (RepliesToNamed side (setup vc number wanted) number names text names) (λ f. Refuses (gcra_fault f) names text names)
setup-some side vc number wanted names None =
    named-some side (setup vc number wanted) names (program_named names number) (
      line (codes "set " ++ connection_name side vc),
      record { reply = reply.SetUp (record { vc = vc; incarnation = 0 }); possible = refl; named = sym (append-nil names); printed = refl },
    )
setup-some side vc number wanted names (Some fault) = (gcra_fault fault, (refl, refl))

-- A command of the desk.
obey-some : (side : Side) (command : Command) (names : List Id) → (text : List ℕ) × MayObey side command names text names
obey-some side (load digits) names = load-some side digits names (octets_of_digits digits)
obey-some side (retire number) names =
    named-some side (retire number) names (program_named names number) (refuses side (retire number) names NoProgram no_program tt refl)
obey-some side (setup vc number wanted) names = setup-some side vc number wanted names (first_wanted_fault wanted)
obey-some side (reload vc number) names =
    named-some side (reload vc number) names (program_named names number) (refuses side (reload vc number) names NoProgram no_program tt refl)
obey-some side (release vc) names = refuses side (release vc) names NoConnection no_connection tt refl
obey-some side (cut vc) names = refuses side (cut vc) names NoConnection no_connection tt refl
obey-some side (cell moment digits) names = (bad_line, (refl, refl))

-- A cell line.
cell-some : (side : Side) (all : List Id) (octets : List ℕ) (moment : ℕ) (is_cell : Bool)
    → (text : List ℕ) × MatchBool is_cell (MayAnswerCell side all octets moment text nothing) (Faults (wrong_length (length octets)) text nothing)
cell-some side all octets moment true = (
  line (codes "fault arrive " ++ codes "1 NoConnection"),
  record { answer = NoConnectionAnswer; possible = record { judged = tt; blames = tt }; printed = refl; counted = refl },
)
cell-some side all octets moment false = (wrong_length (length octets), (refl, refl))

digits-some : (side : Side) (all : List Id) (moment : ℕ) (found : Option (List ℕ))
    → (text : List ℕ) × MatchOption found (Faults bad_hex text nothing) (λ octets. MayAnswerOctets side all (cell_of_octets octets) moment text nothing)
digits-some side all moment None = (bad_hex, (refl, refl))
digits-some side all moment (Some octets) = cell-some side all (cell_of_octets octets) moment (length (cell_of_octets octets) == 52)

obeyed-some : (side : Side) (command : Command) (names : List Id) → (text : List ℕ) × (MayObey side command names text names × (nothing ≡ nothing))
obeyed-some side command names = let printed = obey-some side command names in (printed.0, (printed.1, refl))

command-some : (side : Side) (all : List Id) (names : List Id) (command : Command)
    → (text : List ℕ) × MayAnswerCommand side all command names text names nothing
command-some side all names (cell moment digits) = let printed = digits-some side all moment (octets_of_digits digits) in (printed.0, (printed.1, refl))
command-some side all names (load digits) = obeyed-some side (load digits) names
command-some side all names (retire number) = obeyed-some side (retire number) names
command-some side all names (setup vc number wanted) = obeyed-some side (setup vc number wanted) names
command-some side all names (reload vc number) = obeyed-some side (reload vc number) names
command-some side all names (release vc) = obeyed-some side (release vc) names
command-some side all names (cut vc) = obeyed-some side (cut vc) names

line-some : (side : Side) (all : List Id) (names : List Id) (found : Option Command)
    → (text : List ℕ) × MatchOption found (Refuses bad_line names text names × (nothing ≡ nothing)) (λ command. MayAnswerCommand side all command names text names nothing)
line-some side all names None = (bad_line, ((refl, refl), refl))
line-some side all names (Some command) = command-some side all names command

each-some : (side : Side) (all : List Id) (names : List Id) (lines : List (List ℕ)) → (text : List ℕ) × AnswersEach side all lines names text names nothing
each-some side all names [] = ([], (refl, refl, refl))
each-some side all names (content ∷ lines) =
    let here = line-some side all names (command_of side (words_of content)) in
    let later = each-some side all names lines in (here.0 ++ later.0, (here.0, later.0, names, nothing, nothing, refl, refl, here.1, later.1))

-- A card of any shape has a text for any lines.
pub some-card : (shape : Shape) (lines : List (List ℕ)) → (text : List ℕ) × IsCardText shape lines text Whole
some-card shape lines =
    let printed = each-some shape.side [] [] lines in (
      codes "ready\n" ++ printed.0 ++ closing_text nothing None,
      record { answers = printed.0; counts = nothing; each = ([], printed.1); uneven = None; within = tt; whole = refl; ends = refl },
    )
