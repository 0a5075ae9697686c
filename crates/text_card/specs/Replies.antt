-- The answer lines for the replies of a card.
use Rattle.std.specs.Prelude.{ℕ, suc, List, ◌++◌, codes, decimal, Option, Some, None}
use Rattle.upc_cell.specs.declared.side.Side.{Side}
use Rattle.upc_cell.specs.declared.vc.Vc.{Vc}
use Rattle.gen_arena.specs.declared.id.Id.{Id}
use Rattle.card_core.specs.declared.answer.Answer.{Answer}
use Rattle.card_core.specs.declared.answer.Answer.TheVariants as answer
use Rattle.card_core.specs.declared.reply.Reply.{Reply}
use Rattle.card_core.specs.declared.reply.Reply.TheVariants as reply
use Rattle.text_script.specs.ProgramNames.{number_of_program}
use Rattle.text_script.specs.ReplyTexts.{connection_name, judging_text, piece_text, program_name, verdict_text}
use Rattle.text_script.specs.ScriptCommands.{Command, load, retire, setup, reload, release, cut}
use Rattle.text_words.specs.FaultLines.{line}
use Rattle.text_card.specs.CardFaults.{arrive_fault, desk_fault}

-- The line of a cell that arrived on this connection of a card of this side, if the program that named its contract has a
-- name with this number. NoMemory has none.
abbrev pub numbered_answer_text : Side → ℕ → Vc → Answer → Option (List ℕ)
numbered_answer_text side name vc (answer.Judged line_number number moment value program verdict leaving) =
    Some (verdict_text verdict (judging_text side vc name value) leaving)
numbered_answer_text side name vc answer.NoConnection = Some (arrive_fault (codes "1 NoConnection"))
numbered_answer_text side name vc answer.Released = Some (arrive_fault (codes "2 Released"))
numbered_answer_text side name vc answer.Stale = Some (arrive_fault (codes "3 Stale"))
numbered_answer_text side name vc (answer.MomentBack last) = Some (arrive_fault (codes "4 MomentBack " ++ decimal last))
numbered_answer_text side name vc answer.MomentTooLate = Some (arrive_fault (codes "5 MomentTooLate"))
numbered_answer_text side name vc answer.JournalFull = Some (arrive_fault (codes "6 JournalFull"))
numbered_answer_text side name vc answer.NoMemory = None

-- The number in the name of the program that named a judged cell's contract. For a cell that isn't judged it is 0.
abbrev pub number_of_judging : List Id → Answer → ℕ
number_of_judging names (answer.Judged line_number number moment value program verdict leaving) = number_of_program names program
number_of_judging names _ = 0

-- The line of a cell that arrived on this connection of a card of this side, if these are the ids of the programs.
abbrev pub answer_text : Side → List Id → Vc → Answer → Option (List ℕ)
answer_text side names vc given = numbered_answer_text side (number_of_judging names given) vc given

-- The line of the reply to a command of the desk of a card of this side, after `programs` programs were loaded. An allocation failure has
-- none, and neither has a reply to another command.
abbrev pub reply_text : Side → Command → ℕ → Reply → Option (List ℕ)
reply_text side (load digits) programs (reply.Loaded id) = Some (line (codes "loaded " ++ program_name (suc programs)))
reply_text side (load digits) programs (reply.NotLoaded fault code) = desk_fault fault
reply_text side (retire number) programs (reply.Retired code) = Some (line (codes "retired " ++ program_name number))
reply_text side (retire number) programs (reply.Refused fault) = desk_fault fault
reply_text side (setup vc number wanted) programs (reply.SetUp owner) = Some (line (codes "set " ++ connection_name side vc))
reply_text side (setup vc number wanted) programs (reply.NotSetUp fault ask) = desk_fault fault
reply_text side (reload vc number) programs (reply.Reloaded old) =
    Some (line (codes "reloaded " ++ connection_name side vc ++ codes " " ++ program_name number))
reply_text side (reload vc number) programs (reply.Refused fault) = desk_fault fault
reply_text side (release vc) programs (reply.Released piece) =
    Some (line (codes "released " ++ connection_name side vc ++ piece_text piece))
reply_text side (release vc) programs (reply.Refused fault) = desk_fault fault
reply_text side (cut vc) programs (reply.Cut piece) = Some (line (codes "cut " ++ connection_name side vc ++ piece_text piece))
reply_text side (cut vc) programs (reply.Refused fault) = desk_fault fault
reply_text side _ programs _ = None
