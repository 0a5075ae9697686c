-- The replies to the steps of the desk, for the result of each call.
use Rattle.std.specs.Prelude.{List, Result, Ok, Err}
use Rattle.bpf_code.specs.declared.instr.Instr.{Instr}
use Rattle.gen_arena.specs.declared.id.Id.{Id}
use Rattle.line_record.specs.declared.owner.Owner.{Owner}
use Rattle.line_record.specs.Piece.{PieceView}
use Rattle.card_core.specs.declared.ask.Ask.{Ask}
use Rattle.card_core.specs.declared.fault.DeskFault.{DeskFault}
use Rattle.card_core.specs.declared.reply.Reply.{Reply}
use Rattle.card_core.specs.declared.reply.Reply.TheVariants.{Loaded, NotLoaded, Retired, SetUp, NotSetUp, Reloaded, Released, Cut as CutOff, Refused}

-- The reply to Load: the id, or the fault with the program.
abbrev pub load_reply : Result Id (DeskFault × List Instr) → Reply
load_reply (Ok id) = Loaded id
load_reply (Err refused) = NotLoaded refused.0 refused.1

-- The reply to Retire: the program, or the fault.
abbrev pub retire_reply : Result (List Instr) DeskFault → Reply
retire_reply (Ok program) = Retired program
retire_reply (Err fault) = Refused fault

-- The reply to Setup: the owner of the line, or the fault with the request.
abbrev pub setup_reply : Result Owner (DeskFault × Ask) → Reply
setup_reply (Ok owner) = SetUp owner
setup_reply (Err refused) = NotSetUp refused.0 refused.1

-- The reply to Reload: the program that the connection had before, or the fault.
abbrev pub reload_reply : Result Id DeskFault → Reply
reload_reply (Ok before) = Reloaded before
reload_reply (Err fault) = Refused fault

-- The reply to Release: the connection's last journal, or the fault.
abbrev pub release_reply : Result PieceView DeskFault → Reply
release_reply (Ok piece) = Released piece
release_reply (Err fault) = Refused fault

-- The reply to Cut: the journal, or the fault.
abbrev pub cut_reply : Result PieceView DeskFault → Reply
cut_reply (Ok piece) = CutOff piece
cut_reply (Err fault) = Refused fault
