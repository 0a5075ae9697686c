-- The explanation of a fault line: where the fault is, and what is wrong there.
use Rattle.std.specs.Prelude.{ℕ, ◌+◌, ◌-◌, Bool, true, false, ◌&&◌, if◌then◌else◌, List, [], ◌∷◌, ◌++◌, codes, drop, length, slice_get, Option, Some, None}
use Rattle.std.specs.Option.{is_some}
use Rattle.std.specs.Str.{bytes_eq}
use Rattle.upc_cell.specs.declared.side.Side.{Side}
use Rattle.text_script.specs.Rates.{first_wanted_fault, rate_fault}
use Rattle.text_script.specs.ScriptWords.{wanted_of}
use Rattle.text_script.specs.declared.script_words.Rate.{Rate}
use Rattle.text_script.specs.declared.script_words.Wanted.{Wanted}
use Rattle.text_script.specs.declared.script_words.Wanted.TheVariants as wanted
use Rattle.text_words.specs.FaultLines.{line}
use Rattle.cmd_explain_script.specs.FoundWords.{column_of, found_words, word_octets}
use Rattle.cmd_explain_script.specs.Places.{place_words}
use Rattle.cmd_explain_script.specs.ScriptFaults.{explained_fault}
use Rattle.cmd_explain_script.specs.WrongWords.{wrong_sentence, wrong_word}
use Rattle.cmd_explain_script.specs.declared.found_words.FoundWord.{FoundWord}
use Rattle.cmd_explain_script.specs.declared.script_faults.ScriptFault.{ScriptFault}
use Rattle.cmd_explain_script.specs.declared.script_faults.ScriptFault.TheVariants as fault

-- Whether a bucket of a contract has a fault.
abbrev pub has_bad_bucket : Option Wanted → Bool
has_bad_bucket None = false
has_bad_bucket (Some wanted) = is_some (first_wanted_fault (wanted ∷ []))

-- The place of the first of these words that is a contract with a bad bucket. The first of the words has this place.
abbrev pub bad_contract : List ℕ → ℕ → List FoundWord → ℕ
bad_contract content place [] = place
bad_contract content place (word ∷ words) =
    if has_bad_bucket (wanted_of (word_octets content word)) then place else bad_contract content (place + 1) words

-- The place of the word that names a program: the second of `retire`, and otherwise the fourth.
abbrev pub program_place : List ℕ → List FoundWord → ℕ
program_place content [] = 0
program_place content (first ∷ words) = if bytes_eq (word_octets content first) (codes "retire") then 1 else 3

-- The place of the word that a fault is about, from 0. A fault that is about no other word is about the first.
abbrev pub blamed_place : ScriptFault → List ℕ → List FoundWord → ℕ
blamed_place fault.BadHex content words = length words - 1
blamed_place fault.WrongLength content words = length words - 1
blamed_place fault.ManyPrograms content words = 1
blamed_place fault.ManyLines content words = 2
blamed_place fault.ManyPorts content words = 3
blamed_place fault.LongJournal content words = 4
blamed_place fault.ZeroIncrement content words = bad_contract content 4 (drop 4 words)
blamed_place fault.LargeRate content words = bad_contract content 4 (drop 4 words)
blamed_place fault.Ragged content words = 1
blamed_place fault.UnknownCode content words = 1
blamed_place fault.NoInstruction content words = 1
blamed_place fault.LongCode content words = 1
blamed_place fault.BadScratch content words = 1
blamed_place fault.ZeroDivisor content words = 1
blamed_place fault.BadShift content words = 1
blamed_place fault.JumpOutside content words = 1
blamed_place fault.NoReturn content words = 1
blamed_place fault.Unwritten content words = 1
blamed_place fault.NoProgram content words = program_place content words
blamed_place fault.NoConnection content words = 1
blamed_place fault.Taken content words = 1
blamed_place fault.InUse content words = 1
blamed_place fault.Busy content words = 1
blamed_place fault.CellUnknown content words = 2
blamed_place fault.CellReleased content words = 2
blamed_place fault.CellStale content words = 2
blamed_place fault.MomentBack content words = 1
blamed_place fault.MomentTooLate content words = 1
blamed_place _ content words = 0

-- The sentence about a fault of the line's words. A line that is no command has another. The sentence about a bucket comes after the
-- bucket's name.
abbrev pub word_fault_text : ScriptFault → List ℕ
word_fault_text fault.BadHex = codes "this word is no octets; each octet is two hexadecimal digits"
word_fault_text fault.WrongLength = codes "a cell has 104 hexadecimal digits, or 8 for a header with a payload of zeros"
word_fault_text fault.ManyPrograms = codes "a card is for 1 to 1024 programs"
word_fault_text fault.ManyLines = codes "a card has 1 to 4096 lines, one for each connection"
word_fault_text fault.ManyPorts = codes "a card has 1 to 16 ports"
word_fault_text fault.LongJournal = codes "a journal has room for 1 to 65536 cells between two cuts"
word_fault_text fault.ZeroIncrement = codes " has the increment 0; an increment is 1 to 281474976710656 ticks"
word_fault_text fault.LargeRate = codes " has a number above 281474976710656 ticks"
word_fault_text _ = []

-- The sentence about a fault of a program's octets.
abbrev pub code_fault_text : ScriptFault → List ℕ
code_fault_text fault.Ragged = codes "an instruction is 16 hexadecimal digits, and the last one has fewer"
code_fault_text fault.UnknownCode = codes "no instruction has this code; `upc check` prints the octets of a source"
code_fault_text fault.NoInstruction = codes "a program has at least one instruction"
code_fault_text fault.LongCode = codes "a program has at most 4096 instructions"
code_fault_text fault.BadScratch = codes "this instruction of the program, counted from 0, names a scratch word of 16 or above; there are M[0] to M[15]"
code_fault_text fault.ZeroDivisor = codes "this instruction of the program, counted from 0, divides by the constant 0"
code_fault_text fault.BadShift = codes "this instruction of the program, counted from 0, shifts by a constant of 32 or more"
code_fault_text fault.JumpOutside = codes "this instruction of the program, counted from 0, jumps past the last one"
code_fault_text fault.NoReturn = codes "the last instruction of the program is no return"
code_fault_text fault.Unwritten =
    codes "this instruction of the program, counted from 0, reads a scratch word that some path to it does not store; `upc-lab explain` of the source shows the path"
code_fault_text _ = []

-- The sentence about a fault of the desk.
abbrev pub desk_fault_text : ScriptFault → List ℕ
desk_fault_text fault.NoProgram = codes "no program has this name; the N-th program loaded is pN, and a retired one is gone"
desk_fault_text fault.NoConnection = codes "there is no such connection; `setup` makes one"
desk_fault_text fault.Taken = codes "there is such a connection already; `reload` gives it another program, and `release` ends it"
desk_fault_text fault.NoLine = codes "each line of the card has a connection; `release` ends one"
desk_fault_text fault.InUse = codes "a connection names this program; `reload` or `release` the connection first"
desk_fault_text fault.ProgramsFull = codes "the card has no room for a program; `retire` makes some"
desk_fault_text fault.Exhausted = codes "this card has set up all connections that it can"
desk_fault_text fault.BadContracts = codes "a connection has one to four contracts"
desk_fault_text fault.Busy = codes "a port has a cell of this connection"
desk_fault_text fault.StaleLine = codes "the line of this connection has another one now"
desk_fault_text _ = []

-- The sentence about a cell that isn't judged.
abbrev pub cell_fault_text : ScriptFault → List ℕ
cell_fault_text fault.CellUnknown = codes "the connection in the header of this cell is not set up"
cell_fault_text fault.CellReleased = codes "the connection of this cell was released before the cell was judged"
cell_fault_text fault.CellStale = codes "the line of this cell has another connection now"
cell_fault_text fault.MomentBack = codes "this moment is before that of the last judged cell of the connection, which the fault names"
cell_fault_text fault.MomentTooLate = codes "a moment is at most 4611686018427387904 ticks"
cell_fault_text fault.JournalFull = codes "the journal of the connection is full; `cut` empties it"
cell_fault_text _ = []

-- The sentence about a fault by itself.
abbrev pub script_fault_text : ScriptFault → List ℕ
script_fault_text fault = word_fault_text fault ++ (code_fault_text fault ++ (desk_fault_text fault ++ cell_fault_text fault))

-- Whether a bucket is at fault.
abbrev pub is_of_bucket : ScriptFault → Bool
is_of_bucket fault.ZeroIncrement = true
is_of_bucket fault.LargeRate = true
is_of_bucket _ = false

-- The name of the first bad bucket of two, if one is bad.
abbrev pub bad_of_two : Rate → List ℕ
bad_of_two peak = if is_some (rate_fault peak) then codes "the bucket of the peak rate" else codes "the bucket of the sustained rate"

-- The name of the first bad bucket of a contract.
abbrev pub bucket_name : Option Wanted → List ℕ
bucket_name None = []
bucket_name (Some (wanted.Cbr1 peak)) = codes "the bucket of this contract"
bucket_name (Some (wanted.Vbr1 peak sustained)) = bad_of_two peak
bucket_name (Some (wanted.Vbr2 peak sustained)) = bad_of_two peak
bucket_name (Some (wanted.Vbr3 peak sustained)) = bad_of_two peak

-- The contract that a word spells, if there is one.
abbrev pub contract_at : List ℕ → Option FoundWord → Option Wanted
contract_at content None = None
contract_at content (Some word) = wanted_of (word_octets content word)

-- The sentence about a fault by itself, on a line with these words.
abbrev pub own_sentence : ScriptFault → List ℕ → List FoundWord → List ℕ
own_sentence fault content words =
    if is_of_bucket fault then bucket_name (contract_at content (slice_get words (blamed_place fault content words))) ++ word_fault_text fault
    else script_fault_text fault

-- Whether the line is no command.
abbrev pub is_no_command : ScriptFault → Bool
is_no_command fault.BadLine = true
is_no_command fault.NoCard = true
is_no_command _ = false

-- The word that a fault is about, if it is about one.
abbrev pub blamed_word : Option Side → List ℕ → List FoundWord → Option ScriptFault → Option FoundWord
blamed_word side content words None = None
blamed_word side content words (Some fault) =
    if is_no_command fault then wrong_word side content words else slice_get words (blamed_place fault content words)

-- The sentence about a fault.
abbrev pub fault_sentence : Option Side → List ℕ → List FoundWord → Option ScriptFault → List ℕ
fault_sentence side content words None = []
fault_sentence side content words (Some fault) = if is_no_command fault then wrong_sentence side content words else own_sentence fault content words

-- Whether a fault may come from an earlier line that was not carried out: its program wasn't loaded, or its connection wasn't set up.
abbrev pub may_follow : ScriptFault → Bool
may_follow fault.NoProgram = true
may_follow fault.NoConnection = true
may_follow fault.CellUnknown = true
may_follow _ = false

-- What follows the sentence about such a fault, if an earlier line has a fault.
abbrev pub follows_text : Bool → Option ScriptFault → List ℕ
follows_text faulty None = []
follows_text faulty (Some fault) = if faulty && may_follow fault then codes "; an earlier line with a fault may be the reason" else []

-- The explanation of a fault: the number of its line, the column of the word that is wrong, and a sentence. `faulty`
-- says whether an earlier line has a fault.
abbrev pub fault_explanation : Bool → Option Side → ℕ → List ℕ → List FoundWord → Option ScriptFault → List ℕ
fault_explanation faulty side number content words found =
    place_words number (column_of (blamed_word side content words found))
    ++ line (fault_sentence side content words found ++ follows_text faulty found)

-- The explanation of a fault line, on a card of this side or before there is one. `faulty` says whether an earlier line has a fault.
abbrev pub script_explanation : Bool → Option Side → ℕ → List ℕ → List ℕ → List ℕ
script_explanation faulty side number content answer =
    fault_explanation faulty side number content (found_words content) (explained_fault answer)
