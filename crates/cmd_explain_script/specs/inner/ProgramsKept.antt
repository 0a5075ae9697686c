-- How a line of a script changes what is kept of the programs that were loaded.
use Rattle.std.specs.Prelude.{◌≡◌, ℕ, Bool, if◌then◌else◌, List, [], ◌∷◌, ◌++◌, codes, take, Option, Some, None}
use Rattle.std.specs.Str.{bytes_eq}
use Rattle.bpf_code.specs.OctetSpelling.{SpellsCode}
use Rattle.bpf_code.specs.declared.instr.Instr.{Instr}
use Rattle.text_io.specs.Words.{words_of}
use Rattle.upc_cell.specs.declared.side.Side.{Side}
use Rattle.text_script.specs.ScriptCommands.{Command, load, retire, setup, reload, release, cut, cell, command_of}
use Rattle.text_words.specs.Hexadecimal.{octets_of_digits}
use Rattle.cmd_explain_script.specs.ContractNumbers.{names_none}
use Rattle.cmd_explain_script.specs.declared.contract_numbers.NamesNoContract.{NamesNoContract}

-- The digits of a `load`.
abbrev pub load_digits : Option Command → Option (List ℕ)
load_digits None = None
load_digits (Some (load digits)) = Some digits
load_digits (Some (retire number)) = None
load_digits (Some (setup vc number wanted)) = None
load_digits (Some (reload vc number)) = None
load_digits (Some (release vc)) = None
load_digits (Some (cut vc)) = None
load_digits (Some (cell moment digits)) = None

-- Whether an answer says that a program was loaded.
abbrev pub is_loaded_answer : List ℕ → Bool
is_loaded_answer answer = bytes_eq (take 7 answer) (codes "loaded ")

-- The digits of the program that a line loads, if this is the answer to it on a card of this side or before there is one.
abbrev pub loaded_digits : Option Side → List ℕ → List ℕ → Option (List ℕ)
loaded_digits None content answer = None
loaded_digits (Some side) content answer = if is_loaded_answer answer then load_digits (command_of side (words_of content)) else None

-- What is kept after a line that loads the program of these digits, or loads none.
abbrev pub ProgramsAfter : Option (List ℕ) → List NamesNoContract → List NamesNoContract → Type 0
ProgramsAfter None before after = after ≡ before
ProgramsAfter (Some digits) before after =
    (octets : List ℕ) (code : List Instr) → octets_of_digits digits ≡ Some octets → SpellsCode octets code → after ≡ before ++ names_none code ∷ []

-- The codes that were loaded after such a line.
abbrev pub CodesAfter : Option (List ℕ) → List (List Instr) → List (List Instr) → Type 0
CodesAfter None before after = after ≡ before
CodesAfter (Some digits) before after =
    (octets : List ℕ) × (code : List Instr) × (octets_of_digits digits ≡ Some octets) × SpellsCode octets code × (after ≡ before ++ code ∷ [])
