-- The commands of a script, from the words of a line.
use Rattle.std.specs.Prelude.{ℕ, nat_le, ◌&&◌, if◌then◌else◌, List, [], ◌∷◌, length, codes, Option, Some, None, option_map}
use Rattle.std.specs.Str.{bytes_eq}
use Rattle.upc_cell.specs.declared.side.Side.{Side}
use Rattle.upc_cell.specs.declared.vc.Vc.{Vc}
use Rattle.text_script.specs.declared.script_words.Wanted.{Wanted}
use Rattle.text_script.specs.ScriptWords.{with_both, number_of_digits, program_of, vc_named, wanted_of_each}

-- A command of a line. Programs are named by number, from 1. The octets of a program or of a cell are still a word of
-- digits: an error in this word is reported only if all other words are right.
pub data Command : Type 0 where
  load : List ℕ → Command
  retire : ℕ → Command
  setup : Vc → ℕ → List Wanted → Command
  reload : Vc → ℕ → Command
  release : Vc → Command
  cut : Vc → Command
  cell : ℕ → List ℕ → Command

-- `load HEX`
abbrev pub load_of : List (List ℕ) → Option Command
load_of (digits ∷ []) = Some (load digits)
load_of _ = None

-- `retire pN`
abbrev pub retire_of : List (List ℕ) → Option Command
retire_of (program ∷ []) = option_map (λ number. retire number) (program_of program)
retire_of _ = None

-- The contracts of one to four words. None for any other number of words, or if one of them spells no contract.
abbrev pub wanted_contracts : List (List ℕ) → Option (List Wanted)
wanted_contracts words = if nat_le 1 (length words) && nat_le (length words) 4 then wanted_of_each words else None

-- `VPI VCI pN`, with which the words of `setup` and of `reload` begin.
abbrev pub connection_and_program : Side → List ℕ → List ℕ → List ℕ → Option (Vc × ℕ)
connection_and_program side path channel program = with_both (λ vc number. (vc, number)) (vc_named side path channel) (program_of program)

-- The setup of this connection and program, with these contracts.
abbrev pub setup_with : Vc × ℕ → List Wanted → Command
setup_with target wanted = setup target.0 target.1 wanted

-- `setup VPI VCI pN CONTRACT ..`
abbrev pub setup_of : Side → List (List ℕ) → Option Command
setup_of side (path ∷ channel ∷ program ∷ contracts) =
    with_both setup_with (connection_and_program side path channel program) (wanted_contracts contracts)
setup_of side _ = None

-- The reload of this connection and program.
abbrev pub reload_with : Vc × ℕ → Command
reload_with target = reload target.0 target.1

-- `reload VPI VCI pN`
abbrev pub reload_of : Side → List (List ℕ) → Option Command
reload_of side (path ∷ channel ∷ program ∷ []) =
    option_map reload_with (connection_and_program side path channel program)
reload_of side _ = None

-- The connection of exactly two words.
abbrev pub only_vc : Side → List (List ℕ) → Option Vc
only_vc side (path ∷ channel ∷ []) = vc_named side path channel
only_vc side _ = None

-- `release VPI VCI`
abbrev pub release_of : Side → List (List ℕ) → Option Command
release_of side words = option_map (λ vc. release vc) (only_vc side words)

-- `cut VPI VCI`
abbrev pub cut_of : Side → List (List ℕ) → Option Command
cut_of side words = option_map (λ vc. cut vc) (only_vc side words)

-- `cell MOMENT HEX`
abbrev pub cell_of_words : List (List ℕ) → Option Command
cell_of_words (moment ∷ digits ∷ []) = option_map (λ ticks. cell ticks digits) (number_of_digits moment)
cell_of_words _ = None

-- The command of a line's words on a card of this side. None if the words are no command.
abbrev pub command_of : Side → List (List ℕ) → Option Command
command_of side [] = None
command_of side (name ∷ words) =
    if bytes_eq name (codes "cell") then cell_of_words words
    else if bytes_eq name (codes "load") then load_of words
    else if bytes_eq name (codes "retire") then retire_of words
    else if bytes_eq name (codes "setup") then setup_of side words
    else if bytes_eq name (codes "reload") then reload_of side words
    else if bytes_eq name (codes "release") then release_of side words
    else if bytes_eq name (codes "cut") then cut_of side words
    else None
