-- Hints about a source without a fault.
use Rattle.std.specs.Prelude.{◌≡◌, ℕ, ◌+◌, Bool, true, nat_lt, if◌then◌else◌, List, [], ◌∷◌, ◌++◌, codes, drop, length, slice_get, Option}
use Rattle.bpf_asm.specs.SourceLines.{without_comment}
use Rattle.bpf_code.specs.declared.instr.Instr.{Instr}
use Rattle.bpf_code.specs.declared.instr.Instr.TheVariants.{LoadAbs, LoadInd, LdxMsh}
use Rattle.bpf_interp.specs.Packet.{octets_loaded}
use Rattle.bpf_interp.specs.State.{State, Ended}
use Rattle.bpf_interp.specs.Step.{Does}
use Rattle.cmd_explain.specs.BadLines.{first_number}
use Rattle.cmd_explain.specs.LinesFound.{has_token, instruction_tokens}
use Rattle.cmd_explain_script.specs.FoundWords.{column_of}
use Rattle.cmd_explain_script.specs.declared.found_words.FoundWord.{FoundWord}
use Rattle.cmd_explain_script.specs.Places.{place_words}
use Rattle.text_words.specs.FaultLines.{line}

-- The number of octets that a cell has at least if the instruction loads from it. Other instructions need none.
abbrev pub octets_needed : Instr → ℕ
octets_needed (LoadAbs size k) = k + octets_loaded size
octets_needed (LoadInd size k) = k + octets_loaded size
octets_needed (LdxMsh k) = k + 1
octets_needed _ = 0

-- Whether the instruction loads from outside of each cell.
abbrev pub is_past_cell : Instr → Bool
is_past_cell i = nat_lt 52 (octets_needed i)

-- An instruction that loads from outside of each cell ends the program with 0, whatever the machine holds.
abbrev pub OutsideEndsProgram : Type 0
OutsideEndsProgram =
    (cell : List ℕ) (i : Instr) (pc a x : ℕ) (m : List (ℕ × ℕ)) (next : State) → length cell ≡ 52 → is_past_cell i ≡ true
    → Does cell i pc a x m next → next ≡ Ended 0

-- The token of such an instruction that is wrong: its offset, or the mnemonic of a load of a header's length.
abbrev pub hinted_token : Instr → List ℕ → Option FoundWord
hinted_token (LdxMsh k) content = slice_get (instruction_tokens content) 0
hinted_token _ content = first_number (without_comment content) (instruction_tokens content)

-- The hint about such an instruction on a line of this number and content.
abbrev pub outside_hint : ℕ → List ℕ → Instr → List ℕ
outside_hint number content i =
    codes "hint " ++ (place_words number (column_of (hinted_token i content))
    ++ line (codes "a cell has the octets 0 to 51, so this load always ends the program with 0"))

-- The hint about the first instruction of a code, which is on a line of this number and content, or nothing.
abbrev pub first_hint : ℕ → List ℕ → List Instr → List ℕ
first_hint number content [] = []
first_hint number content (i ∷ code) = if is_past_cell i then outside_hint number content i else []

-- The hints about the instructions of a code, which are on these lines in order. The first line has this number.
abbrev pub hints_from : ℕ → List (List ℕ) → List Instr → List ℕ
hints_from number [] code = []
hints_from number (content ∷ lines) code =
    if has_token (instruction_tokens content) then first_hint number content code ++ hints_from (number + 1) lines (drop 1 code)
    else hints_from (number + 1) lines code

-- The hints about the code that these lines mean.
unfoldable pub hints_of : List (List ℕ) → List Instr → List ℕ
hints_of lines code = hints_from 1 lines code
