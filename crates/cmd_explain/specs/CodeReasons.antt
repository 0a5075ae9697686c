-- The explanation of a fault of the code that a source means.
use Rattle.std.specs.Prelude.{◌≡◌, ℕ, ◌-◌, List, [], ◌∷◌, ◌++◌, length, reverse, codes, decimal, slice_get, slice_index, Option}
use Rattle.bpf_asm.specs.SourceLines.{without_comment}
use Rattle.bpf_code.specs.declared.instr.Instr.{Instr}
use Rattle.bpf_verify.specs.declared.fault.Fault.{Fault}
use Rattle.bpf_verify.specs.declared.fault.Fault.TheVariants as fault
use Rattle.cmd_explain.specs.BadLines.{first_number}
use Rattle.cmd_explain.specs.CodePaths.{LeavesUnwritten}
use Rattle.cmd_explain.specs.LinesFound.{instruction_lines, instruction_tokens, line_numbered}
use Rattle.cmd_explain_script.specs.FoundWords.{column_of}
use Rattle.cmd_explain_script.specs.Places.{place_words}
use Rattle.cmd_explain_script.specs.declared.found_words.FoundWord.{FoundWord}
use Rattle.text_words.specs.FaultLines.{line}

-- The place of the instruction that the fault is about, in a code of `size` instructions. `Empty` is about none.
abbrev pub fault_place : ℕ → Fault → ℕ
fault_place size fault.Empty = 0
fault_place size fault.TooLong = 4096
fault_place size (fault.BadScratch at) = at
fault_place size (fault.ZeroDivisor at) = at
fault_place size (fault.BadShift at) = at
fault_place size (fault.JumpOutside at) = at
fault_place size fault.NoReturn = size - 1
fault_place size (fault.Unwritten at word) = at

-- The token of an instruction that the fault is about: its number, or its mnemonic.
abbrev pub blamed_part : Fault → List ℕ → Option FoundWord
blamed_part (fault.BadScratch at) content = first_number (without_comment content) (instruction_tokens content)
blamed_part (fault.ZeroDivisor at) content = first_number (without_comment content) (instruction_tokens content)
blamed_part (fault.BadShift at) content = first_number (without_comment content) (instruction_tokens content)
blamed_part (fault.Unwritten at word) content = first_number (without_comment content) (instruction_tokens content)
blamed_part _ content = slice_get (instruction_tokens content) 0

-- The name of a scratch word.
abbrev pub scratch_name : ℕ → List ℕ
scratch_name word = codes "M[" ++ (decimal word ++ codes "]")

-- The sentence about a read of a word that isn't written. The lines of a path follow.
abbrev pub unwritten_sentence : ℕ → List ℕ
unwritten_sentence word = scratch_name word ++ codes " is read here, and no instruction on this path stores it: lines"

-- The sentence about a fault.
abbrev pub code_sentence : Fault → List ℕ
code_sentence fault.Empty = codes "no line has an instruction; the shortest program is `ret #0`"
code_sentence fault.TooLong = codes "this is instruction 4097, and a program has at most 4096"
code_sentence (fault.BadScratch at) = codes "there are 16 scratch words, M[0] to M[15]"
code_sentence (fault.ZeroDivisor at) = codes "the divisor is 0; a constant divisor is at least 1"
code_sentence (fault.BadShift at) = codes "a constant shift is by 0 to 31 bits"
code_sentence (fault.JumpOutside at) = codes "one side of this branch leads past the last instruction; without a label it leads to the next one"
code_sentence fault.NoReturn = codes "the last instruction is to be a return, as `ret #0`"
code_sentence (fault.Unwritten at word) = unwritten_sentence word

-- The line of the instruction that the fault is about, and the column of the token.
abbrev pub code_place : List (List ℕ) → ℕ → Fault → List ℕ
code_place lines number fault = place_words number (column_of (blamed_part fault (line_numbered lines number)))

-- The numbers of the lines of these places, each after a blank.
abbrev pub numbers_text : List ℕ → List ℕ → List ℕ
numbers_text numbers [] = []
numbers_text numbers (place ∷ places) = codes " " ++ (decimal (slice_index numbers place) ++ numbers_text numbers places)

-- The rest of the explanation. For a read of a word that isn't written it is a path to the read without a store of the word: the lines
-- of its places, in order.
abbrev pub IsRest : List Instr → List ℕ → Fault → List ℕ → Type 0
IsRest code numbers (fault.Unwritten at word) text =
    (passed : List ℕ) × LeavesUnwritten code at word passed × (text ≡ line (numbers_text numbers (reverse passed ++ at ∷ [])))
IsRest code numbers _ text = text ≡ line []

-- Where a fault is, in words. `Empty` is nowhere.
abbrev pub code_start : List (List ℕ) → ℕ → Fault → List ℕ
code_start lines size fault.Empty = []
code_start lines size fault = code_place lines (slice_index (instruction_lines 1 lines) (fault_place size fault)) fault

-- The explanation of a fault of a code: its line, the column of the token that is wrong, a sentence, and perhaps a path.
abbrev pub IsCodeExplanation : List (List ℕ) → List Instr → Fault → List ℕ → Type 0
IsCodeExplanation lines code fault text =
    (rest : List ℕ) × IsRest code (instruction_lines 1 lines) fault rest
    × (text ≡ code_start lines (length code) fault ++ (code_sentence fault ++ rest))
