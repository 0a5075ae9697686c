-- The lines of a source that have an instruction or a label.
use Rattle.std.specs.Prelude.{ℕ, ◌+◌, ◌-◌, Bool, true, false, if◌then◌else◌, nat_lt, ◌&&◌, List, [], ◌∷◌, get_or, Option, Some, None}
use Rattle.std.specs.Str.{bytes_eq}
use Rattle.bpf_asm.specs.SourceLines.{without_comment}
use Rattle.cmd_explain.specs.FoundTokens.{after_label, found_tokens, label_of}
use Rattle.cmd_explain_script.specs.declared.found_words.FoundWord.{FoundWord}

-- The tokens of a line, before its comment.
abbrev pub tokens_of_line : List ℕ → List FoundWord
tokens_of_line line = found_tokens (without_comment line)

-- The tokens of the instruction of a line.
abbrev pub instruction_tokens : List ℕ → List FoundWord
instruction_tokens line = after_label (without_comment line) (tokens_of_line line)

-- Whether there is a token.
abbrev pub has_token : List FoundWord → Bool
has_token [] = false
has_token (token ∷ tokens) = true

-- The numbers of the lines that have an instruction. The first line has this number.
abbrev pub instruction_lines : ℕ → List (List ℕ) → List ℕ
instruction_lines number [] = []
instruction_lines number (line ∷ lines) =
    if has_token (instruction_tokens line) then number ∷ instruction_lines (number + 1) lines else instruction_lines (number + 1) lines

-- Whether this is the label.
abbrev pub is_same_label : List ℕ → Option (List ℕ) → Bool
is_same_label label None = false
is_same_label label (Some other) = bytes_eq other label

-- The number of the first line that has this label, if one has it. The first line of these has this number.
abbrev pub label_line : List ℕ → ℕ → List (List ℕ) → Option ℕ
label_line label number [] = None
label_line label number (line ∷ lines) =
    if is_same_label label (label_of (without_comment line) (tokens_of_line line)) then Some number else label_line label (number + 1) lines

-- The line of this number, counted from 1.
abbrev pub line_numbered : List (List ℕ) → ℕ → List ℕ
line_numbered lines number = get_or lines (number - 1) []

-- How many of these numbers are between two others.
abbrev pub count_between : ℕ → ℕ → List ℕ → ℕ
count_between low high [] = 0
count_between low high (number ∷ numbers) =
    if nat_lt low number && nat_lt number high then 1 + count_between low high numbers else count_between low high numbers
