-- The explanation of a fault of a source.
use Rattle.std.specs.Prelude.{ℕ, Bool, true, false, ◌&&◌, if◌then◌else◌, nat_le, nat_lt, List, [], ◌∷◌, ◌++◌, codes, decimal, slice_get, unwrap_or, Option, Some, None}
use Rattle.std.specs.Str.{bytes_eq}
use Rattle.bpf_asm.specs.SourceLines.{without_comment}
use Rattle.bpf_asm.specs.declared.fault.AsmFault.{AsmFault}
use Rattle.bpf_asm.specs.declared.fault.AsmKind.{AsmKind}
use Rattle.bpf_asm.specs.declared.fault.AsmKind.TheVariants as asm
use Rattle.cmd_explain.specs.BadLines.{bad_line_sentence, first_bad_number, no_number_sentence, octets_of, wrong_token}
use Rattle.cmd_explain_script.specs.FoundWords.{column_of, word_octets}
use Rattle.cmd_explain_script.specs.Places.{place_words, quoted}
use Rattle.cmd_explain_script.specs.Tables.{value_among}
use Rattle.cmd_explain.specs.Forms.{known_mnemonics}
use Rattle.cmd_explain.specs.LinesFound.{count_between, instruction_lines, instruction_tokens, label_line, line_numbered, tokens_of_line}
use Rattle.cmd_explain.specs.declared.forms.Form.{Form}
use Rattle.cmd_explain.specs.declared.forms.Form.TheVariants as form
use Rattle.cmd_explain_script.specs.declared.found_words.FoundWord.{FoundWord}
use Rattle.text_words.specs.FaultLines.{line}

-- Whether a label operand on this line has the fault, by the line that has its label.
abbrev pub label_fails : AsmKind → ℕ → List ℕ → Option ℕ → Bool
label_fails asm.UnknownLabel at numbers None = true
label_fails asm.Backward at numbers (Some other) = nat_le other at
label_fails asm.TooFar at numbers (Some other) = nat_lt 255 (count_between at other numbers)
label_fails _ at numbers found = false

-- Whether the mnemonic takes a label alone.
abbrev pub takes_label : Option Form → Bool
takes_label (Some form.Jump) = true
takes_label _ = false

-- The first label operand of these tokens that has the fault. A label operand comes after a comma, or after `ja`; `after` says whether the
-- token before these is a comma or `ja`.
abbrev pub failing_operand : List (List ℕ) → AsmFault → List ℕ → List ℕ → Bool → List FoundWord → Option FoundWord
failing_operand lines fault numbers text after [] = None
failing_operand lines fault numbers text after (token ∷ tokens) =
    if after && label_fails fault.kind fault.line numbers (label_line (word_octets text token) 1 lines) then Some token
    else failing_operand lines fault numbers text (bytes_eq (word_octets text token) (codes ",")) tokens

-- The first label operand of an instruction with these tokens that has the fault.
abbrev pub failing_label : List (List ℕ) → AsmFault → List ℕ → List FoundWord → Option FoundWord
failing_label lines fault text [] = None
failing_label lines fault text (first ∷ operands) =
    failing_operand lines fault (instruction_lines 1 lines) text (takes_label (value_among (word_octets text first) known_mnemonics)) operands

-- The token that a fault of this kind is about, if it is about one.
abbrev pub blamed_token : List (List ℕ) → AsmFault → AsmKind → List ℕ → Option FoundWord
blamed_token lines fault asm.BadLine content = wrong_token (without_comment content) (instruction_tokens content)
blamed_token lines fault asm.BadNumber content = first_bad_number (without_comment content) (tokens_of_line content)
blamed_token lines fault asm.LabelTwice content = slice_get (tokens_of_line content) 0
blamed_token lines fault asm.UnknownLabel content = failing_label lines fault (without_comment content) (instruction_tokens content)
blamed_token lines fault asm.Backward content = failing_label lines fault (without_comment content) (instruction_tokens content)
blamed_token lines fault asm.TooFar content = failing_label lines fault (without_comment content) (instruction_tokens content)
blamed_token lines fault asm.DanglingLabel content = slice_get (tokens_of_line content) 0
blamed_token lines fault asm.NoMemory content = None

-- The line that has a label, in words.
abbrev pub label_words : List ℕ → Option ℕ → List ℕ
label_words label found = codes "the label " ++ (quoted label ++ (codes " is on line " ++ decimal (unwrap_or found 0)))

-- That no line has a label, in words.
abbrev pub missing_label : List ℕ → List ℕ
missing_label label = codes "no line has the label " ++ quoted label

-- The sentence about a label.
abbrev pub label_sentence : AsmKind → List ℕ → Option ℕ → List ℕ
label_sentence asm.LabelTwice label found = label_words label found ++ codes " already; a label names one place"
label_sentence asm.UnknownLabel label found = missing_label label ++ codes "; it belongs before an instruction further down"
label_sentence asm.Backward label found = label_words label found ++ codes "; a jump leads to an instruction further down"
label_sentence asm.TooFar label found = label_words label found ++ codes ", over more than 255 instructions; `ja` goes further"
label_sentence asm.DanglingLabel label found = codes "no instruction follows the label " ++ quoted label
label_sentence _ label found = []

-- The sentence about a fault, whose token has these octets.
abbrev pub source_sentence : List (List ℕ) → AsmKind → List ℕ → List ℕ → List ℕ
source_sentence lines asm.BadLine content blamed = bad_line_sentence (without_comment content) (instruction_tokens content)
source_sentence lines asm.BadNumber content blamed = no_number_sentence blamed
source_sentence lines kind content blamed = label_sentence kind blamed (label_line blamed 1 lines)

-- The explanation of a fault on a line with this content: its line, the column of the token that is wrong, and a sentence.
abbrev pub line_explanation : List (List ℕ) → AsmFault → List ℕ → Option FoundWord → List ℕ
line_explanation lines fault content blamed =
    place_words fault.line (column_of blamed) ++ line (source_sentence lines fault.kind content (octets_of (without_comment content) blamed))

-- The explanation of a fault of a source.
abbrev pub source_explanation : List (List ℕ) → AsmFault → List ℕ
source_explanation lines fault =
    line_explanation lines fault (line_numbered lines fault.line) (blamed_token lines fault fault.kind (line_numbered lines fault.line))
