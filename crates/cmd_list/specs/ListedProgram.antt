-- The output of `upc-lab list`. The first line with words is a program, and its answer is its listing with the octets of
-- each instruction, and a comment with the length of its longest run. No later line has words.
use Rattle.std.specs.Prelude.{◌≡◌, ℕ, ◌+◌, List, [], ◌∷◌, ◌++◌, get_or, codes, decimal, Some}
use Rattle.bpf_code.specs.Encoding.{code_octets}
use Rattle.bpf_code.specs.declared.instr.Instr.{Instr}
use Rattle.hex.specs.Hex.{encode_lower}
use Rattle.cmd_list.specs.Comments.{commented, listed_lines}
use Rattle.cmd_list.specs.LongestRun.{IsLongestRun}
use Rattle.text_io.specs.Lines.{Line, line_content}
use Rattle.text_io.specs.Words.{words_of}
use Rattle.text_io.specs.declared.ending.Done.{Done}
use Rattle.text_io.specs.declared.machine.Turn.TheVariants.{Ends}
use Rattle.cmd_programs.specs.AfterProgram.{IsProgramText, ProgramTexts}
use Rattle.cmd_programs.specs.Program.{is_program, ReadsAs}
use Rattle.text_words.specs.FaultLines.{line, bad_line}
use Rattle.text_words.specs.Hexadecimal.{octets_of_digits}

-- The eight octets of an instruction, as hexadecimal digits.
abbrev pub octets_text : Instr → List ℕ
octets_text i = encode_lower (code_octets (i ∷ []))

-- The lines of these instructions, the first of which is at this place: their lines in the listing, each with the
-- octets of its instruction as a comment.
unfoldable pub octet_lines : List (List ℕ) → ℕ → List Instr → List ℕ
octet_lines listed place [] = []
octet_lines listed place (i ∷ code) = commented (get_or listed place []) (octets_text i) ++ octet_lines listed (place + 1) code

-- The listing of a code with the octets of its instructions.
abbrev pub program_listing : List Instr → List ℕ
program_listing code = octet_lines (listed_lines code) 0 code

-- The comment with the number of instructions of the longest run.
abbrev pub longest_line : ℕ → List ℕ
longest_line most = line (codes "; longest " ++ decimal most)

-- The text is the listing of a code with the octets of its instructions, and then the comment of its longest run.
abbrev pub IsProgramListing : List Instr → List ℕ → Type 0
IsProgramListing code text = (most : ℕ) × IsLongestRun code most × (text ≡ program_listing code ++ longest_line most)

-- The answer to a program is its listing. A later line with words is an error, and ends the run.
abbrev pub list_texts : ProgramTexts
list_texts = record { first = IsProgramListing; later = λ code words text turn. (text ≡ bad_line) × (turn ≡ Ends) }

-- The output for a whole input, and how the run ends.
abbrev pub IsListText : List ℕ → List ℕ → Done → Type 0
IsListText = IsProgramText list_texts

-- The text is the listing of the program of one of these lines, which has one word.
pub record ListsLine (lines : List Line) (text : List ℕ) (code : List Instr) : Type 0 where
  pub before : List Line
  pub here : Line
  pub rest : List Line
  pub split : lines ≡ before ++ here ∷ rest
  pub word : List ℕ
  pub alone : words_of (line_content here) ≡ word ∷ []
  pub octets : List ℕ
  pub spelled : octets_of_digits word ≡ Some octets
  pub read : ReadsAs octets (is_program code)
  pub listed : IsProgramListing code text
