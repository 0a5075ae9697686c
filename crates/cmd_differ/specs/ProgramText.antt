-- The program in a text, as `upc eval` reads it: the one line that has words is one hexadecimal word.
use Rattle.std.specs.Prelude.{◌≡◌, ℕ, if◌then◌else◌, List, [], ◌∷◌, MatchOption}
use Rattle.bpf_asm.specs.SourceLines.{source_lines}
use Rattle.text_io.specs.Words.{is_silent, words_of}
use Rattle.cmd_programs.specs.Program.{ProgramReading, ReadsAs, is_refused}
use Rattle.text_words.specs.FaultLines.{bad_hex, bad_line, no_program}
use Rattle.text_words.specs.Hexadecimal.{octets_of_digits}

-- The words of each line that has some and is no comment.
abbrev pub spoken_lines : List (List ℕ) → List (List (List ℕ))
spoken_lines [] = []
spoken_lines (content ∷ more) = if is_silent (words_of content) then spoken_lines more else words_of content ∷ spoken_lines more

-- The program of a word, or the fault of the word.
abbrev pub ReadsProgramWord : List ℕ → ProgramReading → Type 0
ReadsProgramWord word reading = MatchOption (octets_of_digits word) (reading ≡ is_refused bad_hex) (λ octets. ReadsAs octets reading)

-- The program of lines with words, or their fault: there is one line, with one word.
abbrev pub ReadsSpoken : List (List (List ℕ)) → ProgramReading → Type 0
ReadsSpoken [] reading = reading ≡ is_refused no_program
ReadsSpoken ((word ∷ []) ∷ []) reading = ReadsProgramWord word reading
ReadsSpoken (words ∷ more) reading = reading ≡ is_refused bad_line

-- The program in a text, or its fault.
abbrev pub ReadsProgramText : List ℕ → ProgramReading → Type 0
ReadsProgramText text = ReadsSpoken (spoken_lines (source_lines text))
