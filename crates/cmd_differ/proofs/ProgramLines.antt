-- A text is a program, or has a fault, in one way.
use Rattle.std.proofs.Common.{◌≡◌, ℕ, List, [], ◌∷◌, Option, Some, None, MatchOption, refl, sym, ◌∙◌}
use Rattle.cmd_programs.specs.Program.{ProgramReading, ReadsAs, is_refused}
use Rattle.cmd_programs.proofs.Public.{reads-as, reads-once}
use Rattle.text_words.specs.FaultLines.{bad_hex, bad_line, no_program}
use Rattle.text_words.specs.Hexadecimal.{octets_of_digits}
use Rattle.cmd_differ.specs.ProgramText.{ReadsSpoken}

-- The reading of the octets of a word, if it has any.
abbrev ReadsDigits : Option (List ℕ) → ProgramReading → Type 0
ReadsDigits digits reading = MatchOption digits (reading ≡ is_refused bad_hex) (λ octets. ReadsAs octets reading)

digits_read : (digits : Option (List ℕ)) → (reading : ProgramReading) × ReadsDigits digits reading
digits_read None = (is_refused bad_hex, refl)
digits_read (Some octets) = reads-as octets

digits_once : (digits : Option (List ℕ)) (one other : ProgramReading) → ReadsDigits digits one → ReadsDigits digits other → one ≡ other
digits_once None one other e f = e ∙ sym f
digits_once (Some octets) one other e f = reads-once octets one other e f

pub spoken_read : (lines : List (List (List ℕ))) → (reading : ProgramReading) × ReadsSpoken lines reading
spoken_read [] = (is_refused no_program, refl)
spoken_read ([] ∷ more) = (is_refused bad_line, refl)
spoken_read ((word ∷ []) ∷ []) = digits_read (octets_of_digits word)
spoken_read ((word ∷ []) ∷ line ∷ more) = (is_refused bad_line, refl)
spoken_read ((word ∷ other ∷ words) ∷ more) = (is_refused bad_line, refl)

pub spoken_once : (lines : List (List (List ℕ))) (one other : ProgramReading) → ReadsSpoken lines one → ReadsSpoken lines other → one ≡ other
spoken_once [] one other e f = e ∙ sym f
spoken_once ([] ∷ more) one other e f = e ∙ sym f
spoken_once ((word ∷ []) ∷ []) one other e f = digits_once (octets_of_digits word) one other e f
spoken_once ((word ∷ []) ∷ line ∷ more) one other e f = e ∙ sym f
spoken_once ((word ∷ next ∷ words) ∷ more) one other e f = e ∙ sym f

-- Two lines with words are no program.
pub two_lines : (words : List (List ℕ)) (next : List (List ℕ)) (more : List (List (List ℕ))) → ReadsSpoken (words ∷ next ∷ more) (is_refused bad_line)
two_lines [] next more = refl
two_lines (word ∷ []) next more = refl
two_lines (word ∷ other ∷ words) next more = refl
