-- The rules of a subcommand for one program are total: in every sound world each line has an answer and leads to a sound
-- world. These laws are in `specs/` because the `Machine` implementation cites them.
use Rattle.std.proofs.Common.{◌≡◌, ℕ, Bool, true, false, List, [], ◌∷◌, Option, Some, None, refl, subst}
use Rattle.std.specs.Bool.{MatchBool}
use Rattle.std.specs.Option.{MatchOption}
use Rattle.bpf_code.specs.declared.instr.Instr.{Instr}
use Rattle.bpf_verify.specs.Accepted.{IsAccepted}
use Rattle.cmd_programs.specs.AfterProgram.{AnswersAlways, IsProgramAnswer, IsSoundWorld, ProgramCloses, ProgramLine, ProgramSteps, ProgramTexts, ProgramWorld, ReadsProgram, program_rules, after_turn}
use Rattle.cmd_programs.specs.Program.{ProgramReading, is_program, is_refused, ReadsAs}
use Rattle.cmd_programs.specs.inner.ReadingLaws.{read-accepted, reads-as}
use Rattle.text_io.proofs.Public.{silent-or, silent-sound}
use Rattle.text_io.specs.Answering.{EndsBy}
use Rattle.text_io.specs.Printing.{IsTotal}
use Rattle.text_io.specs.Words.{words_of, is_silent}
use Rattle.text_io.specs.declared.ending.Done.{Done}
use Rattle.text_io.specs.declared.ending.Done.TheVariants.{Whole, Ended}
use Rattle.text_io.specs.declared.machine.Turn.{Turn}
use Rattle.text_io.specs.declared.machine.Turn.TheVariants.{GoesOn, Ends}
use Rattle.text_words.specs.FaultLines.{bad_line, bad_hex, no_program}
use Rattle.text_words.specs.Hexadecimal.{octets_of_digits}

module _ (texts : ProgramTexts) (total : AnswersAlways texts) where
  prints-reading : (octets : List ℕ) (reading : ProgramReading) → ReadsAs octets reading → (text : List ℕ) × (next : Option ProgramWorld) × IsProgramAnswer texts reading text next
  prints-reading octets (is_program code) reads =
      let printed = total.first code (read-accepted octets code reads) in (printed.0, Some (Some code), (printed.1, refl))
  prints-reading octets (is_refused fault) reads = (fault, None, (refl, refl))

  reads-program : (octets : List ℕ) → (text : List ℕ) × (next : Option ProgramWorld) × ReadsProgram texts octets text next
  reads-program octets =
      let read = reads-as octets in
      let printed = prints-reading octets read.0 read.1 in
      (printed.0, printed.1, (read.0, read.1, printed.2))

  reads-word : (octets : Option (List ℕ)) → (text : List ℕ) × (next : Option ProgramWorld) × MatchOption octets (EndsBy bad_hex text next) (λ found. ReadsProgram texts found text next)
  reads-word None = (bad_hex, None, (refl, refl))
  reads-word (Some octets) = reads-program octets

  program-line : (words : List (List ℕ)) → (text : List ℕ) × (next : Option ProgramWorld) × ProgramLine texts words text next
  program-line [] = (bad_line, None, (refl, refl))
  program-line (word ∷ []) = reads-word (octets_of_digits word)
  program-line (word ∷ other ∷ words) = (bad_line, None, (refl, refl))

  later-or : (code : List Instr) (words : List (List ℕ)) (silent : Bool) → IsAccepted code
      → (text : List ℕ) × (turn : Turn) × MatchBool silent ((text ≡ []) × (turn ≡ GoesOn)) (texts.later code words text turn)
  later-or code words true sound = ([], GoesOn, (refl, refl))
  later-or code words false sound = total.later code sound words

  can-step : (world : ProgramWorld) (content : List ℕ) → IsSoundWorld world → (text : List ℕ) × (next : Option ProgramWorld) × ProgramSteps texts world content text next
  can-step None content sound = silent-or (ProgramLine texts (words_of content)) None (is_silent (words_of content)) (program-line (words_of content))
  can-step (Some code) content sound =
      let printed = later-or code (words_of content) (is_silent (words_of content)) sound in
      (printed.0, after_turn code printed.1, (printed.1, printed.2, refl))

can-close : (world : ProgramWorld) → IsSoundWorld world → (text : List ℕ) × (done : Done) × ProgramCloses world text done
can-close None sound = (no_program, Ended, (refl, refl))
can-close (Some code) sound = ([], Whole, (refl, refl))

module _ (texts : ProgramTexts) (text : List ℕ) (after : ProgramWorld) where
  reading-sound : (octets : List ℕ) (reading : ProgramReading) → ReadsAs octets reading → IsProgramAnswer texts reading text (Some after) → IsSoundWorld after
  reading-sound octets (is_program code) reads printed =
      let same : Some code ≡ after = let e = printed.1 in cc in subst IsSoundWorld same (read-accepted octets code reads)
  reading-sound octets (is_refused fault) reads ends = let no : Some after ≡ None = ends.1 in absurd cc

  word-sound : (octets : Option (List ℕ)) → MatchOption octets (EndsBy bad_hex text (Some after)) (λ found. ReadsProgram texts found text (Some after)) → IsSoundWorld after
  word-sound None ends = let no : Some after ≡ None = ends.1 in absurd cc
  word-sound (Some octets) reads = reading-sound octets reads.0 reads.1 reads.2

  line-sound : (words : List (List ℕ)) → ProgramLine texts words text (Some after) → IsSoundWorld after
  line-sound [] ends = let no : Some after ≡ None = ends.1 in absurd cc
  line-sound (word ∷ []) reads = word-sound (octets_of_digits word) reads
  line-sound (word ∷ other ∷ words) ends = let no : Some after ≡ None = ends.1 in absurd cc

  later-sound : (code : List Instr) (turn : Turn) → IsAccepted code → Some after ≡ after_turn code turn → IsSoundWorld after
  later-sound code GoesOn sound goes = let same : Some code ≡ after = cc in subst IsSoundWorld same sound
  later-sound code Ends sound ends = absurd cc

  keeps-sound : (world : ProgramWorld) (content : List ℕ) → IsSoundWorld world → ProgramSteps texts world content text (Some after) → IsSoundWorld after
  keeps-sound None content sound steps =
      silent-sound IsSoundWorld (ProgramLine texts (words_of content) text (Some after)) None after text (is_silent (words_of content)) sound
      (line-sound (words_of content)) steps
  keeps-sound (Some code) content sound steps = later-sound code steps.0 sound steps.2

-- The rules are total if the texts answer each code and each later line.
pub program-total : (texts : ProgramTexts) → AnswersAlways texts → IsTotal (program_rules texts)
program-total texts total = record {
  keeps = λ world content text after sound steps. keeps-sound texts text after world content sound steps;
  step = can-step texts total;
  close = can-close;
}
