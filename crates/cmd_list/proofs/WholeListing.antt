-- The output of a whole run of `list`.
use Rattle.std.proofs.Common.{◌≡◌, ℕ, ◌+◌, Bool, true, false, List, [], ◌∷◌, ◌++◌, Option, Some, None, refl, sym, ap, ◌∙◌, subst, append-nil}
use Rattle.std.specs.Bool.{MatchBool}
use Rattle.std.specs.Option.{MatchOption}
use Rattle.bpf_asm.specs.Meaning.{IsMeaning}
use Rattle.bpf_code.specs.declared.instr.Instr.{Instr}
use Rattle.cmd_list.proofs.ListMeaning.{listing-checks, listing-means}
use Rattle.cmd_list.specs.ListedProgram.{IsListText, IsProgramListing, ListsLine, list_texts}
use Rattle.cmd_programs.specs.AfterProgram.{IsProgramAnswer, ProgramLine, ProgramSteps, ProgramWorld, ReadsProgram, program_rules, after_turn}
use Rattle.cmd_programs.specs.Check.{PrintsSource, accepted_text}
use Rattle.text_io.specs.Answering.{EndsBy}
use Rattle.text_io.specs.Lines.{Line, lines_of, line_content}
use Rattle.text_io.specs.Limits.{is_over}
use Rattle.text_io.specs.Printing.{Prints, Rules}
use Rattle.text_io.specs.Words.{is_silent, words_of}
use Rattle.text_io.specs.declared.ending.Done.TheVariants.{Whole, Ended}
use Rattle.text_io.specs.declared.machine.Turn.{Turn}
use Rattle.text_io.specs.declared.machine.Turn.TheVariants.{GoesOn, Ends}
use Rattle.cmd_programs.specs.Program.{ProgramReading, ReadsAs, is_program, is_refused}
use Rattle.text_words.specs.FaultLines.{bad_hex, bad_line}
use Rattle.text_words.specs.Hexadecimal.{octets_of_digits}

abbrev rules : Rules ProgramWorld
rules = program_rules list_texts

-- The text of the rest of a run, from the world after a line.
abbrev Rest : ℕ → List Line → List ℕ → Option ProgramWorld → Type 0
Rest met lines more next = MatchOption next ((more ≡ []) × (Whole ≡ Ended)) (λ world. Prints rules (met + 1) world lines more Whole)

-- A line that ends the run doesn't end a whole one.
ends_never : (met : ℕ) (lines : List Line) (more : List ℕ) (next : Option ProgramWorld) → next ≡ None → Rest met lines more next → ⊥
ends_never met lines more next none rest =
    let ended = subst (λ (o : Option ProgramWorld). Rest met lines more o) none rest in
    let no : Whole ≡ Ended = ended.1 in cc

goes_as : (met : ℕ) (lines : List Line) (more : List ℕ) (next : Option ProgramWorld) (world : ProgramWorld) → next ≡ Some world → Rest met lines more next → Prints rules (met + 1) world lines more Whole
goes_as met lines more next world same rest = subst (λ (o : Option ProgramWorld). Rest met lines more o) same rest

-- The step of a line that is not over the limits, in a whole run.
abbrev Stepped : ℕ → ProgramWorld → Line → List Line → List ℕ → Type 0
Stepped met world line lines text =
    (here : List ℕ) × (more : List ℕ) × (next : Option ProgramWorld) × (text ≡ here ++ more) × ProgramSteps list_texts world (line_content line) here next × Rest met lines more next

stepped : (met : ℕ) (world : ProgramWorld) (line : Line) (lines : List Line) (text : List ℕ) (over : Bool)
    → MatchBool over ((text ≡ rules.too_long) × (Whole ≡ Ended)) (Stepped met world line lines text) → Stepped met world line lines text
stepped met world line lines text true h = let no : Whole ≡ Ended = h.1 in absurd cc
stepped met world line lines text false h = h

nothing_more : (here more text : List ℕ) → text ≡ here ++ more → here ≡ [] → text ≡ more
nothing_more here more text e none = e ∙ ap (λ (ts : List ℕ). ts ++ more) none

silent_step : (met : ℕ) (code : List Instr) (line : Line) (lines : List Line) (text : List ℕ) (silent : Bool) (here more : List ℕ) (turn : Turn) → text ≡ here ++ more
    → MatchBool silent ((here ≡ []) × (turn ≡ GoesOn)) ((here ≡ bad_line) × (turn ≡ Ends)) → Rest met lines more (after_turn code turn)
    → (Prints rules (met + 1) (Some code) lines more Whole → more ≡ []) → text ≡ []
silent_step met code line lines text true here more turn e quiet rest later =
    nothing_more here more text e quiet.0 ∙ later (goes_as met lines more (after_turn code turn) (Some code) (ap (after_turn code) quiet.1) rest)
silent_step met code line lines text false here more turn e ends rest later =
    absurd (ends_never met lines more (after_turn code turn) (ap (after_turn code) ends.1) rest)

-- After the program line only silent lines follow.
silent_after : (met : ℕ) (code : List Instr) (lines : List Line) (text : List ℕ) → Prints rules met (Some code) lines text Whole → text ≡ []
silent_after met code [] text h = h.0
silent_after met code (line ∷ lines) text h =
    let step = stepped met (Some code) line lines text (is_over met line) h in
    let turned = step.4 in
    silent_step met code line lines text (is_silent (words_of (line_content line))) step.0 step.1 turned.0 step.3 turned.1
    (subst (λ (next : Option ProgramWorld). Rest met lines step.1 next) turned.2 step.5) (silent_after (met + 1) code lines step.1)

listed_same : (code : List Instr) (text other : List ℕ) → other ≡ text → IsProgramListing code text → IsProgramListing code other
listed_same code text other same listed = subst (IsProgramListing code) (sym same) listed

-- The text is the listing of the program of one of these lines.
abbrev Lists : List Line → List ℕ → Type 0
Lists lines text = (code : List Instr) × ListsLine lines text code

module _ (met : ℕ) (line : Line) (lines : List Line) (text here more : List ℕ) (next : Option ProgramWorld) (added : text ≡ here ++ more) (rest : Rest met lines more next) where
  reading_listed : (word octets : List ℕ) (reading : ProgramReading) → words_of (line_content line) ≡ word ∷ [] → octets_of_digits word ≡ Some octets → ReadsAs octets reading
      → IsProgramAnswer list_texts reading here next → Lists (line ∷ lines) text
  reading_listed word octets (is_program code) alone spelled reads answer =
      let none = silent_after (met + 1) code lines more (goes_as met lines more next (Some code) answer.1 rest) in (
        code,
        record {
          before = [];
          here = line;
          rest = lines;
          split = refl;
          word = word;
          alone = alone;
          octets = octets;
          spelled = spelled;
          read = reads;
          listed = listed_same code here text (added ∙ ap (λ (ts : List ℕ). here ++ ts) none ∙ append-nil here) answer.0;
        },
      )
  reading_listed word octets (is_refused fault) alone spelled reads answer = absurd (ends_never met lines more next answer.1 rest)

  word_listed : (word : List ℕ) (found : Option (List ℕ)) → words_of (line_content line) ≡ word ∷ [] → octets_of_digits word ≡ found
      → MatchOption found (EndsBy bad_hex here next) (λ octets. ReadsProgram list_texts octets here next) → Lists (line ∷ lines) text
  word_listed word None alone spelled ends = absurd (ends_never met lines more next ends.1 rest)
  word_listed word (Some octets) alone spelled lists = reading_listed word octets lists.0 alone spelled lists.1 lists.2

  words_listed : (words : List (List ℕ)) → words_of (line_content line) ≡ words → ProgramLine list_texts words here next → Lists (line ∷ lines) text
  words_listed [] alone ends = absurd (ends_never met lines more next ends.1 rest)
  words_listed (word ∷ []) alone lists = word_listed word (octets_of_digits word) alone refl lists
  words_listed (word ∷ other ∷ words) alone ends = absurd (ends_never met lines more next ends.1 rest)

  line_listed : (silent : Bool) → MatchBool silent ((here ≡ []) × (next ≡ Some None)) (ProgramLine list_texts (words_of (line_content line)) here next)
      → (Prints rules (met + 1) None lines more Whole → Lists lines more) → Lists (line ∷ lines) text
  line_listed true quiet later =
      let found = later (goes_as met lines more next None quiet.1 rest) in (
        found.0,
        record {
          before = line ∷ found.1.before;
          here = found.1.here;
          rest = found.1.rest;
          split = ap (λ (ls : List Line). line ∷ ls) found.1.split;
          word = found.1.word;
          alone = found.1.alone;
          octets = found.1.octets;
          spelled = found.1.spelled;
          read = found.1.read;
          listed = listed_same found.0 more text (nothing_more here more text added quiet.0) found.1.listed;
        },
      )
  line_listed false lists later = words_listed (words_of (line_content line)) refl lists

-- A whole run answers the listing of a program.
lists_whole : (met : ℕ) (lines : List Line) (text : List ℕ) → Prints rules met None lines text Whole → Lists lines text
lists_whole met [] text h = let no : Whole ≡ Ended = h.1 in absurd cc
lists_whole met (line ∷ lines) text h =
    let step = stepped met None line lines text (is_over met line) h in
    line_listed met line lines text step.0 step.1 step.2 step.3 step.5 (is_silent (words_of (line_content line))) step.4 (lists_whole (met + 1) lines step.1)

-- It is a source of that program, which `upc check` answers.
pub listed_whole : (input text : List ℕ) → IsListText input text Whole
    → (code : List Instr) × ListsLine (lines_of input) text code × IsMeaning text code × PrintsSource text (accepted_text code) Whole
listed_whole input text h =
    let found = lists_whole 0 (lines_of input) text h in
    let line = found.1 in
    let means = listing-means line.word line.octets found.0 text line.spelled line.read line.listed in
    let checks = listing-checks line.word line.octets found.0 text line.spelled line.read line.listed in
    (found.0, line, means, checks)
