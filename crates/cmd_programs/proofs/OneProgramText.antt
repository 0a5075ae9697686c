-- An input has one text of a subcommand for one program, if each code and each later line have one.
use Rattle.std.proofs.Common.{◌≡◌, ℕ, ◌==◌, Bool, true, false, List, [], ◌∷◌, Option, Some, None, length, ap, sym, ◌∙◌, subst}
use Rattle.std.specs.Bool.{MatchBool}
use Rattle.std.specs.Option.{MatchOption}
use Rattle.bpf_code.specs.declared.instr.Instr.{Instr}
use Rattle.cmd_programs.specs.AfterProgram.{AnswersAlways, IsProgramAnswer, IsProgramText, ProgramCloses, ProgramLine, ProgramSteps, ProgramTexts, ProgramWorld, ReadsProgram, program_rules, after_turn}
use Rattle.cmd_programs.specs.CellLines.{CellLine, OctetsLine, cell_texts}
use Rattle.cmd_programs.specs.Program.{ProgramReading, is_program, is_refused}
use Rattle.cmd_programs.specs.inner.ProgramLaws.{program-total}
use Rattle.cmd_programs.specs.inner.ReadingLaws.{reads-once}
use Rattle.text_io.proofs.Public.{one-text, some-text}
use Rattle.text_io.specs.Answering.{EndsBy}
use Rattle.text_io.specs.Lines.{lines_of}
use Rattle.text_io.specs.Printing.{IsFunctional}
use Rattle.text_io.specs.Words.{words_of, is_silent}
use Rattle.text_io.specs.declared.ending.Done.{Done}
use Rattle.text_io.specs.declared.machine.Turn.{Turn}
use Rattle.text_io.specs.declared.machine.Turn.TheVariants.{GoesOn}
use Rattle.text_words.specs.FaultLines.{bad_hex, wrong_length}
use Rattle.text_words.specs.Hexadecimal.{octets_of_digits, cell_of_octets}

-- A code and each later line have at most one answer.
pub record AnswersOnce (texts : ProgramTexts) : Type 0 where
  pub first : (code : List Instr) (text text' : List ℕ) → texts.first code text → texts.first code text' → text ≡ text'
  pub later : (code : List Instr) (words : List (List ℕ)) (text text' : List ℕ) (turn turn' : Turn)
      → texts.later code words text turn → texts.later code words text' turn' → (text ≡ text') × (turn ≡ turn')

module _ (texts : ProgramTexts) (once : AnswersOnce texts) (text text' : List ℕ) where
  -- Equal texts and equal worlds.
  abbrev Same : Option ProgramWorld → Option ProgramWorld → Type 0
  Same next next' = (text ≡ text') × (next ≡ next')

  ends-same : (fault : List ℕ) (next next' : Option ProgramWorld) → EndsBy fault text next → EndsBy fault text' next' → Same next next'
  ends-same fault next next' p q = (p.0 ∙ sym q.0, p.1 ∙ sym q.1)

  answer-same : (reading : ProgramReading) (next next' : Option ProgramWorld) → IsProgramAnswer texts reading text next → IsProgramAnswer texts reading text' next' → Same next next'
  answer-same (is_program code) next next' p q = (once.first code text text' p.0 q.0, p.1 ∙ sym q.1)
  answer-same (is_refused fault) next next' p q = ends-same fault next next' p q

  word-same : (octets : Option (List ℕ)) (next next' : Option ProgramWorld)
      → MatchOption octets (EndsBy bad_hex text next) (λ found. ReadsProgram texts found text next)
      → MatchOption octets (EndsBy bad_hex text' next') (λ found. ReadsProgram texts found text' next') → Same next next'
  word-same None next next' p q = (p.0 ∙ sym q.0, p.1 ∙ sym q.1)
  word-same (Some octets) next next' p q =
      let P : ProgramReading → Type 0 = λ reading. IsProgramAnswer texts reading text' next' in
      answer-same p.0 next next' p.2 (subst P (reads-once octets q.0 p.0 q.1 p.1) q.2)

  line-same : (words : List (List ℕ)) (next next' : Option ProgramWorld) → ProgramLine texts words text next → ProgramLine texts words text' next' → Same next next'
  line-same [] next next' p q = (p.0 ∙ sym q.0, p.1 ∙ sym q.1)
  line-same (word ∷ []) next next' p q = word-same (octets_of_digits word) next next' p q
  line-same (word ∷ other ∷ words) next next' p q = (p.0 ∙ sym q.0, p.1 ∙ sym q.1)

  first-same : (words : List (List ℕ)) (next next' : Option ProgramWorld) (silent : Bool)
      → MatchBool silent ((text ≡ []) × (next ≡ Some None)) (ProgramLine texts words text next)
      → MatchBool silent ((text' ≡ []) × (next' ≡ Some None)) (ProgramLine texts words text' next') → Same next next'
  first-same words next next' true p q = (p.0 ∙ sym q.0, p.1 ∙ sym q.1)
  first-same words next next' false p q = line-same words next next' p q

  later-same : (code : List Instr) (words : List (List ℕ)) (turn turn' : Turn) (silent : Bool)
      → MatchBool silent ((text ≡ []) × (turn ≡ GoesOn)) (texts.later code words text turn)
      → MatchBool silent ((text' ≡ []) × (turn' ≡ GoesOn)) (texts.later code words text' turn') → (text ≡ text') × (turn ≡ turn')
  later-same code words turn turn' true p q = (p.0 ∙ sym q.0, p.1 ∙ sym q.1)
  later-same code words turn turn' false p q = once.later code words text text' turn turn' p q

  steps-same : (world : ProgramWorld) (content : List ℕ) (next next' : Option ProgramWorld) → ProgramSteps texts world content text next → ProgramSteps texts world content text' next' → Same next next'
  steps-same None content next next' p q = first-same (words_of content) next next' (is_silent (words_of content)) p q
  steps-same (Some code) content next next' p q =
      let same = later-same code (words_of content) p.0 q.0 (is_silent (words_of content)) p.1 q.1 in
      (same.0, p.2 ∙ ap (after_turn code) same.1 ∙ sym q.2)

closes-same : (world : ProgramWorld) (text text' : List ℕ) (done done' : Done) → ProgramCloses world text done → ProgramCloses world text' done' → (text ≡ text') × (done ≡ done')
closes-same None text text' done done' p q = (p.0 ∙ sym q.0, p.1 ∙ sym q.1)
closes-same (Some code) text text' done done' p q = (p.0 ∙ sym q.0, p.1 ∙ sym q.1)

program-functional : (texts : ProgramTexts) → AnswersOnce texts → IsFunctional (program_rules texts)
program-functional texts once = record {
  step = λ world content text text' next next' p q. steps-same texts once text text' world content next next' p q;
  close = closes-same;
}

pub one-program_text : (texts : ProgramTexts) → AnswersOnce texts → (octets one other : List ℕ) (ends other_ends : Done)
    → IsProgramText texts octets one ends → IsProgramText texts octets other other_ends → (one ≡ other) × (ends ≡ other_ends)
one-program_text texts once octets = one-text (program_rules texts) (program-functional texts once) (lines_of octets) 0 None

-- Every input has a text, if each code and each later line have an answer.
pub some-program_text : (texts : ProgramTexts) → AnswersAlways texts → (octets : List ℕ) → (text : List ℕ) × (done : Done) × IsProgramText texts octets text done
some-program_text texts total octets = some-text (program_rules texts) (program-total texts total) (lines_of octets) 0 None tt

-- ---- cells

-- A cell has at most one text.
abbrev pub IsOnce : (List ℕ → List ℕ → Type 0) → Type 0
IsOnce Prints = (octets text text' : List ℕ) → Prints octets text → Prints octets text' → text ≡ text'

module _ (Prints : List ℕ → List ℕ → Type 0) (once : IsOnce Prints) (text text' : List ℕ) where
  octets-same : (octets : List ℕ) (whole : Bool) → MatchBool whole (Prints octets text) (text ≡ wrong_length (length octets))
      → MatchBool whole (Prints octets text') (text' ≡ wrong_length (length octets)) → text ≡ text'
  octets-same octets true p q = once octets text text' p q
  octets-same octets false p q = p ∙ sym q

  digits-same : (octets : Option (List ℕ)) → MatchOption octets (text ≡ bad_hex) (λ found. OctetsLine Prints (cell_of_octets found) text)
      → MatchOption octets (text' ≡ bad_hex) (λ found. OctetsLine Prints (cell_of_octets found) text') → text ≡ text'
  digits-same None p q = p ∙ sym q
  digits-same (Some octets) p q = octets-same (cell_of_octets octets) (length (cell_of_octets octets) == 52) p q

  cell-same : (words : List (List ℕ)) → CellLine Prints words text → CellLine Prints words text' → text ≡ text'
  cell-same [] p q = p ∙ sym q
  cell-same (word ∷ []) p q = digits-same (octets_of_digits word) p q
  cell-same (word ∷ other ∷ words) p q = p ∙ sym q

pub cells-once : (Prints : List Instr → List ℕ → List ℕ → Type 0) → ((code : List Instr) → IsOnce (Prints code)) → AnswersOnce (cell_texts Prints)
cells-once Prints once = record {
  first = λ code text text' p q. p ∙ sym q;
  later = λ code words text text' turn turn' p q. (cell-same (Prints code) (once code) text text' words p.0 q.0, p.1 ∙ sym q.1);
}
