-- The faults that `explain` names are those of `run`.
use Rattle.std.proofs.Common.{◌≡◌, ℕ, ◌+◌, Bool, true, false, List, [], ◌∷◌, ◌++◌, Option, Some, None, option_map, append_assoc, refl, sym, ap, ◌∙◌, subst}
use Rattle.std.specs.Bool.{MatchBool}
use Rattle.std.specs.Option.{MatchOption}
use Rattle.text_io.specs.Lines.{Line, lines_of, line_content}
use Rattle.text_io.specs.Limits.{is_over}
use Rattle.text_io.specs.Printing.{Prints}
use Rattle.text_io.specs.declared.ending.Done.{Done}
use Rattle.text_io.specs.declared.ending.Done.TheVariants.{Whole, Ended}
use Rattle.text_card.specs.CardFaults.{no_card}
use Rattle.cmd_run.proofs.Public.{one-run_text}
use Rattle.cmd_run.specs.RunSide.{run_side}
use Rattle.cmd_run.specs.RunText.{RunSteps, RunWorld, run_rules}
use Rattle.text_words.specs.FaultLines.{too_long}
use Rattle.cmd_explain_script.specs.AsRun.{AnsweredLine, NamesFaultsAt, NamesFaultsOfRun, answers_of, explained_of}
use Rattle.cmd_explain_script.specs.LoadedPrograms.{loaded_programs}
use Rattle.cmd_explain_script.specs.ScriptText.{ClosesScript, ExplainsLine, ScriptWorld, after_answer, before_script, explained, no_card_at_all, no_fault_line, one_line_more, script_rules, too_long_at_all}

-- `run` has a text for the lines, and the faults of this one are its.
record NamesRun (met : ℕ) (world : RunWorld) (lines : List Line) (text : List ℕ) : Type 0 where
  answers : List ℕ
  ended : Done
  runs : Prints run_rules met world lines answers ended
  names : NamesFaultsAt answers text

faulty-names : (faulty : Bool) (met count : ℕ) (run : RunWorld) (text : List ℕ) (done : Done) → run_rules.closes run [] Whole
    → MatchBool faulty ((text ≡ []) × (done ≡ Ended)) ((text ≡ no_fault_line count) × (done ≡ Whole)) → NamesRun met run [] text
faulty-names true met count run text done closes e =
    record { answers = []; ended = Whole; runs = closes; names = record { lines = []; last = []; more = []; answered = refl; explains = e.0 } }
faulty-names false met count run text done closes e =
    record { answers = []; ended = Whole; runs = closes; names = record { lines = []; last = []; more = no_fault_line count; answered = refl; explains = e.0 } }

closes-names : (met : ℕ) (run : RunWorld) (world : ScriptWorld) (text : List ℕ) (done : Done) → ClosesScript run world text done → NamesRun met run [] text
closes-names met None world text done e = record {
  answers = no_card;
  ended = Ended;
  runs = (refl, refl);
  names = record { lines = []; last = no_card; more = no_card_at_all; answered = refl; explains = e.0 };
}
closes-names met (Some card) world text done e = faulty-names world.faulty met world.met (Some card) text done (refl, refl) e

-- A line within the limits.
runs-here : (met : ℕ) (run : RunWorld) (line : Line) (lines : List Line) (answers : List ℕ) (ended : Done) → is_over met line ≡ false
    → ((here : List ℕ) × (more : List ℕ) × (next : Option RunWorld) × (answers ≡ here ++ more) × RunSteps run (line_content line) here next
    × MatchOption next ((more ≡ []) × (ended ≡ Ended)) (λ v. Prints run_rules (met + 1) v lines more ended))
    → Prints run_rules met run (line ∷ lines) answers ended
runs-here met run line lines answers ended over answered = rw over answered

runs-over : (met : ℕ) (run : RunWorld) (line : Line) (lines : List Line) → is_over met line ≡ true → Prints run_rules met run (line ∷ lines) too_long Ended
runs-over met run line lines over = rw over (refl, refl)

abbrev answered_line : ScriptWorld → Line → List ℕ → AnsweredLine
answered_line world line answer = record { programs = loaded_programs world.run; faulty = world.faulty; side = run_side world.run; number = one_line_more world.met; content = line_content line; answer = answer }

-- One line more.
names-more : (one : AnsweredLine) (answers text : List ℕ) → NamesFaultsAt answers text
    → NamesFaultsAt (one.answer ++ answers) (explained one.programs one.faulty one.side one.number one.content one.answer ++ text)
names-more one answers text names = record {
  lines = one ∷ names.lines;
  last = names.last;
  more = names.more;
  answered = ap (λ (xs : List ℕ). one.answer ++ xs) names.answered ∙ sym (append_assoc one.answer (answers_of names.lines) names.last);
  explains = ap (λ (xs : List ℕ). explained one.programs one.faulty one.side one.number one.content one.answer ++ xs) names.explains
      ∙ sym (append_assoc (explained one.programs one.faulty one.side one.number one.content one.answer) (explained_of names.lines) (names.last ++ names.more));
}

nothing-more : NamesFaultsAt [] []
nothing-more = record { lines = []; last = []; more = []; answered = refl; explains = refl }

module _ (met : ℕ) (world : ScriptWorld) (line : Line) (lines : List Line) (text here more : List ℕ) (done : Done) (is : text ≡ here ++ more)
    (within : is_over met line ≡ false)
    (later : (next : ScriptWorld) → Prints script_rules (met + 1) next lines more done → NamesRun (met + 1) next.run lines more) where
  line-names : (answer : List ℕ) (after : Option RunWorld) (next : Option ScriptWorld) → RunSteps world.run (line_content line) answer after
      → here ≡ explained (loaded_programs world.run) world.faulty (run_side world.run) (one_line_more world.met) (line_content line) answer → next ≡ option_map (after_answer world answer) after
      → MatchOption next ((more ≡ []) × (done ≡ Ended)) (λ world'. Prints script_rules (met + 1) world' lines more done)
      → NamesRun met world.run (line ∷ lines) text
  line-names answer None next steps e to rest =
      let End : Option ScriptWorld → Type 0 = λ next. MatchOption next ((more ≡ []) × (done ≡ Ended)) (λ world'. Prints script_rules (met + 1) world' lines more done) in
      let ends = subst End to rest in
      let one = answered_line world line answer in
      let same : here ++ more ≡ explained one.programs one.faulty one.side one.number one.content answer ++ [] = ap (λ (xs : List ℕ). xs ++ more) e ∙ ap (λ (xs : List ℕ). explained one.programs one.faulty one.side one.number one.content answer ++ xs) ends.0 in
      record {
        answers = answer ++ [];
        ended = Ended;
        runs = runs-here met world.run line lines (answer ++ []) Ended within (answer, [], None, refl, steps, (refl, refl));
        names = subst (λ (xs : List ℕ). NamesFaultsAt (answer ++ []) xs) (sym (is ∙ same)) (names-more one [] [] nothing-more);
      }
  line-names answer (Some run) next steps e to rest =
      let End : Option ScriptWorld → Type 0 = λ next. MatchOption next ((more ≡ []) × (done ≡ Ended)) (λ world'. Prints script_rules (met + 1) world' lines more done) in
      let next_names = later (after_answer world answer run) (subst End to rest) in
      let one = answered_line world line answer in
      let same : here ++ more ≡ explained one.programs one.faulty one.side one.number one.content answer ++ more = ap (λ (xs : List ℕ). xs ++ more) e in
      record {
        answers = answer ++ next_names.answers;
        ended = next_names.ended;
        runs = runs-here met world.run line lines (answer ++ next_names.answers) next_names.ended within (answer, next_names.answers, Some run, refl, steps, next_names.runs);
        names = subst (λ (xs : List ℕ). NamesFaultsAt (answer ++ next_names.answers) xs) (sym (is ∙ same)) (names-more one next_names.answers more next_names.names);
      }

over-names : (met : ℕ) (world : ScriptWorld) (line : Line) (lines : List Line) (text : List ℕ) (done : Done) (b : Bool) → is_over met line ≡ b
    → ((next : ScriptWorld) (more : List ℕ) (done : Done) → Prints script_rules (met + 1) next lines more done → NamesRun (met + 1) next.run lines more)
    → MatchBool b ((text ≡ too_long ++ too_long_at_all) × (done ≡ Ended))
    ((here : List ℕ) × (more : List ℕ) × (next : Option ScriptWorld) × (text ≡ here ++ more) × ExplainsLine world (line_content line) here next
    × MatchOption next ((more ≡ []) × (done ≡ Ended)) (λ world'. Prints script_rules (met + 1) world' lines more done))
    → NamesRun met world.run (line ∷ lines) text
over-names met world line lines text done true over later is = record {
  answers = too_long;
  ended = Ended;
  runs = runs-over met world.run line lines over;
  names = record { lines = []; last = too_long; more = too_long_at_all; answered = refl; explains = is.0 };
}
over-names met world line lines text done false over later (here, more, next, is, (answer, after, steps, e, to), rest) =
    line-names met world line lines text here more done is over (λ next prints. later next more done prints) answer after next steps e to rest

names-run : (lines : List Line) (met : ℕ) (world : ScriptWorld) (text : List ℕ) (done : Done) → Prints script_rules met world lines text done
    → NamesRun met world.run lines text
names-run [] met world text done closes = closes-names met world.run world text done closes
names-run (line ∷ lines) met world text done prints =
    over-names met world line lines text done (is_over met line) refl (λ next more done p. names-run lines (met + 1) next more done p) prints

pub names_faults_of_run : NamesFaultsOfRun
names_faults_of_run octets answers text ended done runs explains =
    let found = names-run (lines_of octets) 0 before_script text done explains in
    let same = one-run_text octets found.answers answers found.ended ended found.runs runs in
    subst (λ (xs : List ℕ). NamesFaultsAt xs text) same.0 found.names
