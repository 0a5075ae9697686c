-- How a line changes the machine of `explain`.
use Rattle.std.proofs.Common.{◌≡◌, ℕ, ◌||◌, Bool, List, [], ◌++◌, Option, Some, None, refl, sym, ap, ◌∙◌, subst}
use Rattle.text_io.specs.Answering.{Answers, TurnsFrom}
use Rattle.text_io.specs.declared.machine.Turn.{Turn}
use Rattle.text_io.specs.declared.machine.Turn.TheVariants.{GoesOn, Ends}
use Rattle.upc_cell.specs.declared.side.Side.{Side}
use Rattle.cmd_run.specs.RunSide.{run_side}
use Rattle.cmd_run.specs.RunText.{RunWorld, run_rules}
use Rattle.cmd_explain_script.proofs.KeptPrograms.{kept_after}
use Rattle.cmd_explain_script.proofs.LoadedCodes.{codes_follow}
use Rattle.cmd_explain_script.specs.LoadedPrograms.{loaded_codes, loaded_programs}
use Rattle.cmd_explain_script.specs.ScriptFaults.{is_fault_line}
use Rattle.cmd_explain_script.specs.ScriptText.{ScriptWorld, after_answer, explained, one_line_more, script_rules}
use Rattle.cmd_explain_script.specs.declared.contract_numbers.NamesNoContract.{NamesNoContract}
use Rattle.cmd_explain_script.specs.inner.ProgramsKept.{ProgramsAfter, loaded_digits}
use Rattle.cmd_explain_script.specs.inner.ScriptLaws.{ShowsScript}

module _ (Shows Shows' : RunWorld → Type 0) (met : ℕ) (faulty : Bool) (programs programs' : List NamesNoContract) (line answer old new : List ℕ) (side : Option Side)
    (is_side : (world : RunWorld) → Shows world → side ≡ run_side world) (kept : ProgramsAfter (loaded_digits side line answer) programs programs') where
  abbrev text : List ℕ
  text = explained programs faulty side (one_line_more met) line answer

  same_text : (world : ScriptWorld) → ShowsScript Shows met faulty programs world
      → text ≡ explained (loaded_programs world.run) world.faulty (run_side world.run) (one_line_more world.met) line answer
  same_text world shown =
      ap (λ (ps : List NamesNoContract). explained ps faulty side (one_line_more met) line answer) shown.keeps
      ∙ ap (λ (s : Option Side). explained (loaded_programs world.run) faulty s (one_line_more met) line answer) (is_side world.run shown.runs)
      ∙ ap (λ (n : ℕ). explained (loaded_programs world.run) faulty (run_side world.run) (one_line_more n) line answer) (sym shown.counts)
      ∙ ap (λ (b : Bool). explained (loaded_programs world.run) b (run_side world.run) (one_line_more world.met) line answer) (sym shown.blames)

  kept_on : (world : ScriptWorld) → ShowsScript Shows met faulty programs world → ProgramsAfter (loaded_digits (run_side world.run) line answer) programs programs'
  kept_on world shown = subst (λ (s : Option Side). ProgramsAfter (loaded_digits s line answer) programs programs') (is_side world.run shown.runs) kept

  from : (turn : Turn) (world : ScriptWorld) → ShowsScript Shows met faulty programs world → TurnsFrom run_rules world.run line answer turn Shows'
      → TurnsFrom script_rules world line text turn (ShowsScript Shows' (one_line_more met) (faulty || is_fault_line answer) programs')
  from Ends world shown steps = (answer, None, steps, same_text world shown, refl)
  from GoesOn world shown goes = (
    after_answer world answer goes.0,
    record {
      runs = goes.1;
      counts = ap one_line_more shown.counts;
      blames = ap (λ (b : Bool). b || is_fault_line answer) shown.blames;
      keeps =
          kept_after (loaded_digits (run_side world.run) line answer) (loaded_codes world.run) (loaded_codes goes.0) programs programs' shown.keeps
          (codes_follow world.run goes.0 line answer goes.2) (kept_on world shown);
    },
    (answer, Some goes.0, goes.2, same_text world shown, refl),
  )

  explained-here : (turn : Turn) → Answers run_rules Shows line turn Shows' [] answer → new ≡ old ++ text
      → Answers script_rules (ShowsScript Shows met faulty programs) line turn (ShowsScript Shows' (one_line_more met) (faulty || is_fault_line answer) programs') old new
  explained-here turn answers added =
      (text, added, λ world sound shown. from turn world shown (subst (λ (here : List ℕ). TurnsFrom run_rules world.run line here turn Shows') (sym answers.1) (answers.2 world.run sound shown.runs)))

-- The text for a line follows from the answer of `run`.
pub turn-explained : (Shows Shows' : RunWorld → Type 0) (met : ℕ) (faulty : Bool) (programs programs' listed : List NamesNoContract) (line answer old new : List ℕ) (side : Option Side)
    (turn : Turn) (start looked read loading : List ℕ) (number : ℕ) (faulty' : Bool)
    → ((world : RunWorld) → Shows world → side ≡ run_side world) → start ≡ [] → looked ≡ answer → read ≡ answer → loading ≡ answer → listed ≡ programs
    → number ≡ one_line_more met → faulty' ≡ (faulty || is_fault_line looked) → Answers run_rules Shows line turn Shows' start answer
    → new ≡ old ++ explained listed faulty side number line read → ProgramsAfter (loaded_digits side line loading) programs programs'
    → Answers script_rules (ShowsScript Shows met faulty programs) line turn (ShowsScript Shows' number faulty' programs') old new
turn-explained Shows Shows' met faulty programs programs' listed line answer old new side turn start looked read loading number faulty' is_side empty same same' same'' list counted blamed answers added
    keeps =
    let Blamed : Bool → Type 0 = λ b. Answers script_rules (ShowsScript Shows met faulty programs) line turn (ShowsScript Shows' number b programs') old new in
    let Counted : ℕ → Type 0 = λ n. Answers script_rules (ShowsScript Shows met faulty programs) line turn (ShowsScript Shows' n (faulty || is_fault_line answer) programs') old new in
    let first = subst (λ (xs : List ℕ). Answers run_rules Shows line turn Shows' xs answer) empty answers in
    let kept = subst (λ (xs : List ℕ). ProgramsAfter (loaded_digits side line xs) programs programs') same'' keeps in
    let now : new ≡ old ++ explained programs faulty side (one_line_more met) line answer =
    added ∙ ap (λ (ps : List NamesNoContract). old ++ explained ps faulty side number line read) list ∙ ap (λ (n : ℕ). old ++ explained programs faulty side n line read) counted
    ∙ ap (λ (xs : List ℕ). old ++ explained programs faulty side (one_line_more met) line xs) same' in
    subst Blamed (sym (blamed ∙ ap (λ (xs : List ℕ). faulty || is_fault_line xs) same))
    (subst Counted (sym counted) (explained-here Shows Shows' met faulty programs programs' line answer old new side is_side kept turn first now))
