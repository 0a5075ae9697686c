-- A script whose explanation names no fault leads to a card.
use Rattle.std.proofs.Common.{◌≡◌, ◌⊎◌, inl, inr, ℕ, ◌+◌, Bool, true, false, List, [], ◌∷◌, ◌++◌, Option, Some, None, option_map, refl, sym, subst}
use Rattle.std.specs.Bool.{MatchBool}
use Rattle.std.specs.Option.{MatchOption}
use Rattle.cmd_explain_script.proofs.Public.{some-script_text}
use Rattle.cmd_explain_script.specs.ScriptText.{ClosesScript, ExplainsLine, IsScriptExplained, ScriptWorld, after_answer, before_script, script_rules}
use Rattle.text_io.proofs.Public.{prints-end}
use Rattle.text_io.specs.Limits.{is_over}
use Rattle.text_io.specs.Lines.{Line, lines_of, line_content}
use Rattle.text_io.specs.Printing.{EndsAt, Prints}
use Rattle.text_io.specs.declared.ending.Done.{Done}
use Rattle.text_io.specs.declared.ending.Done.TheVariants.{Whole, Ended}
use Rattle.cmd_run.proofs.Public.{one-run_text, run-total}
use Rattle.cmd_run.specs.RunText.{Card, IsLed, IsRunText, IsSoundRun, RunCloses, RunSteps, RunWorld, run_rules}
use Rattle.cmd_setups.specs.SetUpScripts.{IsFaultAtTimes, IsSetUpAtTimes, IsSetUpBy}
use Rattle.cmd_setups.specs.TimedLines.{octets_before_times}
use Rattle.cmd_setups.specs.inner.SetUpCard.{RunsWhole}

-- The text of `run` for a script from this world, which isn't ended early.
abbrev RunsOn : ℕ → RunWorld → List Line → Type 0
RunsOn met world lines = (answers : List ℕ) × Prints run_rules met world lines answers Whole

closes_whole : (run : RunWorld) (world : ScriptWorld) (text : List ℕ) → ClosesScript run world text Whole → RunCloses run [] Whole
closes_whole None world text closes = let no = closes.1 in cc
closes_whole (Some card) world text closes = (refl, refl)

next_whole : (met : ℕ) (world : ScriptWorld) (here more : List ℕ) (lines : List Line) (after : Option RunWorld)
    → ((next : ScriptWorld) (text : List ℕ) → Prints script_rules (met + 1) next lines text Whole → RunsOn (met + 1) next.run lines)
    → MatchOption (option_map (after_answer world here) after) ((more ≡ []) × (Whole ≡ Ended)) (λ next. Prints script_rules (met + 1) next lines more Whole)
    → (answers : List ℕ) × MatchOption after ((answers ≡ []) × (Whole ≡ Ended)) (λ run. Prints run_rules (met + 1) run lines answers Whole)
next_whole met world here more lines None later h = let no = h.1 in cc
next_whole met world here more lines (Some run) later h = later (after_answer world here run) more h

line_whole : (met : ℕ) (world : ScriptWorld) (line : Line) (lines : List Line) (text : List ℕ) (over : Bool)
    → ((next : ScriptWorld) (text : List ℕ) → Prints script_rules (met + 1) next lines text Whole → RunsOn (met + 1) next.run lines)
    → MatchBool over ((text ≡ script_rules.too_long) × (Whole ≡ Ended))
    ((here : List ℕ) × (more : List ℕ) × (next : Option ScriptWorld) × (text ≡ here ++ more) × ExplainsLine world (line_content line) here next
    × MatchOption next ((more ≡ []) × (Whole ≡ Ended)) (λ world'. Prints script_rules (met + 1) world' lines more Whole))
    → (answers : List ℕ) × MatchBool over ((answers ≡ run_rules.too_long) × (Whole ≡ Ended))
    ((here : List ℕ) × (more : List ℕ) × (next : Option RunWorld) × (answers ≡ here ++ more) × RunSteps world.run (line_content line) here next
    × MatchOption next ((more ≡ []) × (Whole ≡ Ended)) (λ world'. Prints run_rules (met + 1) world' lines more Whole))
line_whole met world line lines text true later h = let no = h.1 in cc
line_whole met world line lines text false later h =
    let explains = h.4 in
    let next : MatchOption (option_map (after_answer world explains.0) explains.1) ((h.1 ≡ []) × (Whole ≡ Ended)) (λ world'. Prints script_rules (met + 1) world' lines h.1 Whole) =
    subst (λ (o : Option ScriptWorld). MatchOption o ((h.1 ≡ []) × (Whole ≡ Ended)) (λ world'. Prints script_rules (met + 1) world' lines h.1 Whole)) explains.4 h.5 in
    let rest = next_whole met world explains.0 h.1 lines explains.1 later next in
    (explains.0 ++ rest.0, (explains.0, rest.0, explains.1, refl, explains.2, rest.1))

runs_whole : (lines : List Line) (met : ℕ) (world : ScriptWorld) (text : List ℕ) → Prints script_rules met world lines text Whole → RunsOn met world.run lines
runs_whole [] met world text closes = ([], closes_whole world.run world text closes)
runs_whole (line ∷ lines) met world text h =
    line_whole met world line lines text (is_over met line) (λ next more. runs_whole lines (met + 1) next more) h

-- A script without a fault has a text of `run` that isn't ended early.
pub whole_run : (script : List ℕ) → RunsWhole script → (answers : List ℕ) × IsRunText script answers Whole
whole_run script whole = runs_whole (lines_of script) 0 before_script whole.0 whole.1

-- So no other text of it is.
pub never_ended : (script answers : List ℕ) → RunsWhole script → IsRunText script answers Ended → ⊥
never_ended script answers whole ended =
    let run = whole_run script whole in
    let one = one-run_text script run.0 answers Whole Ended run.1 ended in
    let no : Whole ≡ Ended = one.1 in cc

-- The world to which lines lead is sound, and the text of `run` may end there.
ends_sound : (lines : List Line) (met : ℕ) (world last : RunWorld) (text : List ℕ) → IsSoundRun world → EndsAt run_rules met world lines text last
    → IsSoundRun last × ((answers : List ℕ) × RunCloses last answers Whole)
ends_sound [] met world last text sound ends =
    subst (λ (it : RunWorld). IsSoundRun it × ((answers : List ℕ) × RunCloses it answers Whole)) (sym ends.0) (sound, (text, ends.1))
ends_sound (line ∷ lines) met world last text sound ends =
    let on = ends.1 in
    ends_sound lines (met + 1) on.2 last on.1 (run-total.keeps world (line_content line) on.0 on.2 sound on.4) on.5

-- Lines that lead to an end without a fault lead to a card that a log leads to.
pub ends_card : (script text : List ℕ) (last : RunWorld) → EndsAt run_rules 0 None (lines_of script) text last
    → (card : Card) × (last ≡ Some card) × IsLed card
ends_card script text None ends =
    let no = (ends_sound (lines_of script) 0 None None text tt ends).1.1.1 in cc
ends_card script text (Some card) ends = (card, refl, (ends_sound (lines_of script) 0 None (Some card) text tt ends).0)

-- A script whose lines have these times has a fault, or leads to a card.
abbrev pub FaultOrCard : List ℕ → List (Option ℕ) → Type 0
FaultOrCard script times = ((text : List ℕ) × IsFaultAtTimes script times text) ⊎ ((card : Card) × IsSetUpAtTimes script times card × IsLed card)

-- A script without a fault leads to a card.
pub set_up_some : (script : List ℕ) → RunsWhole script → (card : Card) × IsSetUpBy script card × IsLed card
set_up_some script whole =
    let run = whole_run script whole in
    let end = prints-end run_rules 0 None (lines_of script) run.0 run.1 in
    let card = ends_card script run.0 end.0 end.1 in (
      card.0,
      record {
        explanation = whole.0;
        faultless = whole.1;
        answers = run.0;
        reached = subst (λ (it : RunWorld). EndsAt run_rules 0 None (lines_of script) run.0 it) card.1 end.1;
      },
      card.2,
    )

timed_by : (script : List ℕ) (times : List (Option ℕ)) (explanation text : List ℕ) (done : Done) → IsScriptExplained script explanation Whole
    → IsScriptExplained (octets_before_times times (lines_of script)) text done → FaultOrCard script times
timed_by script times explanation text Ended faultless explained = inl (text, inr (explanation, faultless, explained))
timed_by script times explanation text Whole faultless explained =
    let set = set_up_some (octets_before_times times (lines_of script)) (text, explained) in
    inr (set.0, record { explanation = explanation; faultless = faultless; before = set.1 }, set.2)

timed_at : (script : List ℕ) (times : List (Option ℕ)) (explanation : List ℕ) (done : Done) → IsScriptExplained script explanation done → FaultOrCard script times
timed_at script times explanation Ended explained = inl (explanation, inl explained)
timed_at script times explanation Whole explained =
    let before = some-script_text (octets_before_times times (lines_of script)) in
    timed_by script times explanation before.0 before.1 explained before.2

-- A script whose lines have these times has a fault, or leads to a card.
pub fault_or_card : (script : List ℕ) (times : List (Option ℕ)) → FaultOrCard script times
fault_or_card script times =
    let explained = some-script_text script in
    timed_at script times explained.0 explained.1 explained.2
