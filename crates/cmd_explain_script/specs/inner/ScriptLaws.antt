-- The rules of `explain` are total: every line has an answer. This law is in `specs/` because the machine cites it, and so is what
-- the machine shows.
use Rattle.std.proofs.Common.{◌≡◌, ℕ, Bool, true, false, List, [], ◌++◌, Option, Some, None, option_map, refl, subst, sym}
use Rattle.std.specs.Bool.{MatchBool}
use Rattle.text_io.specs.Printing.{IsTotal}
use Rattle.text_io.specs.declared.ending.Done.{Done}
use Rattle.text_io.specs.declared.ending.Done.TheVariants.{Whole, Ended}
use Rattle.text_card.specs.CardFaults.{no_card}
use Rattle.cmd_run.specs.RunText.{IsSoundRun, RunSteps, RunWorld}
use Rattle.cmd_run.specs.inner.RunLaws.{run-total}
use Rattle.cmd_explain_script.specs.LoadedPrograms.{loaded_programs}
use Rattle.cmd_explain_script.specs.declared.contract_numbers.NamesNoContract.{NamesNoContract}
use Rattle.cmd_explain_script.specs.ScriptText.{ClosesScript, ScriptWorld, after_answer, explained, no_card_at_all, no_fault_line, one_line_more, script_rules}
use Rattle.cmd_run.specs.RunSide.{run_side}

-- The machine shows the world with what it counts and keeps of programs, if its part for `run` shows the world of `run`.
pub record ShowsScript (ShowsRun : RunWorld → Type 0) (met : ℕ) (faulty : Bool) (programs : List NamesNoContract) (world : ScriptWorld) : Type 0 where
  pub runs : ShowsRun world.run
  pub counts : world.met ≡ met
  pub blames : world.faulty ≡ faulty
  pub keeps : programs ≡ loaded_programs world.run

sound_after : (before after : ScriptWorld) (content answer : List ℕ) (next : Option RunWorld) → IsSoundRun before.run → RunSteps before.run content answer next
    → Some after ≡ option_map (after_answer before answer) next → IsSoundRun after.run
sound_after before after content answer None sound steps e = let no = e in cc
sound_after before after content answer (Some run) sound steps e =
    let same : after ≡ after_answer before answer run = cc in
    subst (λ (world : ScriptWorld). IsSoundRun world.run) (sym same) (run-total.keeps before.run content answer run sound steps)

ends_by : (world : ScriptWorld) (b : Bool) → (text : List ℕ) × (done : Done)
    × MatchBool b ((text ≡ []) × (done ≡ Ended)) ((text ≡ no_fault_line world.met) × (done ≡ Whole))
ends_by world true = ([], Ended, (refl, refl))
ends_by world false = (no_fault_line world.met, Whole, (refl, refl))

closes_by : (run : RunWorld) (world : ScriptWorld) → (text : List ℕ) × (done : Done) × ClosesScript run world text done
closes_by None world = (no_card ++ no_card_at_all, Ended, (refl, refl))
closes_by (Some card) world = ends_by world world.faulty

-- The rules of `explain` are total.
pub script-total : IsTotal script_rules
script-total = record {
  keeps = λ before content text after sound steps. sound_after before after content steps.0 steps.1 sound steps.2 steps.4;
  step = λ world content sound.
      let run = run-total.step world.run content sound in (
        explained (loaded_programs world.run) world.faulty (run_side world.run) (one_line_more world.met) content run.0,
        option_map (after_answer world run.0) run.1,
        (run.0, run.1, run.2, refl, refl),
      );
  close = λ world sound. closes_by world.run world;
}
