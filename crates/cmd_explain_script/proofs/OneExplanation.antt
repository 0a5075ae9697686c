-- A script has one explanation: worlds that `run` answers alike are explained alike.
use Rattle.std.proofs.Common.{◌≡◌, ℕ, ◌+◌, ◌<◌, ◌||◌, Bool, true, false, List, [], ◌∷◌, ◌++◌, map, Option, Some, None, option_map, refl, sym, ap, ◌∙◌, subst}
use Rattle.std.specs.Bool.{MatchBool}
use Rattle.bpf_code.specs.declared.instr.Instr.{Instr}
use Rattle.card_core.specs.World.{Loading}
use Rattle.text_io.proofs.Public.{one-text_alike}
use Rattle.text_io.specs.Limits.{most_input_lines}
use Rattle.text_io.specs.Lines.{lines_of}
use Rattle.text_io.specs.declared.ending.Done.{Done}
use Rattle.text_io.specs.declared.ending.Done.TheVariants.{Ended, Whole}
use Rattle.text_io.specs.inner.Alike.{KeepsAlike, LeadAlike}
use Rattle.cmd_run.proofs.one_script.OneScript.{AreAlike, run-alike}
use Rattle.cmd_run.proofs.one_script.Seen.{codes_of}
use Rattle.cmd_run.specs.RunSide.{run_side}
use Rattle.cmd_run.specs.RunText.{RunWorld}
use Rattle.cmd_explain_script.specs.ContractNumbers.{names_none}
use Rattle.cmd_explain_script.specs.ExplanationLaws.{ScriptsHaveOneExplanation}
use Rattle.cmd_explain_script.specs.LoadedPrograms.{codes_in_order, loaded_programs}
use Rattle.cmd_explain_script.specs.ScriptText.{ClosesScript, ExplainsLine, ScriptWorld, after_answer, before_script, explained, no_fault_line, one_line_more, script_rules}
use Rattle.cmd_explain_script.specs.ScriptFaults.{is_fault_line}

-- The runs are alike, after as many lines, and both or neither had a fault.
pub record ExplainedAlike (met : ℕ) (one other : ScriptWorld) : Type 0 where
  pub runs : AreAlike met one.run other.run
  pub counts : one.met ≡ other.met
  pub faults : one.faulty ≡ other.faulty

-- Codes from the latest on, in the order of their programs.
abbrev turned : List (List Instr) → List (List Instr)
turned [] = []
turned (code ∷ earlier) = turned earlier ++ code ∷ []

in_turn : (given : List Loading) → codes_in_order given ≡ turned (codes_of given)
in_turn [] = refl
in_turn (loading ∷ earlier) = ap (λ codes. codes ++ loading.code ∷ []) (in_turn earlier)

same_programs : (met : ℕ) (one other : RunWorld) → AreAlike met one other → loaded_programs one ≡ loaded_programs other
same_programs met None None alike = refl
same_programs met None (Some card) alike = absurd alike
same_programs met (Some card) None alike = absurd alike
same_programs met (Some card) (Some another) alike =
    let codes : codes_of card.world.loaded ≡ codes_of another.world.loaded = λ i. (alike.same i).codes in
    ap (map names_none) (in_turn card.world.loaded ∙ ap turned codes ∙ sym (in_turn another.world.loaded))

same_side : (met : ℕ) (one other : RunWorld) → AreAlike met one other → run_side one ≡ run_side other
same_side met None None alike = refl
same_side met None (Some card) alike = absurd alike
same_side met (Some card) None alike = absurd alike
same_side met (Some card) (Some another) alike = λ i. Some (alike.same i).shape.side

lead_on : (met : ℕ) (one other : ScriptWorld) (answer answer' : List ℕ) → one.met ≡ other.met → one.faulty ≡ other.faulty → answer ≡ answer' → (after after' : Option RunWorld)
    → LeadAlike (AreAlike met) after after' → LeadAlike (ExplainedAlike met) (option_map (after_answer one answer) after) (option_map (after_answer other answer') after')
lead_on met one other answer answer' counts faults same None None alike = tt
lead_on met one other answer answer' counts faults same None (Some after) alike = absurd alike
lead_on met one other answer answer' counts faults same (Some after) None alike = absurd alike
lead_on met one other answer answer' counts faults same (Some after) (Some after') alike = record {
  runs = alike;
  counts = ap one_line_more counts;
  faults = λ i. faults i || is_fault_line (same i);
}

step : (met : ℕ) (one other : ScriptWorld) (content here here' : List ℕ) (next next' : Option ScriptWorld) → met < most_input_lines → ExplainedAlike met one other
    → ExplainsLine one content here next → ExplainsLine other content here' next' → (here ≡ here') × LeadAlike (ExplainedAlike (met + 1)) next next'
step met one other content here here' next next' few alike p q =
    let run = run-alike.step met one.run other.run content p.0 q.0 p.1 q.1 few alike.runs p.2 q.2 in
    let answers = run.0 in
    let programs = same_programs met one.run other.run alike.runs in
    let side = same_side met one.run other.run alike.runs in
    let counts = alike.counts in
    let faults = alike.faults in
    let leads = lead_on (met + 1) one other p.0 q.0 counts faults answers p.1 q.1 run.1 in (
      p.3 ∙ (λ i. explained (programs i) (faults i) (side i) (one_line_more (counts i)) content (answers i)) ∙ sym q.3,
      subst (λ (n : Option ScriptWorld). LeadAlike (ExplainedAlike (met + 1)) n next') (sym p.4)
          (subst (λ (n : Option ScriptWorld). LeadAlike (ExplainedAlike (met + 1)) (option_map (after_answer one p.0) p.1) n) (sym q.4) leads),
    )

ends : (met : ℕ) (faulty : Bool) (here here' : List ℕ) (done done' : Done)
    → MatchBool faulty ((here ≡ []) × (done ≡ Ended)) ((here ≡ no_fault_line met) × (done ≡ Whole))
    → MatchBool faulty ((here' ≡ []) × (done' ≡ Ended)) ((here' ≡ no_fault_line met) × (done' ≡ Whole)) → (here ≡ here') × (done ≡ done')
ends met true here here' done done' p q = (p.0 ∙ sym q.0, p.1 ∙ sym q.1)
ends met false here here' done done' p q = (p.0 ∙ sym q.0, p.1 ∙ sym q.1)

closes : (met : ℕ) (one other : ScriptWorld) (here here' : List ℕ) (done done' : Done) → one.met ≡ other.met → one.faulty ≡ other.faulty → (run run' : RunWorld)
    → AreAlike met run run' → ClosesScript run one here done → ClosesScript run' other here' done' → (here ≡ here') × (done ≡ done')
closes met one other here here' done done' counts faults None None alike p q = (p.0 ∙ sym q.0, p.1 ∙ sym q.1)
closes met one other here here' done done' counts faults None (Some card) alike p q = absurd alike
closes met one other here here' done done' counts faults (Some card) None alike p q = absurd alike
closes met one other here here' done done' counts faults (Some card) (Some another) alike p q =
    ends other.met other.faulty here here' done done'
    (subst (λ (b : Bool). MatchBool b ((here ≡ []) × (done ≡ Ended)) ((here ≡ no_fault_line other.met) × (done ≡ Whole))) faults
    (subst (λ n. MatchBool one.faulty ((here ≡ []) × (done ≡ Ended)) ((here ≡ no_fault_line n) × (done ≡ Whole))) counts p)) q

script-alike : KeepsAlike script_rules ExplainedAlike
script-alike = record {
  step = step;
  close = λ met one other here here' done done' alike p q. closes met one other here here' done done' alike.counts alike.faults one.run other.run alike.runs p q;
}

pub explained_once : ScriptsHaveOneExplanation
explained_once octets one other ends other_ends p q =
    one-text_alike script_rules ExplainedAlike script-alike (lines_of octets) 0 before_script before_script one other ends other_ends
    (record { runs = tt; counts = refl; faults = refl }) p q
