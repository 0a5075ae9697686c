-- Every input has an answer.
use Rattle.std.proofs.Common.{◌≡◌, ℕ, ◌+◌, ◌<◌, inl, inr, List, [], ◌∷◌, ◌++◌, Option, Some, None, length, refl, ap, arith}
use Rattle.bpf_asm.proofs.Public.{meaning-or_fault}
use Rattle.bpf_asm.specs.Grammar.{AreLines, SourceLine}
use Rattle.bpf_asm.specs.Labels.{statements_of}
use Rattle.bpf_asm.specs.Meaning.{IsMeaning, MeanFrom}
use Rattle.bpf_asm.specs.SourceLines.{source_lines}
use Rattle.bpf_verify.specs.Accepted.{IsAccepted}
use Rattle.bpf_code.specs.declared.instr.Instr.{Instr}
use Rattle.bpf_verify.proofs.Public.{accepted-or_fault}
use Rattle.cmd_explain.specs.Explained.{ExplainsCode, ExplainsSource, IsExplainText, IsFaultsOrScript, IsSourceText}
use Rattle.cmd_explain.specs.FaultSentences.{IsFaultsText, PrintsFaults, most_fault_octets}
use Rattle.cmd_explain.specs.InputKinds.{faults_after, rules_after, source_after}
use Rattle.cmd_explain.specs.inner.FaultsTotal.{faults-answered}
use Rattle.cmd_explain.specs.inner.SourcesTotal.{fault-answered, source-answered}
use Rattle.cmd_explain_rules.proofs.Public.{ended-rules_explained}
use Rattle.cmd_explain_rules.specs.RulesExplained.{MayBeRulesExplained}
use Rattle.cmd_explain.specs.SourceReasons.{source_explanation}
use Rattle.cmd_explain_script.proofs.Public.{some-script_text}
use Rattle.cmd_explain_script.specs.ScriptText.{IsScriptExplained}
use Rattle.std.specs.Option.{MatchOption}
use Rattle.text_io.specs.Gathered.{AnswersGathered, gathered}
use Rattle.text_io.specs.declared.ending.Done.{Done}
use Rattle.text_io.specs.declared.ending.Done.TheVariants.{Ended}
use Rattle.cmd_programs.specs.Check.{most_source_octets}
use Rattle.cmd_programs.specs.SourceFaults.{asm_fault}
use Rattle.text_words.specs.FaultLines.{too_long}

-- A code that isn't accepted has a fault.
faulty-code : (source : List ℕ) (code : List Instr) → (IsAccepted code → ⊥) → (text : List ℕ) × ExplainsCode source code text Ended
faulty-code source code never =
    elim (accepted-or_fault code) [
      | inl accepted ↦ absurd (never accepted)
      | inr found ↦ fault-answered source code found.0 found.1
    ]

-- A source without a line means no code that is accepted.
no_code : (lines : List SourceLine) (code : List Instr) → AreLines (source_lines []) lines → MeanFrom lines 0 (statements_of lines) code → code ≡ []
unfolding source_lines statements_of
no_code [] code content meant = meant
no_code (line ∷ lines) code content meant = let no = content in cc

never-accepted : (code : List Instr) → IsMeaning [] code → IsAccepted code → ⊥
never-accepted code means accepted =
    let none : length code ≡ 0 = ap length (no_code means.lines code means.spelled means.mean.meant) in
    let some : 0 < length code = accepted.sized.least in
    omega (arith, none, some)

-- The source without a line has a fault.
pub empty-source_answer : (text : List ℕ) × ExplainsSource [] text Ended
empty-source_answer =
    elim (meaning-or_fault []) [
      | inl meant ↦ let answered = faulty-code [] meant.0 (never-accepted meant.0 meant.1) in (answered.0, inl (meant.0, meant.1, answered.1))
      | inr found ↦ (asm_fault found.0 ++ source_explanation (source_lines []) found.0, inr (found.0, found.1, refl, refl))
    ]

some-within_answer : (found : Option (List ℕ)) → (text : List ℕ) × (done : Done) × AnswersGathered too_long ExplainsSource found text done
some-within_answer None = (too_long, Ended, (refl, refl))
some-within_answer (Some source) = source-answered source

-- Every whole source has an answer.
some-source_text : (source : List ℕ) → (text : List ℕ) × (done : Done) × IsSourceText source text done
some-source_text source = some-within_answer (gathered most_source_octets source)

-- Every text of fault lines has an answer, and one without lines has an empty one.
some-faults_answer : (found : Option (List ℕ)) → (text : List ℕ) × (done : Done) × AnswersGathered too_long PrintsFaults found text done
some-faults_answer None = (too_long, Ended, (refl, refl))
some-faults_answer (Some octets) = faults-answered octets

pub no-faults_answer : IsFaultsText [] [] Ended
unfolding source_lines
no-faults_answer = (refl, refl)

some-last_answer : (octets : List ℕ) (found : Option (List ℕ))
    → (text : List ℕ) × (done : Done) × MatchOption found (IsScriptExplained octets text done) (λ lines. IsFaultsText lines text done)
some-last_answer octets None = some-script_text octets
some-last_answer octets (Some lines) = some-faults_answer (gathered most_fault_octets lines)

some-other_answer : (octets : List ℕ) (found : Option (List ℕ))
    → (text : List ℕ) × (done : Done) × MatchOption found (IsFaultsOrScript octets text done) (λ rules. MayBeRulesExplained rules text done)
some-other_answer octets None = some-last_answer octets (faults_after octets)
some-other_answer octets (Some rules) = let ended = ended-rules_explained rules in (ended.0, Ended, ended.1)

some-input_answer : (octets : List ℕ) (found : Option (List ℕ))
    → (text : List ℕ) × (done : Done)
    × MatchOption found (MatchOption (rules_after octets) (IsFaultsOrScript octets text done) (λ rules. MayBeRulesExplained rules text done))
    (λ source. IsSourceText source text done)
some-input_answer octets None = some-other_answer octets (rules_after octets)
some-input_answer octets (Some source) = some-source_text source

pub some-explain_text : (octets : List ℕ) → (text : List ℕ) × (done : Done) × IsExplainText octets text done
some-explain_text octets = some-input_answer octets (source_after octets)
