-- The output of `upc-lab explain`. If the only word of the first line is `source`, the rest is a source of assembly, and the
-- answer is the fault that `upc check` finds, and an explanation of it, or that there is none. If it is `rules`, the rest is a text of
-- rules, and the answer is in the same way that of `upc-lab rules`. If it is `faults`, fault lines follow. Otherwise the input is a script.
use Rattle.std.specs.Prelude.{◌≡◌, ◌⊎◌, ℕ, List, ◌++◌, length, codes, decimal, MatchOption}
use Rattle.bpf_asm.specs.Faults.{IsFault}
use Rattle.bpf_asm.specs.Meaning.{IsMeaning}
use Rattle.bpf_asm.specs.SourceLines.{source_lines}
use Rattle.bpf_asm.specs.declared.fault.AsmFault.{AsmFault}
use Rattle.bpf_code.specs.declared.instr.Instr.{Instr}
use Rattle.bpf_verify.specs.Accepted.{IsAccepted}
use Rattle.bpf_verify.specs.Faults.{FailsFirst}
use Rattle.bpf_verify.specs.declared.fault.Fault.{Fault}
use Rattle.cmd_explain.specs.CodeReasons.{IsCodeExplanation}
use Rattle.cmd_explain.specs.SourceHints.{hints_of}
use Rattle.cmd_explain.specs.FaultSentences.{IsFaultsText}
use Rattle.cmd_explain.specs.InputKinds.{faults_after, rules_after, source_after}
use Rattle.cmd_explain_rules.specs.RulesExplained.{IsRulesExplained, MayBeRulesExplained}
use Rattle.cmd_explain.specs.SourceReasons.{source_explanation}
use Rattle.cmd_explain_script.specs.ScriptText.{IsScriptExplained}
use Rattle.text_io.specs.Gathered.{AnswersGathered, gathered}
use Rattle.text_io.specs.declared.ending.Done.{Done}
use Rattle.text_io.specs.declared.ending.Done.TheVariants.{Whole, Ended}
use Rattle.cmd_programs.specs.CodeFaults.{verify_fault}
use Rattle.cmd_programs.specs.Check.{most_source_octets}
use Rattle.cmd_programs.specs.SourceFaults.{asm_fault}
use Rattle.text_words.specs.FaultLines.{line, too_long}

-- The answer to a code: that there is no fault, with hints, or the fault of `check` and its explanation.
abbrev pub ExplainsCode : List ℕ → List Instr → List ℕ → Done → Type 0
ExplainsCode source code text done =
    (IsAccepted code × (text ≡ line (codes "accepted " ++ decimal (length code)) ++ hints_of (source_lines source) code) × (done ≡ Whole))
    ⊎ ((fault : Fault) × FailsFirst code fault
    × ((more : List ℕ) × IsCodeExplanation (source_lines source) code fault more × (text ≡ verify_fault fault ++ more)) × (done ≡ Ended))

-- The answer to a source: that to the code that it means, or the fault of `check` and its explanation.
abbrev pub ExplainsSource : List ℕ → List ℕ → Done → Type 0
ExplainsSource source text done =
    ((code : List Instr) × IsMeaning source code × ExplainsCode source code text done)
    ⊎ ((fault : AsmFault) × IsFault source fault × (text ≡ asm_fault fault ++ source_explanation (source_lines source) fault) × (done ≡ Ended))

-- The output for a whole source, or `too_long` if it is over the limit, and how the run ends.
abbrev pub IsSourceText : List ℕ → List ℕ → Done → Type 0
IsSourceText source text done = AnswersGathered too_long ExplainsSource (gathered most_source_octets source) text done

-- The output for a script, or for the fault lines after the first line.
abbrev pub IsFaultsOrScript : List ℕ → List ℕ → Done → Type 0
IsFaultsOrScript octets text done = MatchOption (faults_after octets) (IsScriptExplained octets text done) (λ lines. IsFaultsText lines text done)

-- The output for a whole input, and how the run ends: that for the source, the text of rules or the fault lines after the first line, or
-- that for a script. This relation of octets, text and end says what the output for a text of rules is.
abbrev pub IsExplainedBy : (List ℕ → List ℕ → Done → Type 0) → List ℕ → List ℕ → Done → Type 0
IsExplainedBy RulesText octets text done =
    MatchOption (source_after octets)
    (MatchOption (rules_after octets) (IsFaultsOrScript octets text done) (λ rules. RulesText rules text done))
    (λ source. IsSourceText source text done)

-- The output for a whole input, and how the run ends.
abbrev pub IsWholeExplanation : List ℕ → List ℕ → Done → Type 0
IsWholeExplanation = IsExplainedBy IsRulesExplained

-- As `IsWholeExplanation`, but the code of any rules may be reported as too long. Every input has such an output, so if a device fails,
-- what was written is the beginning of one.
abbrev pub IsExplainText : List ℕ → List ℕ → Done → Type 0
IsExplainText = IsExplainedBy MayBeRulesExplained
