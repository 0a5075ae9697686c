-- Every setup script, texts and capture have a text.
use Rattle.std.proofs.Common.{◌≡◌, ◌⊎◌, inl, inr, ℕ, ◌+◌, Bool, true, false, if◌then◌else◌, nat_lt, List, [], ◌∷◌, ◌++◌, length, Option, Some, None, Result, Ok, Err, refl, sym, subst, ◌∙◌}
use Rattle.rules_text.specs.TextOfRules.{PlacedRulesRead, placed_rules_in, placed_fault}
use Rattle.rules_text.specs.declared.fault.RuleFault.{RuleFault}
use Rattle.rules_text.specs.declared.fault.RuleFaultKind.TheVariants.{TooLong}
use Rattle.text_io.specs.Gathered.{gathered}
use Rattle.text_io.specs.Lines.{Line, line_with_feed, lines_of}
use Rattle.text_io.specs.declared.ending.Done.{Done}
use Rattle.text_io.specs.declared.ending.Done.TheVariants.{Ended}
use Rattle.cmd_police.specs.declared.scope.PoliceScope.{PoliceScope}
use Rattle.cmd_police.proofs.EachCapture.{some_police_text}
use Rattle.cmd_explain_rules.specs.RuleReasons.{rule_explanation}
use Rattle.cmd_explain_rules.specs.RulesExplained.{IsFaultOfText}
use Rattle.cmd_rules.specs.RuleFaults.{rule_fault}
use Rattle.cmd_rules.specs.RulesAnswers.{most_rules_octets}
use Rattle.text_words.specs.FaultLines.{too_long}
use Rattle.cmd_police.specs.FaultyRules.{HasFaultIn, rules_place}
use Rattle.cmd_police.specs.LoadedRules.{shown_rules}
use Rattle.cmd_police.specs.PreparedSetups.{HasFaultySetup, IsPreparedAs}
use Rattle.cmd_police.specs.RulesFiles.{IsFaultOfRules, MayBeFaultOfRules, MayBeFaultOfText, TellsFault, later_texts, next_text, too_large_text}
use Rattle.cmd_setups.specs.RulesLines.{named_rules}
use Rattle.cmd_police.specs.SetupLaws.{PolicesEachSetup}
use Rattle.cmd_police.specs.SetupPrograms.{HasProgramsIn}
use Rattle.cmd_police.specs.SetupText.{AsAgreed, MayBePolicedAsAgreed, MayBeSetupPoliced}
use Rattle.cmd_setups.specs.TimedLines.{falling_line, falling_text, line_times, without_times}
use Rattle.cmd_setups.specs.SetupTick.{agreed_tick, ticks_differ}
use Rattle.cmd_police.proofs.Completing.{FailsAt, ReplacesAt}

-- ---- a text of rules may have a fault

told_faulty : (text : List ℕ) (fault : RuleFault) → gathered most_rules_octets text ≡ Some text → MayBeFaultOfText text fault
    → (line : List ℕ) × (reason : List ℕ) × MayBeFaultOfRules text line reason
told_faulty text fault found is = (
  rule_fault fault,
  rule_explanation text fault,
  subst (λ (found : Option (List ℕ)). TellsFault MayBeFaultOfText found (rule_fault fault) (rule_explanation text fault)) (sym found) (fault, is, refl, refl),
)

read_faulty : (text : List ℕ) (read : Result PlacedRulesRead RuleFault) → gathered most_rules_octets text ≡ Some text → placed_rules_in text ≡ read
    → (line : List ℕ) × (reason : List ℕ) × MayBeFaultOfRules text line reason
read_faulty text (Ok numbered) found same = told_faulty text (placed_fault 0 0 TooLong) found (inr ((numbered, same), refl))
read_faulty text (Err fault) found same = told_faulty text fault found (inl (inl same))

found_faulty : (text : List ℕ) (found : Option (List ℕ)) → gathered most_rules_octets text ≡ found → (found ≡ None) ⊎ (found ≡ Some text)
    → (line : List ℕ) × (reason : List ℕ) × MayBeFaultOfRules text line reason
found_faulty text found same (inl none) =
    (too_long, too_large_text, subst (λ (found : Option (List ℕ)). TellsFault MayBeFaultOfText found too_long too_large_text) (sym (same ∙ none)) (refl, refl))
found_faulty text found same (inr some) = read_faulty text (placed_rules_in text) (same ∙ some) refl

gathered_or : (text : List ℕ) (over : Bool) → ((if over then None else Some text) ≡ None) ⊎ ((if over then None else Some text) ≡ Some text)
gathered_or text true = inl refl
gathered_or text false = inr refl

pub may_be_faulty : (text : List ℕ) → (line : List ℕ) × (reason : List ℕ) × MayBeFaultOfRules text line reason
may_be_faulty text = found_faulty text (gathered most_rules_octets text) refl (gathered_or text (nat_lt most_rules_octets (length text)))

-- ---- a script has a fault, or it has programs

abbrev LeadsOn : ℕ → List Line → List (List ℕ) → Type 0
LeadsOn met lines texts =
    ((text : List ℕ) × HasFaultIn MayBeFaultOfRules met lines texts text) ⊎ ((expanded : List ℕ) × HasProgramsIn lines texts expanded)

line_leads : (name : Option (List ℕ)) (met : ℕ) (line : Line) (lines : List Line) (texts : List (List ℕ)) → named_rules line ≡ name
    → LeadsOn (met + 1) lines texts → LeadsOn met (line ∷ lines) texts
line_leads None met line lines texts named (inl on) =
    inl (on.0, subst (λ (n : Option (List ℕ)). FailsAt MayBeFaultOfRules n met lines texts on.0) (sym named) on.1)
line_leads None met line lines texts named (inr on) =
    inr (line_with_feed line ++ on.0, subst (λ (n : Option (List ℕ)). ReplacesAt n line lines texts (line_with_feed line ++ on.0)) (sym named) (on.0, on.1, refl))
line_leads (Some name) met line lines texts named on =
    let fault = may_be_faulty (next_text texts) in
    let text = fault.0 ++ rules_place (met + 1) name fault.1 in
    inl (text, subst (λ (n : Option (List ℕ)). FailsAt MayBeFaultOfRules n met lines texts text) (sym named) (inl (fault.0, fault.1, fault.2, refl)))

leads_on : (lines : List Line) (met : ℕ) (texts : List (List ℕ)) → LeadsOn met lines texts
leads_on [] met texts = inr ([], refl)
leads_on (line ∷ lines) met texts = line_leads (named_rules line) met line lines texts refl (leads_on lines (met + 1) texts)

-- A setup script has a fault, or it is prepared.
abbrev pub FaultOrPrepared : List ℕ → List (List ℕ) → Type 0
FaultOrPrepared setup texts = ((text : List ℕ) × HasFaultySetup MayBeFaultOfRules setup texts text) ⊎ ((script : List ℕ) × IsPreparedAs setup texts script)

risen_leads : (setup : List ℕ) (texts : List (List ℕ)) → falling_line setup ≡ None → LeadsOn 0 (lines_of (without_times setup)) texts → FaultOrPrepared setup texts
risen_leads setup texts rises (inl faulty) = inl (faulty.0, inr (rises, faulty.1))
risen_leads setup texts rises (inr made) = inr (made.0, record { rises = rises; programs = made.1 })

setup_leads : (setup : List ℕ) (texts : List (List ℕ)) (falls : Option ℕ) → falling_line setup ≡ falls → FaultOrPrepared setup texts
setup_leads setup texts None rises = risen_leads setup texts rises (leads_on (lines_of (without_times setup)) 0 texts)
setup_leads setup texts (Some number) falls = inl (falling_text number, inl (number, falls, refl))

pub fault_or_prepared : (setup : List ℕ) (texts : List (List ℕ)) → FaultOrPrepared setup texts
fault_or_prepared setup texts = setup_leads setup texts (falling_line setup) refl

polices : (scope : PoliceScope) (tick : ℕ) (setup : List ℕ) (texts : List (List ℕ)) (octets : List ℕ) → FaultOrPrepared setup texts
    → (text : List ℕ) × (done : Done) × MayBeSetupPoliced scope tick setup texts octets text done
polices scope tick setup texts octets (inl faulty) = (faulty.0, Ended, inl (faulty.1, refl))
polices scope tick setup texts octets (inr made) =
    let printed = some_police_text scope tick (shown_rules scope.why (without_times setup) texts) made.0 (line_times setup) octets in
    (printed.0, printed.1, inr (made.0, made.1, printed.2))

pub polices_each : PolicesEachSetup
polices_each scope tick setup texts octets = polices scope tick setup texts octets (fault_or_prepared setup texts)

-- ---- a fault of rules that is reported is one that may be reported

tells_may : (found : Option (List ℕ)) (line reason : List ℕ) → TellsFault IsFaultOfText found line reason → TellsFault MayBeFaultOfText found line reason
tells_may None line reason is = is
tells_may (Some text) line reason (fault, is, said, why) = (fault, inl is, said, why)

pub may_be_fault : (text line reason : List ℕ) → IsFaultOfRules text line reason → MayBeFaultOfRules text line reason
may_be_fault text line reason is = tells_may (gathered most_rules_octets text) line reason is

fault_at_may : (name : Option (List ℕ)) (met : ℕ) (lines : List Line) (texts : List (List ℕ)) (text : List ℕ)
    → ((texts : List (List ℕ)) → HasFaultIn IsFaultOfRules (met + 1) lines texts text → HasFaultIn MayBeFaultOfRules (met + 1) lines texts text)
    → FailsAt IsFaultOfRules name met lines texts text → FailsAt MayBeFaultOfRules name met lines texts text
fault_at_may None met lines texts text on is = on texts is
fault_at_may (Some name) met lines texts text on (inl (fault, reason, is, printed)) = inl (fault, reason, may_be_fault (next_text texts) fault reason is, printed)
fault_at_may (Some name) met lines texts text on (inr (code, program, is)) = inr (code, program, on (later_texts texts) is)

fault_may : (lines : List Line) (met : ℕ) (texts : List (List ℕ)) (text : List ℕ) → HasFaultIn IsFaultOfRules met lines texts text → HasFaultIn MayBeFaultOfRules met lines texts text
fault_may [] met texts text is = is
fault_may (line ∷ lines) met texts text is =
    fault_at_may (named_rules line) met lines texts text (λ texts is. fault_may lines (met + 1) texts text is) is

pub faulty_may : (setup : List ℕ) (texts : List (List ℕ)) (text : List ℕ) → HasFaultySetup IsFaultOfRules setup texts text → HasFaultySetup MayBeFaultOfRules setup texts text
faulty_may setup texts text (inl falls) = inl falls
faulty_may setup texts text (inr (rises, faulty)) = inr (rises, fault_may (lines_of (without_times setup)) 0 texts text faulty)

-- ---- at the tick that is agreed

at_tick : (IsTextAt : ℕ → List ℕ → List ℕ → Done → Type 0) (agreed : Result ℕ (ℕ × ℕ)) (octets : List ℕ)
    → ((tick : ℕ) → (text : List ℕ) × (done : Done) × IsTextAt tick octets text done) → (text : List ℕ) × (done : Done) × AsAgreed IsTextAt agreed octets text done
at_tick IsTextAt (Ok tick) octets each = each tick
at_tick IsTextAt (Err (named, asked)) octets each = (ticks_differ named asked, Ended, (refl, refl))

pub polices_as_agreed : (scope : PoliceScope) (named asked : Option ℕ) (setup : List ℕ) (texts : List (List ℕ)) (octets : List ℕ)
    → (text : List ℕ) × (done : Done) × MayBePolicedAsAgreed scope named asked setup texts octets text done
polices_as_agreed scope named asked setup texts octets =
    at_tick (λ tick. MayBeSetupPoliced scope tick setup texts) (agreed_tick named asked) octets (λ tick. polices_each scope tick setup texts octets)
