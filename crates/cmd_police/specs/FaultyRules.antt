-- The text for a setup script that names a file of rules with a fault.
use Rattle.std.specs.Prelude.{◌≡◌, ◌⊎◌, ℕ, ◌+◌, List, [], ◌∷◌, ◌++◌, codes, None, MatchOption}
use Rattle.bpf_code.specs.declared.instr.Instr.{Instr}
use Rattle.text_io.specs.Lines.{Line, lines_of}
use Rattle.cmd_explain_script.specs.Places.{place_words, quoted}
use Rattle.cmd_police.specs.RulesFiles.{IsProgramOfRules, later_texts, next_text}
use Rattle.cmd_setups.specs.RulesLines.{named_rules}

-- The line that says which line of the script names the rules, and what is wrong in them.
abbrev pub rules_place : ℕ → List ℕ → List ℕ → List ℕ
rules_place number name reason = place_words number None ++ (codes "in the rules of " ++ (quoted name ++ (codes ": " ++ reason)))

-- The text for a line of the script with this number, which names rules with a fault: the fault line of the rules, where
-- they are named, and the explanation of the fault.
abbrev pub IsRulesFaultAt : (List ℕ → List ℕ → List ℕ → Type 0) → ℕ → List ℕ → List ℕ → List ℕ → Type 0
IsRulesFaultAt IsFault number name rules text =
    (fault : List ℕ) × (reason : List ℕ) × IsFault rules fault reason × (text ≡ fault ++ rules_place number name reason)

-- The text is about the first of these lines whose rules have a fault; the rules of those before it have programs.
-- `met` lines of the script are before these, and the texts are those that are left. `IsFault` says which lines
-- are the fault line of a text and its explanation.
abbrev pub HasFaultIn : (List ℕ → List ℕ → List ℕ → Type 0) → ℕ → List Line → List (List ℕ) → List ℕ → Type 0
HasFaultIn IsFault met [] texts text = ⊥
HasFaultIn IsFault met (line ∷ lines) texts text = MatchOption (named_rules line)
    (HasFaultIn IsFault (met + 1) lines texts text)
    (λ name. IsRulesFaultAt IsFault (met + 1) name (next_text texts) text
    ⊎ ((code : List Instr) × IsProgramOfRules (next_text texts) code × HasFaultIn IsFault (met + 1) lines (later_texts texts) text))

-- The text is about the first line of a script whose rules have a fault.
abbrev pub HasFaultyRules : (List ℕ → List ℕ → List ℕ → Type 0) → List ℕ → List (List ℕ) → List ℕ → Type 0
HasFaultyRules IsFault script texts text = HasFaultIn IsFault 0 (lines_of script) texts text
