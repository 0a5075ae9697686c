-- The text of `upc-lab explain --setup` for a setup script with files of rules: the faults that `police` would find; or,
-- without one, the hints and a line that says so. And the hints as comments.
use Rattle.std.specs.Prelude.{◌≡◌, ◌⊎◌, ℕ, Bool, eqb, if◌then◌else◌, List, [], ◌∷◌, ◌++◌, codes, Option}
use Rattle.std.specs.List.{starts_with}
use Rattle.text_io.specs.Lines.{Line, line_content, line_with_feed, lines_of}
use Rattle.cmd_explain_script.specs.ScriptText.{IsScriptExplained}
use Rattle.text_io.specs.Devices.{IsPart}
use Rattle.text_io.specs.declared.ending.Done.{Done}
use Rattle.text_io.specs.declared.ending.Done.TheVariants.{Ended, Whole}
use Rattle.cmd_setups.specs.SetUpScripts.{IsFaultAtTimes}
use Rattle.cmd_police.specs.PreparedSetups.{HasFaultySetup, IsPreparedAs}
use Rattle.cmd_police.specs.RulesFiles.{IsFaultOfRules}
use Rattle.cmd_setups.specs.TimedLines.{line_times, octets_before_times}

-- The explanation of a script whose lines have these times, and how it ends: its fault, or that of its lines before the
-- first time, and Ended; or without a fault its hints, and Whole.
abbrev pub IsExplainedAtTimes : List ℕ → List (Option ℕ) → List ℕ → Done → Type 0
IsExplainedAtTimes script times text done =
    (IsFaultAtTimes script times text × (done ≡ Ended))
    ⊎ (IsScriptExplained script text Whole × ((before : List ℕ) × IsScriptExplained (octets_before_times times (lines_of script)) before Whole) × (done ≡ Whole))

-- The same of a setup script with times and files of rules, of which these are the texts.
abbrev pub IsSetupExplained : List ℕ → List (List ℕ) → List ℕ → Done → Type 0
IsSetupExplained setup texts text done =
    (HasFaultySetup IsFaultOfRules setup texts text × (done ≡ Ended))
    ⊎ ((script : List ℕ) × IsPreparedAs setup texts script × IsExplainedAtTimes script (line_times setup) text done)

-- The output grew by a part of such a text, or not at all.
abbrev pub IsExplainedInPart : List ℕ → List (List ℕ) → List ℕ → List ℕ → Type 0
IsExplainedInPart setup texts before after =
    (after ≡ before) ⊎ ((text : List ℕ) × (done : Done) × IsSetupExplained setup texts text done × IsPart before after text)

-- Whether a line of an explanation is a hint.
abbrev pub is_hint_line : List ℕ → Bool
is_hint_line content = starts_with eqb content (codes "hint ")

-- The comment that a line of an explanation is if it is a hint, from its content and its octets.
abbrev pub comment_of_hint : List ℕ → List ℕ → List ℕ
comment_of_hint content octets = if is_hint_line content then codes "# " ++ octets else []

-- The hints among these lines as comments, in order.
abbrev pub comments_of_hints : List Line → List ℕ
comments_of_hints [] = []
comments_of_hints (line ∷ lines) = comment_of_hint (line_content line) (line_with_feed line) ++ comments_of_hints lines

-- The same for an explanation, if it is one without a fault. That of a fault is printed, with its hints.
abbrev pub comments_of_explanation : List ℕ → Done → List ℕ
comments_of_explanation text Whole = comments_of_hints (lines_of text)
comments_of_explanation text Ended = []

-- The hints about a setup script with the texts of its files of rules, as comments.
abbrev pub AreHintsOfSetup : List ℕ → List (List ℕ) → List ℕ → Type 0
AreHintsOfSetup setup texts hints =
    (text : List ℕ) × (done : Done) × IsSetupExplained setup texts text done × (hints ≡ comments_of_explanation text done)
