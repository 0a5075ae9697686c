-- The octets that `forward` writes, and its report. A script sets up a card, as `police` has it. If the script has a
-- fault, the report explains it, and nothing is written. Otherwise the card judges the cells of a capture that count,
-- at port 0 and in order, and their records go on by its verdicts.
use Rattle.std.specs.Prelude.{◌≡◌, ◌⊎◌, ℕ, List, [], Option, Some, None}
use Rattle.captures.specs.declared.link.Link.{Link}
use Rattle.captures_text.specs.declared.captured_cell.CapturedCell.{CapturedCell}
use Rattle.cmd_setups.specs.SetUpScripts.{IsFaultAtTimes, IsSetUpAtTimes}
use Rattle.cmd_police.specs.PolicedCards.{PolicedWorld, PolicesOneCell, policed_report, policed_start}
use Rattle.cmd_police.specs.PreparedSetups.{HasFaultySetup, IsPreparedAs}
use Rattle.cmd_police.specs.RulesFiles.{IsFaultOfRules, MayBeFaultOfRules}
use Rattle.cmd_setups.specs.TimedLines.{line_times, waiting_at}
use Rattle.leaky.specs.declared.verdict.Verdict.{Verdict}
use Rattle.leaky.specs.declared.verdict.Verdict.TheVariants.{Pass, Tag, Discard, Refuse}
use Rattle.text_io.specs.Lines.{lines_of}
use Rattle.text_io.specs.declared.ending.Done.TheVariants.{Ended}
use Rattle.cmd_run.specs.RunText.{Card, IsLed}
use Rattle.cmd_forward.specs.Forwarding.{ForwardsCapture, forward_start}
use Rattle.cmd_forward.specs.JudgeRules.{JudgeRules}
use Rattle.cmd_forward.specs.Reporting.{ReportedTexts}
use Rattle.cmd_forward.specs.declared.onward.Onward.{Onward}
use Rattle.cmd_forward.specs.declared.onward.Onward.TheVariants.{Stays, Unchanged, Tagged}
use Rattle.cmd_forward.specs.declared.others.Others.{Others}

-- How a cell with this verdict goes on. A cell that isn't judged doesn't.
abbrev pub onward_by : Option Verdict → Onward
onward_by (Some Pass) = Unchanged
onward_by (Some Tag) = Tagged
onward_by (Some Discard) = Stays
onward_by (Some Refuse) = Stays
onward_by None = Stays

-- A cell arrives at the card, and goes on by its verdict.
abbrev pub GoesByVerdict : PolicedWorld → CapturedCell → Onward → PolicedWorld → Type 0
GoesByVerdict before captured onward after = (verdict : Option Verdict) × PolicesOneCell before captured verdict after × (onward ≡ onward_by verdict)

-- The rules of `forward`.
abbrev pub forward_rules : JudgeRules PolicedWorld
forward_rules = record { steps = GoesByVerdict; closes = policed_report; is_sound = λ world. IsLed world.card }

-- What is written of a whole capture by a setup script without a fault, whose lines have these times, and what is reported, and how the run ends.
abbrev pub IsJudgedOnward : Others → ℕ → Option Link → List ℕ → List (Option ℕ) → ReportedTexts
IsJudgedOnward others tick link script times octets text report done =
    (card : Card) × IsSetUpAtTimes script times card
    × ForwardsCapture forward_rules others (forward_start tick link (policed_start tick card (waiting_at tick times (lines_of script)))) octets text report done

-- What is written for a setup script whose lines have these times, and a whole capture, and what is reported, and how the run ends.
abbrev pub IsForwarded : Others → ℕ → Option Link → List ℕ → List (Option ℕ) → ReportedTexts
IsForwarded others tick link script times octets text report done =
    ((text ≡ []) × IsFaultAtTimes script times report × (done ≡ Ended)) ⊎ IsJudgedOnward others tick link script times octets text report done

-- The same for a setup script with times and files of rules. If it has a fault, the report is about it, and nothing is written.
-- `IsFault` says which lines are the fault line of a text of rules and its explanation.
abbrev pub IsSetupForwardedBy : (List ℕ → List ℕ → List ℕ → Type 0) → Others → ℕ → Option Link → List ℕ → List (List ℕ) → ReportedTexts
IsSetupForwardedBy IsFault others tick link setup texts octets text report done =
    ((text ≡ []) × HasFaultySetup IsFault setup texts report × (done ≡ Ended))
    ⊎ ((script : List ℕ) × IsPreparedAs setup texts script × IsForwarded others tick link script (line_times setup) octets text report done)

-- The same, where the fault line is that of `upc-lab rules`.
abbrev pub IsSetupForwarded : Others → ℕ → Option Link → List ℕ → List (List ℕ) → ReportedTexts
IsSetupForwarded = IsSetupForwardedBy IsFaultOfRules

-- The same, but that the code of any rules may be reported as too long. For every setup script, texts and capture
-- something may be forwarded so, so if a call fails, what was written is the beginning of it.
abbrev pub MayBeSetupForwarded : Others → ℕ → Option Link → List ℕ → List (List ℕ) → ReportedTexts
MayBeSetupForwarded = IsSetupForwardedBy MayBeFaultOfRules
