-- The text of `police` for a setup script with times and files of rules. If it has a fault, the text is about it, and nothing is policed.
-- Otherwise the cells of the capture are policed by the script with its programs.
use Rattle.std.specs.Prelude.{◌≡◌, ◌⊎◌, ℕ, List, Option, Result, Ok, Err}
use Rattle.cmd_police.specs.declared.scope.PoliceScope.{PoliceScope}
use Rattle.cmd_police.specs.PoliceText.{IsPoliceText}
use Rattle.text_io.specs.declared.ending.Done.{Done}
use Rattle.text_io.specs.declared.ending.Done.TheVariants.{Ended}
use Rattle.cmd_police.specs.LoadedRules.{shown_rules}
use Rattle.cmd_police.specs.PreparedSetups.{HasFaultySetup, IsPreparedAs}
use Rattle.cmd_police.specs.RulesFiles.{IsFaultOfRules, MayBeFaultOfRules}
use Rattle.cmd_setups.specs.SetupTick.{agreed_tick, ticks_differ}
use Rattle.cmd_setups.specs.TimedLines.{line_times, without_times}

-- The text for a setup script, the texts of its files of rules and a whole capture, and how the run ends. If the setup has a fault, the
-- text is about it, and nothing is policed. `IsFault` says which lines are the fault line of a text of rules and its explanation.
abbrev pub IsSetupPolicedBy : (List ℕ → List ℕ → List ℕ → Type 0) → PoliceScope → ℕ → List ℕ → List (List ℕ) → List ℕ → List ℕ → Done → Type 0
IsSetupPolicedBy IsFault scope tick setup texts octets text done =
    (HasFaultySetup IsFault setup texts text × (done ≡ Ended))
    ⊎ ((script : List ℕ) × IsPreparedAs setup texts script
    × IsPoliceText scope tick (shown_rules scope.why (without_times setup) texts) script (line_times setup) octets text done)

-- The same, where the fault line is that of `upc-lab rules`, and its explanation that of `upc-lab explain`.
abbrev pub IsSetupPoliced : PoliceScope → ℕ → List ℕ → List (List ℕ) → List ℕ → List ℕ → Done → Type 0
IsSetupPoliced = IsSetupPolicedBy IsFaultOfRules

-- The same, but that the code of any rules may be reported as too long. Every setup script, texts and capture have such
-- a text, so if a call fails, what was written is the beginning of one.
abbrev pub MayBeSetupPoliced : PoliceScope → ℕ → List ℕ → List (List ℕ) → List ℕ → List ℕ → Done → Type 0
MayBeSetupPoliced = IsSetupPolicedBy MayBeFaultOfRules

-- The text for a run with the tick that is agreed: the text at that tick, or the answer about two ticks that differ.
abbrev pub AsAgreed : (ℕ → List ℕ → List ℕ → Done → Type 0) → Result ℕ (ℕ × ℕ) → List ℕ → List ℕ → Done → Type 0
AsAgreed IsTextAt (Ok tick) octets text done = IsTextAt tick octets text done
AsAgreed IsTextAt (Err (named, asked)) octets text done = (text ≡ ticks_differ named asked) × (done ≡ Ended)

-- The text for a setup script that names this tick, if it names one, the texts of its files of rules, and a whole
-- capture, where this tick is asked for, if one is; and how the run ends.
abbrev pub IsPolicedAsAgreed : PoliceScope → Option ℕ → Option ℕ → List ℕ → List (List ℕ) → List ℕ → List ℕ → Done → Type 0
IsPolicedAsAgreed scope named asked setup texts = AsAgreed (λ tick. IsSetupPoliced scope tick setup texts) (agreed_tick named asked)

-- The same, but that the code of any rules may be reported as too long.
abbrev pub MayBePolicedAsAgreed : PoliceScope → Option ℕ → Option ℕ → List ℕ → List (List ℕ) → List ℕ → List ℕ → Done → Type 0
MayBePolicedAsAgreed scope named asked setup texts = AsAgreed (λ tick. MayBeSetupPoliced scope tick setup texts) (agreed_tick named asked)
