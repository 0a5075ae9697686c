-- A setup script, times of its lines and a capture have a text.
use Rattle.std.proofs.Common.{◌⊎◌, inl, inr, ℕ, List, Option, refl}
use Rattle.captures_text.proofs.Public.{some_capture_text}
use Rattle.captures_text.specs.CellFilter.{filter_start}
use Rattle.cmd_police.specs.declared.scope.PoliceScope.{PoliceScope}
use Rattle.text_io.specs.Lines.{lines_of}
use Rattle.text_io.specs.declared.ending.Done.{Done}
use Rattle.text_io.specs.declared.ending.Done.TheVariants.{Ended}
use Rattle.cmd_police.specs.PoliceText.{IsPoliceText, police_rules, police_start}
use Rattle.cmd_police.specs.RuleColumn.{ShownRules}
use Rattle.cmd_setups.specs.TimedLines.{waiting_at}
use Rattle.cmd_police.specs.inner.PoliceTotal.{police-total}
use Rattle.cmd_setups.proofs.SetUpLemmas.{FaultOrCard, fault_or_card}

police_some : (scope : PoliceScope) (tick : ℕ) (rules : ShownRules) (script : List ℕ) (times : List (Option ℕ)) (octets : List ℕ) → FaultOrCard script times
    → (text : List ℕ) × (done : Done) × IsPoliceText scope tick rules script times octets text done
police_some scope tick rules script times octets (inl faulty) = (faulty.0, Ended, inl (faulty.1, refl))
police_some scope tick rules script times octets (inr set) =
    let first = police_start scope tick rules set.0 (waiting_at tick times (lines_of script)) in
    let printed = some_capture_text police_rules police-total (filter_start tick scope.link scope.timing) first octets set.2 in
    (printed.0, printed.1, inr (set.0, set.1, printed.2))

-- A setup script, times of its lines and a capture have a text.
pub some_police_text : (scope : PoliceScope) (tick : ℕ) (rules : ShownRules) (script : List ℕ) (times : List (Option ℕ)) (octets : List ℕ)
    → (text : List ℕ) × (done : Done) × IsPoliceText scope tick rules script times octets text done
some_police_text scope tick rules script times octets = police_some scope tick rules script times octets (fault_or_card script times)
