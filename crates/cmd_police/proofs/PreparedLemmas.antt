-- How it goes on from a setup script that is prepared.
use Rattle.std.proofs.Common.{◌≡◌, ◌∙◌, ℕ, inr, List, Option, ap, subst}
use Rattle.text_io.specs.declared.ending.Done.{Done}
use Rattle.cmd_police.specs.LoadedRules.{shown_rules}
use Rattle.cmd_police.specs.PoliceText.{IsPoliceText}
use Rattle.cmd_police.specs.PolicedCards.{OpensPolicedCard, OpensSetup}
use Rattle.cmd_police.specs.PreparedSetups.{IsPreparedAs}
use Rattle.cmd_police.specs.RuleColumn.{ShownRules}
use Rattle.cmd_police.specs.SetupText.{IsSetupPolicedBy}
use Rattle.cmd_setups.specs.TimedLines.{line_times, without_times}
use Rattle.cmd_police.specs.declared.policed_card.OpenedCard.{OpenedCard}
use Rattle.cmd_police.specs.declared.policed_card.OpenedCard.TheVariants.{Faulty, Ready}
use Rattle.cmd_police.specs.declared.preparing.ReadySetup.{ReadySetup}
use Rattle.cmd_police.specs.declared.scope.PoliceScope.{PoliceScope}
use Rattle.cmd_police.specs.inner.Preparing.{IsReadyFor, script_of}

-- What is so of the stored script and its times is so of a script as which the setup is prepared, and of the times of its lines.
pub goes_on : (setup : List ℕ) (texts : List (List ℕ)) (ready : ReadySetup) (script : List ℕ) (times : List (Option ℕ)) (IsSo : List ℕ → List (Option ℕ) → Type 0)
    → IsReadyFor setup texts ready → script ≡ script_of ready → times ≡ ready.times.items → IsSo script times
    → (script : List ℕ) × IsPreparedAs setup texts script × IsSo script (line_times setup)
goes_on setup texts ready script times IsSo is one other so = (
  script_of ready,
  is.prepared,
  subst (λ (times : List (Option ℕ)). IsSo (script_of ready) times) (other ∙ is.times) (subst (λ (script : List ℕ). IsSo script times) one so),
)

-- The card that the stored script opens is that of the setup.
pub opens_prepared : (tick : ℕ) (setup : List ℕ) (texts : List (List ℕ)) (ready : ReadySetup) (script : List ℕ) (times : List (Option ℕ)) (opened : OpenedCard)
    → IsReadyFor setup texts ready → script ≡ script_of ready → times ≡ ready.times.items → OpensPolicedCard tick script times opened → OpensSetup tick setup texts opened
opens_prepared tick setup texts ready script times (Faulty text) is one other opens =
    inr (goes_on setup texts ready script times (λ script times. OpensPolicedCard tick script times (Faulty text)) is one other opens)
opens_prepared tick setup texts ready script times (Ready policed) is one other opens =
    goes_on setup texts ready script times (λ script times. OpensPolicedCard tick script times (Ready policed)) is one other opens

-- The text of `police` for the stored script, whose plain lines have these rules, is that of the setup.
pub policed_prepared : (IsFault : List ℕ → List ℕ → List ℕ → Type 0) (scope : PoliceScope) (tick : ℕ) (setup : List ℕ) (texts : List (List ℕ)) (ready : ReadySetup)
    (plain script : List ℕ) (times : List (Option ℕ)) (rules : ShownRules) (octets text : List ℕ) (done : Done)
    → IsReadyFor setup texts ready → plain ≡ ready.plain.items → script ≡ script_of ready → times ≡ ready.times.items → rules ≡ shown_rules scope.why plain texts
    → IsPoliceText scope tick rules script times octets text done → IsSetupPolicedBy IsFault scope tick setup texts octets text done
policed_prepared IsFault scope tick setup texts ready plain script times rules octets text done is same one other shown printed =
    inr (goes_on setup texts ready script times
    (λ script times. IsPoliceText scope tick (shown_rules scope.why (without_times setup) texts) script times octets text done) is one other
    (subst (λ (rules : ShownRules). IsPoliceText scope tick rules script times octets text done)
    (shown ∙ ap (λ plain. shown_rules scope.why plain texts) (same ∙ is.plain)) printed))
