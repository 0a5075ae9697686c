-- A run of `fit` as its state.
use Rattle.std.specs.Prelude.{◌≡◌, ℕ, List, ◌++◌, Option}
use Rattle.captures_text.specs.inner.FixedRules.{world_after}
use Rattle.text_io.specs.declared.machine.Turn.{Turn}
use Rattle.cmd_fit.specs.FitText.{FitWorld}
use Rattle.cmd_fit.specs.declared.fit.FitRun.{FitRun}
use Rattle.cmd_fit.specs.inner.RulesHeld.{rules_held}

-- The state that a run has.
abbrev pub fit_world : FitRun → FitWorld
fit_world run = record {
  scope = record { increment = run.increment; side = run.side; rules = rules_held run.values; clp = run.clp };
  fits = run.flows;
}

-- The answers grew by this text, and the run is then in this state, or ends.
abbrev pub TurnsFit : List ℕ → List ℕ → Turn → FitRun → List ℕ × Option FitWorld → Type 0
TurnsFit old new turn after answer =
    (here : List ℕ) × (new ≡ old ++ here) × (answer ≡ (here, world_after turn (fit_world after)))
