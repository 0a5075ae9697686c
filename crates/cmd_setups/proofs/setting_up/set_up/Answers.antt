-- A script leads to its faults, or to the card of its lines before the first time.
use Rattle.std.proofs.Common.{List, ℕ, refl, subst}
use Rattle.cmd_setups.specs.SetUpScripts.{IsFaultOfEither, IsSetUpBy}
use Rattle.cmd_setups.specs.inner.SetUpCard.{RunsWhole}
use Rattle.cmd_setups.proofs.setting_up.set_up.Goals as goal

pub returns-in-Some : goal.returns-in-Some
returns-in-Some c =
    let faulty : IsFaultOfEither c.args.script.now c.before_times-before.result.now c.in-Some.text.items = rw c.in-Some.is at c.in_ok-text.ensures.faulty in
    subst (λ (before : List ℕ). IsFaultOfEither c.args.script.now before c.in-Some.text.items) c.before_times-before.ensures faulty

pub returns : goal.returns
returns c =
    let card = c.in_ok-card.ensures in
    let whole : RunsWhole c.args.script.now = rw c.in_default.is at c.in_ok-text.ensures.faultless in
    record {
      card = card.card;
      reached = record {
        explanation = whole.0;
        faultless = whole.1;
        before = subst (λ (before : List ℕ). IsSetUpBy before card.card) c.before_times-before.ensures card.reached;
      };
      led = card.led;
      shown = record { held = card.shown; at_setup = card.at_setup; waits = c.in_ok-commands.ensures };
    }
