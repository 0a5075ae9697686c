-- Commands between cells lead from a state of a run to a state.
use Rattle.std.proofs.Common.{ℕ, ◌||◌, List, refl, sym, subst}
use Rattle.text_io.specs.Words.{is_filled}
use Rattle.cmd_run.specs.RunText.{IsLed}
use Rattle.cmd_police.specs.PoliceText.{CarriesOutDue, PoliceWorld}
use Rattle.cmd_setups.specs.inner.CommandLaws.{carries_led, carries_some}

-- They lead to a state whose card a log leads to.
pub due_state_led : (before ready : PoliceWorld) (moment : ℕ) (text : List ℕ) → IsLed before.card → CarriesOutDue before moment text ready → IsLed ready.card
due_state_led before ready moment text led due =
    subst (λ (world : PoliceWorld). IsLed world.card) (sym due.is) (carries_led before.waiting due.left moment before.card due.card text led due.carried)

pub due_state_some : (before : PoliceWorld) (moment : ℕ) → IsLed before.card → (text : List ℕ) × (ready : PoliceWorld) × CarriesOutDue before moment text ready
due_state_some before moment led =
    let some = carries_some before.waiting moment before.card led in (
      some.text,
      record before { card = some.after; waiting = some.left; commanded = before.commanded || is_filled some.text },
      record { card = some.after; left = some.left; carried = some.carried; is = refl },
    )
