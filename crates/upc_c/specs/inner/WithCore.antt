-- Functions that are called with the core of a card, while it is taken out.
use Rattle.std.specs.Prelude.{◌≡◌, Some}
use Rattle.card_core.specs.Agreement.{CoreView}
use Rattle.upc_c.specs.CardHandle.{card_in}
use Rattle.upc_c.specs.declared.card.UpcCard.{UpcCard}
use Rattle.upc_c.specs.inner.ReachedCore.{IsReachedCore}

-- If some log has led to the core before a call of the function, some log has led to the core after it.
abbrev pub KeepsReached : {R : Type 0} → (CoreView → R → CoreView → Type 0) → Type 0
KeepsReached {R} Calls = (old new : CoreView) (answer : R) → IsReachedCore old → Calls old answer new → IsReachedCore new

-- There is a card before and after, and the call took the core of the one to that of the other.
pub record IsCalledOn (before after : UpcCard) (Calls : CoreView → CoreView → Type 0) : Type 0 where
  pub old : CoreView
  pub new : CoreView
  pub had : card_in before ≡ Some old
  pub has : card_in after ≡ Some new
  pub calls : Calls old new
