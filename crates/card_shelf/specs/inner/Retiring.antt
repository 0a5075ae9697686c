-- When a program can be retired from every card.
use Rattle.std.specs.Prelude.{◌≡◌, ℕ, List, None, Some, slice_get}
use Rattle.gen_arena.specs.declared.id.Id.{Id}
use Rattle.card_core.specs.Agreement.{CoreView}
use Rattle.card_core.specs.Inspection.{IsRetireFault}

-- No card has a reason to keep the program of the id at its place.
abbrev pub EachMayRetire : List CoreView → List Id → Type 0
EachMayRetire cards ids = (number : ℕ) (card : CoreView) (id : Id) → slice_get cards number ≡ Some card
    → slice_get ids number ≡ Some id → IsRetireFault card id None
