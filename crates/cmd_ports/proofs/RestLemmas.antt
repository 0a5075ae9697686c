-- The first answered cell of a port is taken.
use Rattle.std.proofs.Common.{◌≡◌, ℕ, List, ◌∷◌, map, Some, ap, sym, ◌∙◌}
use Rattle.std.specs.Prelude.{slice_get, slice_set}
use Rattle.std.specs.Option.{option_map}
use Rattle.std.proofs.lemmas.List.{map-set}
use Rattle.std.proofs.lemmas.Option.{slice_get-map}
use Rattle.cmd_ports.specs.declared.answered.AnsweredCell.{AnsweredCell}
use Rattle.cmd_ports.specs.inner.InOrder.{cells_after}

pub cell-taken : {V : Type 0} (v : V → List AnsweredCell) (items : List V) (number : ℕ) (own later : V) (first : AnsweredCell) → slice_get items number ≡ Some own
    → v own ≡ first ∷ v later → map v (slice_set items number later) ≡ cells_after (map v items) number (slice_get (map v items) number)
cell-taken v items number own later first there is =
    let found : slice_get (map v items) number ≡ Some (first ∷ v later) =
    slice_get-map v items number ∙ ap (option_map v) there ∙ ap (λ (xs : List AnsweredCell). Some xs) is in
    map-set v items number later ∙ sym (ap (cells_after (map v items) number) found)
