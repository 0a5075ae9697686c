-- The octets that were looked at decide what the whole input is.
use Rattle.std.proofs.Common.{◌≡◌, ◌⊎◌, ℕ, List, [], ◌++◌, Some, None, Option, codes, option_map, ap, ◌∙◌}
use Rattle.cmd_explain.specs.InputKinds.{PassesFirst, after_word}
use Rattle.cmd_explain.specs.declared.first_line.InputKind.{InputKind}
use Rattle.cmd_explain.specs.declared.first_line.InputKind.TheVariants.{Source, Rules, Faults, Script}
use Rattle.cmd_explain.specs.inner.FirstLines.{HoldsFirstLine}
use Rattle.cmd_explain.proofs.WordFront.{ahead_decides}

found_on : (word front rest : List ℕ) (found : Option (List ℕ)) → HoldsFirstLine front ⊎ (rest ≡ []) → after_word word front ≡ found
    → after_word word (front ++ rest) ≡ option_map (λ (xs : List ℕ). xs ++ rest) found
found_on word front rest found enough is = ahead_decides word front rest enough ∙ ap (option_map (λ (xs : List ℕ). xs ++ rest)) is

pub passes_on : (kind : InputKind) (front left rest : List ℕ) → HoldsFirstLine front ⊎ (rest ≡ []) → PassesFirst kind front left
    → PassesFirst kind (front ++ rest) (left ++ rest)
passes_on Source front left rest enough is = found_on (codes "source") front rest (Some left) enough is
passes_on Rules front left rest enough is = (
  found_on (codes "source") front rest None enough is.0,
  found_on (codes "rules") front rest (Some left) enough is.1,
)
passes_on Faults front left rest enough is = (
  found_on (codes "source") front rest None enough is.0,
  found_on (codes "rules") front rest None enough is.1,
  found_on (codes "faults") front rest (Some left) enough is.2,
)
passes_on Script front left rest enough is = (
  found_on (codes "source") front rest None enough is.0,
  found_on (codes "rules") front rest None enough is.1,
  found_on (codes "faults") front rest None enough is.2,
  ap (λ (xs : List ℕ). xs ++ rest) is.3,
)
