-- That texts have one answer, unless nothing is decided.
use Rattle.std.specs.Prelude.{◌≡◌, ℕ, Bool, List}
use Rattle.cmd_differ.specs.DifferText.{IsDifferText}
use Rattle.cmd_differ.specs.UnusedText.{IsUnusedText}
use Rattle.cmd_differ.specs.declared.finding.Finding.{Finding}
use Rattle.cmd_differ.specs.declared.finding.Finding.TheVariants.{Nothing, Something, Faulty, Undecided}
use Rattle.cmd_differ.specs.declared.kinds.TextKinds.{TextKinds}

-- The finding is another than that nothing is decided.
abbrev pub IsDecisive : Finding → Type 0
IsDecisive Nothing = Unit {0}
IsDecisive Something = Unit {0}
IsDecisive Faulty = Unit {0}
IsDecisive Undecided = ⊥

-- Two answers of `differ` to the same texts are the same octets, with the same finding.
abbrev pub TwoTextsHaveOneAnswer : Type 0
TwoTextsHaveOneAnswer = (kinds : TextKinds) (lines : Bool) (old octets answer other : List ℕ) (finding also : Finding)
    → IsDifferText kinds lines old octets answer finding → IsDifferText kinds lines old octets other also → IsDecisive finding → IsDecisive also → (answer ≡ other) × (finding ≡ also)

-- Two answers of `unused` to the same text are the same octets, with the same finding.
abbrev pub ATextHasOneAnswer : Type 0
ATextHasOneAnswer = (octets answer other : List ℕ) (finding also : Finding) → IsUnusedText octets answer finding → IsUnusedText octets other also
    → IsDecisive finding → IsDecisive also → (answer ≡ other) × (finding ≡ also)
