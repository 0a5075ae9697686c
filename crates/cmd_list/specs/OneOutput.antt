-- What it means that an input has one output.
use Rattle.std.specs.Prelude.{◌≡◌, ℕ, List}
use Rattle.text_io.specs.declared.ending.Done.{Done}

-- An input has at most one output, with one end.
abbrev pub HasOneOutput : (List ℕ → List ℕ → Done → Type 0) → Type 0
HasOneOutput IsOutput = (octets one other : List ℕ) (ends other_ends : Done)
    → IsOutput octets one ends → IsOutput octets other other_ends → (one ≡ other) × (ends ≡ other_ends)
