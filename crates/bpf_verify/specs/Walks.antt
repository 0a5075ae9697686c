-- The check of scratch words, stated over lists of places in the order of execution.
use Rattle.std.specs.Prelude.{◌≡◌, ℕ, ◌+◌, List, [], ◌∷◌, ◌++◌, Some, Any, slice_get}
use Rattle.bpf_code.specs.declared.instr.Instr.{Instr}
use Rattle.bpf_code.specs.Flow.{IsSuccessor}
use Rattle.bpf_verify.specs.Paths.{Reads, Stores}

-- A list of places that begins at 0, and in which each place is a successor of the one before.
pub record IsWalk (code : List Instr) (places : List ℕ) : Type 0 where
  pub begins : slice_get places 0 ≡ Some 0
  pub follows : (k here next : ℕ) → slice_get places k ≡ Some here → slice_get places (k + 1) ≡ Some next
      → IsSuccessor code here next

-- In each such list whose last place reads a word, an earlier place stores that word.
abbrev pub IsWrittenOnEveryWalk : List Instr → Type 0
IsWrittenOnEveryWalk code =
    (earlier : List ℕ) (last word : ℕ) → IsWalk code (earlier ++ last ∷ []) → Reads code word last
    → Any (Stores code word) earlier
