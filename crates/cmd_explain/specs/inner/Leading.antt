-- The search for a path to a read that passes no store of its word.
use Rattle.std.specs.Prelude.{◌≡◌, ◌⊎◌, ℕ, ◌<◌, ◌≤◌, Bool, true, false, List, get_or}
use Rattle.bpf_code.specs.Flow.{IsSuccessor}
use Rattle.bpf_code.specs.declared.instr.Instr.{Instr}
use Rattle.bpf_verify.specs.Paths.{Stores}

-- Whether the place is marked.
abbrev pub IsMarked : List Bool → ℕ → Type 0
IsMarked marks place = get_or marks place false ≡ true

-- From the place a marked one is reached in a step that stores nothing into the word.
pub record LeadsOn (code : List Instr) (word : ℕ) (marks : List Bool) (place : ℕ) : Type 0 where
  pub quiet : ¬ Stores code word place
  pub next : ℕ
  pub marked : IsMarked marks next
  pub step : IsSuccessor code place next

-- From this place on the marks are right: a place before the read is marked exactly if it leads on, and no place after the read is
-- marked.
pub record MarksFrom (code : List Instr) (word at : ℕ) (marks : List Bool) (from : ℕ) : Type 0 where
  pub sound : (place : ℕ) → IsMarked marks place → (place ≡ at) ⊎ ((place < at) × LeadsOn code word marks place)
  pub whole : (place : ℕ) → from ≤ place → place < at → LeadsOn code word marks place → IsMarked marks place
  pub read : IsMarked marks at
