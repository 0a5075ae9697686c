-- The names of the files that were met.
use Rattle.std.specs.Prelude.{◌≡◌, ℕ, Bool, List}
use Rattle.std.specs.BTreeSet.{contains_by}
use Rattle.std.specs.Cmp.Lexicographic.{slice_cmp}
use Rattle.std.specs.Ordering.{nat_cmp}
use Rattle.upc_lab.specs.SetupHints.{is_known}
use Rattle.upc_lab.specs.declared.setup_hints.NamesMet.{NamesMet}

-- Whether the name was met.
abbrev pub has_name : NamesMet → List ℕ → Bool
has_name met name = contains_by (λ key. slice_cmp nat_cmp name key.now) met.names

-- The names that were met are these.
abbrev pub HasNames : NamesMet → List (List ℕ) → Type 0
HasNames met names = (name : List ℕ) → has_name met name ≡ is_known names name
