-- Virtual scheduling, the other form of the algorithm in ITU-T I.371, annex A. Its state is one number: TAT, the
-- theoretical arrival time of the next cell.
use Rattle.std.specs.Prelude.{ℕ, ◌+◌, nat_lt, Bool, true, false, if◌then◌else◌, List, [], ◌∷◌}
use Rattle.leaky.specs.declared.gcra.Gcra.{Gcra}

-- Whether a cell conforms: if TAT < ta, it does; else if TAT > ta + tau, it doesn't; else it does.
abbrev pub is_due : Gcra → ℕ → ℕ → Bool
is_due gcra due moment =
    if nat_lt due moment then true
    else if nat_lt (moment + gcra.limit) due then false
    else true

-- The next TAT. In these three cases it is ta + T, TAT, and TAT + T.
abbrev pub due_after : Gcra → ℕ → ℕ → ℕ
due_after gcra due moment =
    if nat_lt due moment then moment + gcra.increment
    else if nat_lt (moment + gcra.limit) due then due
    else due + gcra.increment

-- For cells at these moments, in order: whether each conforms.
abbrev pub scheduled : Gcra → ℕ → List ℕ → List Bool
scheduled gcra due [] = []
scheduled gcra due (moment ∷ moments) =
    is_due gcra due moment ∷ scheduled gcra (due_after gcra due moment) moments
