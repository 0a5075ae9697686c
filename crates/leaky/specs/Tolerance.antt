-- The burst tolerance of ITU-T I.371 and ATM Forum TM 4.1.
use Rattle.std.specs.Prelude.{ℕ, zero, suc, ◌+◌, ◌-◌, ◌*◌, List, [], ◌∷◌}

-- BT = (MBS - 1)(T_SCR - T_PCR), for increments T.
abbrev pub tolerance_of : ℕ → ℕ → ℕ → ℕ
tolerance_of mbs ts tp = (mbs - 1) * (ts - tp)

-- This many moments, from the first on, each this gap after the one before.
abbrev pub spaced : ℕ → ℕ → ℕ → List ℕ
spaced zero gap first = []
spaced (suc n) gap first = first ∷ spaced n gap (first + gap)
