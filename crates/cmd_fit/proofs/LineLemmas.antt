-- Answers that grow piece by piece.
use Rattle.std.proofs.Common.{◌≡◌, List, ℕ, ◌++◌, refl, append_assoc}

pub closing-grows : (old heading lines closing after1 after2 last : List ℕ)
    → after1 ≡ old ++ heading → after2 ≡ after1 ++ lines → last ≡ after2 ++ closing → last ≡ old ++ (heading ++ (lines ++ closing))
closing-grows old heading lines closing after1 after2 last e1 e2 e3 = rw (e3, e2, e1) (simp append_assoc refl)
