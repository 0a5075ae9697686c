-- How far a run over a capture came.
use Rattle.std.specs.Prelude.{◌≡◌, ℕ, List, ◌++◌}
use Rattle.text_io.specs.declared.ending.Done.{Done}

-- A relation between octets, a text for them, and how the run ends.
abbrev pub Texts : Type 1
Texts = List ℕ → List ℕ → Done → Type 0

-- The state of a run that began with these octets near, before a rest that was not read yet. Now these are near, and
-- the rest is that; `waiting` is what remains to be written of the output so far. The output held `before` at the start
-- and holds `now`. Whatever follows what is near: a text that answers them from here completes a text that answers the
-- whole.
pub record CaptureProgress (Whole Here : Texts) (Known Held : Type 0) (near0 rest0 near rest before now waiting : List ℕ) : Type 0 where
  pub answered : List ℕ
  pub printed : List ℕ
  pub came : Known → (fresh : List ℕ) × (rest0 ≡ fresh ++ rest) × (near0 ++ fresh ≡ answered ++ near)
  pub gave : Held → (given : List ℕ) × (now ≡ before ++ given) × (printed ≡ given ++ waiting)
  pub leads : (more text : List ℕ) (done : Done) → Here (near ++ more) text done → Whole (answered ++ (near ++ more)) (printed ++ text) done

-- Of the rest these octets were read, and together with what was near before they have a text with this end.
abbrev pub HasRead : Texts → List ℕ → List ℕ → List ℕ → Done → Type 0
HasRead Whole near0 rest0 rest done =
    (fresh : List ℕ) × (rest0 ≡ fresh ++ rest) × ((text : List ℕ) × Whole (near0 ++ fresh) text done)
