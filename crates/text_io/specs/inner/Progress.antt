-- Progress through an input.
use Rattle.std.specs.Prelude.{◌≡◌, ℕ, ◌+◌, List, ◌∷◌, ◌++◌}
use Rattle.text_io.specs.Lines.{Line, lines_of}
use Rattle.text_io.specs.Printing.{Rules, Prints, EndsAt}
use Rattle.text_io.specs.Answering.{OfEach}
use Rattle.text_io.specs.declared.ending.Done.{Done}
use Rattle.text_io.specs.declared.ending.Done.TheVariants.{Whole, Ended}
use Rattle.text_io.specs.declared.machine.Turn.{Turn}
use Rattle.text_io.specs.declared.machine.Turn.TheVariants.{GoesOn, Ends}

-- Loop invariant: the output so far, followed by any valid answer to the rest from the present world, is a valid
-- answer to the whole input.
abbrev pub IsProgress : {World : Type 0} → Rules World → World → List ℕ → List ℕ → ℕ → World → Type 0
IsProgress rules start answered printed met present =
    (later more : List ℕ) (done : Done) → Prints rules met present (lines_of later) more done
    → Prints rules 0 start (lines_of (answered ++ later)) (printed ++ more) done

-- If the rest leads from the present world to a last world, the whole input leads from the start to this last world.
abbrev pub KeepsEnding : {World : Type 0} → Rules World → World → List ℕ → List ℕ → ℕ → World → Type 0
KeepsEnding {World = World} rules start answered printed met present =
    (later more : List ℕ) (last : World) → EndsAt rules met present (lines_of later) more last
    → EndsAt rules 0 start (lines_of (answered ++ later)) (printed ++ more) last

-- There is a present world with IsProgress and KeepsEnding. It is sound and shown.
pub record Reaches {World : Type 0} (rules : Rules World) (start : World) (answered printed : List ℕ) (met : ℕ) (shown : World → Type 0) : Type 0 where
  pub present : World
  pub sound : rules.is_sound present
  pub is_shown : shown present
  pub leads : IsProgress rules start answered printed met present
  pub reaches : KeepsEnding rules start answered printed met present

-- The state of a run. `left` is what remains to be answered of the whole input, and `waiting` what remains to be
-- written of the output so far. The output held `before` at the start and holds `now`.
pub record Progress {World : Type 0} (rules : Rules World) (shown shown' : World → Type 0) (Known Held : Type 0)
    (whole left : List ℕ) (before now waiting : List ℕ) (met : ℕ) : Type 0 where
  pub answered : List ℕ
  pub printed : List ℕ
  pub came : Known → whole ≡ answered ++ left
  pub gave : Held → (given : List ℕ) × (now ≡ before ++ given) × (printed ≡ given ++ waiting)
  pub reaches : OfEach rules shown (λ start. Reaches rules start answered printed met shown')

-- The text answers the line. The line ends the run, whatever lines follow. Or the line leads to a sound world that is
-- shown. Then this text and an answer to the lines after it answer the line and those lines, and lead to the last world to
-- which that answer leads.
abbrev pub PassesBy : {World : Type 0} → Rules World → ℕ → World → Line → List ℕ → Turn → (World → Type 0) → Type 0
PassesBy rules met before line here Ends shown = (lines : List Line) → Prints rules met before (line ∷ lines) here Ended
PassesBy {World = World} rules met before line here GoesOn shown =
    (after : World) × rules.is_sound after × shown after
    × ((lines : List Line) (more : List ℕ) (done : Done) → Prints rules (met + 1) after lines more done
    → Prints rules met before (line ∷ lines) (here ++ more) done)
    × ((lines : List Line) (more : List ℕ) (last : World) → EndsAt rules (met + 1) after lines more last
    → EndsAt rules met before (line ∷ lines) (here ++ more) last)

-- The answers grew by a text that answers the line, from each world that was shown.
abbrev pub Passes : {World : Type 0} → Rules World → ℕ → (World → Type 0) → Line → Turn → (World → Type 0) → List ℕ → List ℕ → Type 0
Passes rules met shown line turn shown' old new =
    (here : List ℕ) × (new ≡ old ++ here) × OfEach rules shown (λ before. PassesBy rules met before line here turn shown')

-- The text answers the lines of the octets and the end of the input. After Whole the lines lead to a world that is shown.
abbrev pub Concludes : {World : Type 0} → Rules World → ℕ → (World → Type 0) → List ℕ → World → List ℕ → Done → Type 0
Concludes {World = World} rules met shown octets before here done =
    Prints rules met before (lines_of octets) here done
    × (done ≡ Whole → (last : World) × shown last × EndsAt rules met before (lines_of octets) here last)
