-- The answer of a machine to a line or to the end of the input. A machine doesn't have to store its world (the state
-- that its rules are about). Instead it shows worlds, by a relation that only laws and contracts use.
use Rattle.std.specs.Prelude.{◌≡◌, ℕ, List, ◌++◌, Option, Some, None}
use Rattle.text_io.specs.Printing.{Rules}
use Rattle.text_io.specs.declared.ending.Done.{Done}
use Rattle.text_io.specs.declared.machine.Turn.{Turn}
use Rattle.text_io.specs.declared.machine.Turn.TheVariants.{GoesOn, Ends}

-- `IsSo` holds of each sound world that is shown.
abbrev pub OfEach : {World : Type 0} → Rules World → (World → Type 0) → (World → Type 0) → Type 0
OfEach {World = World} rules shown IsSo = (world : World) → rules.is_sound world → shown world → IsSo world

-- From the world before, this text answers the line. The line ends the run, or leads to a world that is shown afterwards.
abbrev pub TurnsFrom : {World : Type 0} → Rules World → World → List ℕ → List ℕ → Turn → (World → Type 0) → Type 0
TurnsFrom rules before line here Ends shown = rules.steps before line here None
TurnsFrom {World = World} rules before line here GoesOn shown = (after : World) × shown after × rules.steps before line here (Some after)

-- The answers grew by a text that answers the line, from each world that was shown.
abbrev pub Answers : {World : Type 0} → Rules World → (World → Type 0) → List ℕ → Turn → (World → Type 0) → List ℕ → List ℕ → Type 0
Answers rules shown line turn shown' old new =
    (here : List ℕ) × (new ≡ old ++ here) × OfEach rules shown (λ before. TurnsFrom rules before line here turn shown')

-- The answers grew by a text that answers the end of the input, from each world that was shown.
abbrev pub AnswersEnd : {World : Type 0} → Rules World → (World → Type 0) → Done → List ℕ → List ℕ → Type 0
AnswersEnd rules shown done old new =
    (here : List ℕ) × (new ≡ old ++ here) × OfEach rules shown (λ before. rules.closes before here done)

-- The answer is the line of an error, and the run ends.
abbrev pub EndsBy : {World : Type 0} → List ℕ → List ℕ → Option World → Type 0
EndsBy fault text next = (text ≡ fault) × (next ≡ None)
