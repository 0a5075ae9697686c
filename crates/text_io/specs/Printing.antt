-- The text that answers an input, line by line. The rules of a machine say how: they are steps from world to world,
-- and a line that ends the run leads to no world.
use Rattle.std.specs.Prelude.{◌≡◌, ℕ, ◌+◌, List, [], ◌∷◌, ◌++◌, false, Option, Some, MatchOption, MatchBool}
use Rattle.text_io.specs.Lines.{Line, line_content}
use Rattle.text_io.specs.Limits.{is_over}
use Rattle.text_io.specs.declared.ending.Done.{Done}
use Rattle.text_io.specs.declared.ending.Done.TheVariants.{Whole, Ended}

-- The rules of a machine. A world is the state that they are about.
pub record Rules (World : Type 0) : Type 1 where
  -- From this world, the text may answer a line of this content and lead to the next world, or to none if the run
  -- ends.
  pub steps : World → List ℕ → List ℕ → Option World → Type 0
  -- In this world, the text may answer the end of the input, and the run then ends in this way.
  pub closes : World → List ℕ → Done → Type 0
  -- The answer to a line over the limits. It ends the run.
  pub too_long : List ℕ
  -- Invariant of the worlds that a run reaches.
  pub is_sound : World → Type 0

-- In a sound world each line and the end of the input have some answer, and a line leads only to sound worlds.
pub record IsTotal {World : Type 0} (rules : Rules World) : Type 0 where
  pub keeps : (before : World) (line here : List ℕ) (after : World)
      → rules.is_sound before → rules.steps before line here (Some after) → rules.is_sound after
  pub step : (before : World) (line : List ℕ) → rules.is_sound before
      → (here : List ℕ) × (next : Option World) × rules.steps before line here next
  pub close : (before : World) → rules.is_sound before → (here : List ℕ) × (done : Done) × rules.closes before here done

-- In each world, a line and the end of the input have at most one answer, and a line leads to at most one world.
pub record IsFunctional {World : Type 0} (rules : Rules World) : Type 0 where
  pub step : (before : World) (line here here' : List ℕ) (next next' : Option World)
      → rules.steps before line here next → rules.steps before line here' next' → (here ≡ here') × (next ≡ next')
  pub close : (before : World) (here here' : List ℕ) (done done' : Done)
      → rules.closes before here done → rules.closes before here' done' → (here ≡ here') × (done ≡ done')

-- From this world, after `met` lines, the text may answer these lines and the end of the input.
abbrev pub Prints : {World : Type 0} → Rules World → ℕ → World → List Line → List ℕ → Done → Type 0
Prints rules met world [] text done = rules.closes world text done
Prints {World = World} rules met world (line ∷ lines) text done =
    MatchBool (is_over met line)
    ((text ≡ rules.too_long) × (done ≡ Ended))
    ((here : List ℕ) × (more : List ℕ) × (next : Option World) × (text ≡ here ++ more) × rules.steps world (line_content line) here next
    × MatchOption next ((more ≡ []) × (done ≡ Ended)) (λ world'. Prints rules (met + 1) world' lines more done))

-- From this world, after `met` lines, the text answers these lines and the end of the input, and the lines lead to the
-- last world. None of them is over the limits or ends the run.
abbrev pub EndsAt : {World : Type 0} → Rules World → ℕ → World → List Line → List ℕ → World → Type 0
EndsAt rules met world [] text last = (last ≡ world) × rules.closes world text Whole
EndsAt {World = World} rules met world (line ∷ lines) text last =
    (is_over met line ≡ false)
    × ((here : List ℕ) × (more : List ℕ) × (next : World) × (text ≡ here ++ more) × rules.steps world (line_content line) here (Some next)
    × EndsAt rules (met + 1) next lines more last)

-- The text is a prefix of one of the whole texts.
abbrev pub IsFront : (List ℕ → Done → Type 0) → List ℕ → Type 0
IsFront IsWhole text = (more : List ℕ) × (done : Done) × IsWhole (text ++ more) done
